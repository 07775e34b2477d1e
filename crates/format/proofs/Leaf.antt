-- The first leaf's bytes, written field by field over zeros. Assumes nothing.
use mathlib.Core.Path.{◌≡◌, refl}
use lib.ListN.{length}
use Rattle.fields.specs.Field.{le, put_at}
use Rattle.rules.specs.Layout.{page_size, leaf_kind, last_key}
use Rattle.rules.specs.Page.{count, write_each, header_bytes, page_bytes, over, blank, build_bytes, fresh}
use Rattle.rules.specs.Format.{empty_leaf}
use Rattle.format.specs.Formats.{first_leaf}

pub length-blank : length blank ≡ page_size
unfolding blank
length-blank = refl

pub leaf-bytes : put_at (put_at (put_at (put_at (put_at blank 0 2 leaf_kind) 4 4 1) 8 4 1) 12 4 1) 24 8 last_key ≡ build_bytes first_leaf
unfolding le put_at count write_each header_bytes page_bytes over blank build_bytes fresh empty_leaf
leaf-bytes = refl
