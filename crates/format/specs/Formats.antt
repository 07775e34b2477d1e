-- What the parts of format make, each a piece of the rules' `formatted`.
use Rattle.std.specs.Prelude.{ℕ, List}
use Rattle.fields.specs.Field.{put_at}
use Rattle.rules.specs.Layout.{zero_kind, last_key}
use Rattle.rules.specs.Page.{Page, fresh}
use Rattle.rules.specs.Table.{set_number, set_root}
use Rattle.rules.specs.Format.{Formatting, empty_leaf}
use Rattle.rules.specs.Answer.{Formatted}

-- what a format leaves
abbrev pub formatting : Formatted → List ℕ → Formatting
formatting answer stable = record { answer = answer; stable = stable }

-- page 0
unfoldable pub named : ℕ → List ℕ → List ℕ
named n t = set_root (set_number (put_at (put_at t 0 2 zero_kind) 2 2 n) 2) 1 0 1

-- page 1
abbrev pub first_leaf : Page
first_leaf = fresh 1 1 0 last_key empty_leaf
