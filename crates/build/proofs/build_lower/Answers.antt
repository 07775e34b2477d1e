-- `build::build_lower`: the lower half is the range from 0 up to the half (Halves).
-- Assumes nothing.
use Rattle.rules.specs.Page.{page_in}
use Rattle.rules.specs.Table.{page_at, read}
use Rattle.rules.specs.Insert.{lower_page}
use Rattle.rules.proofs.Bytes.Pages.{count-view_in}
use Rattle.head.specs.Head.{head_in}
use Rattle.build.proofs.Halves.{lower_half_lem, half_below}
use native.Mathlib.Omega.{arith}
use Rattle.build.proofs.build_lower.Goals as goal

pub build_range-requires : goal.build_range-requires
unfolding read page_in head_in
build_range-requires c =
    let pre = c.requires in
    let b = page_at c.args.table.now c.args.from in
    record {
      page_size_in_bounds = pre.page_size_in_bounds;
      roomy = pre.divides.roomy;
      first_bound = (omega arith, rw (c.half_of.ensures, c.read_head-head.ensures, c.page_at.ensures.bytes, count-view_in b) (omega (arith, half_below b pre.divides)));
    }

pub returns : goal.returns
unfolding lower_page read page_in head_in
returns c =
    let b = page_at c.args.table.now c.args.from in
    rw (c.build_range.ensures, c.middle_at-high.ensures, c.half_of.ensures, c.read_head-head.ensures, c.page_at.ensures.bytes, lower_half_lem b (half_below b c.requires.divides))
