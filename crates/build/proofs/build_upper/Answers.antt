-- `build::build_upper`: the upper half is the range from the half up to the count (Halves).
-- Assumes nothing.
use Rattle.rules.specs.Page.{page_in}
use Rattle.rules.specs.Table.{page_at, read}
use Rattle.rules.specs.Insert.{upper_page}
use Rattle.rules.proofs.Bytes.Pages.{count-view_in}
use Rattle.head.specs.Head.{head_in}
use Rattle.build.proofs.Halves.{upper_half_lem, half_below}
use native.Mathlib.Omega.{arith}
use Rattle.build.proofs.build_upper.Goals as goal

pub build_range-requires : goal.build_range-requires
unfolding read page_in head_in
build_range-requires c =
    let pre = c.requires in
    let b = page_at c.args.table.now c.args.from in
    let half = half_below b pre.divides in
    record {
      page_size_in_bounds = pre.page_size_in_bounds;
      roomy = pre.divides.roomy;
      first_bound = (rw (c.half_of.ensures, c.read_head-head.ensures, c.page_at.ensures.bytes, count-view_in b) (omega arith), rw (c.read_head-head.ensures, c.page_at.ensures.bytes, count-view_in b) (omega arith));
    }

pub returns : goal.returns
unfolding upper_page read page_in head_in
returns c =
    let b = page_at c.args.table.now c.args.from in
    rw (c.build_range.ensures, c.middle_at-low.ensures, c.half_of.ensures, c.read_head-head.ensures, c.page_at.ensures.bytes, upper_half_lem b (half_below b c.requires.divides))
