-- `build::build_mended`: where keys rise, the entries in a range of keys are a run of the previous page (Cuts).
-- Assumes nothing.
use Rattle.rules.specs.Page.{page_in}
use Rattle.rules.specs.Place.{mended}
use Rattle.rules.specs.Table.{page_at, read}
use Rattle.rules.proofs.Bytes.Tables.{length-page_at}
use Rattle.build.proofs.Cuts.{cut_view_lem, start-count, spot-count}
use native.Mathlib.Omega.{arith}
use Rattle.build.proofs.build_mended.Goals as goal

pub run_in-run-requires : goal.run_in-run-requires
unfolding read page_in
run_in-run-requires c =
    let a = c.args in
    let pre = c.requires in
    rw c.page_at.ensures.bytes record {
      page_len = length-page_at a.table.now a.e.previous
          (omega arith);
      roomy = pre.ordered.roomy;
    }

pub build_range-requires : goal.build_range-requires
unfolding read page_in
build_range-requires c =
    let run_in = c.run_in-run in
    let a = c.args in
    let pre = c.requires in
    rw (run_in.ensures.0, run_in.ensures.1, c.page_at.ensures.bytes)
    record { page_size_in_bounds = (omega arith, omega arith); roomy = pre.ordered.roomy; first_bound = (start-count (page_at a.table.now a.e.previous) a.e.low, spot-count (page_at a.table.now a.e.previous) a.e.high) }

pub returns : goal.returns
unfolding read page_in mended
returns c =
    let build-range = c.build_range in
    let run_in = c.run_in-run in
    let a = c.args in
    let pre = c.requires in
    rw (
      build-range.ensures,
      run_in.ensures.0,
      run_in.ensures.1,
      c.page_at.ensures.bytes,
      cut_view_lem (page_at a.table.now a.e.previous) a.e.low a.e.high
          pre.ordered,
    )
