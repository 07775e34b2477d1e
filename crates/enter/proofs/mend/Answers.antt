-- `enter::mend`: damaged, or the page built and read back.
-- Assumes nothing.
use mathlib.Core.Path.{sym, ap, ◌∙◌}
use Rattle.rules.specs.Table.{read}
use Rattle.rules.proofs.Entries.Places.{mendable_true}
use Rattle.build.proofs.Sounds.{mendable_ordered}
use Rattle.head.specs.Head.{head_in}
use Rattle.enter.proofs.Told.{mend-damaged}
use Rattle.enter.proofs.Mended.{mended-told}
use native.Mathlib.Omega.{arith}
use Rattle.enter.proofs.mend.Goals as goal

pub returns-then-not-mendable_at : goal.returns-then-not-mendable_at
returns-then-not-mendable_at c =
    let args = c.args in
    let mendable-at = c.mendable_at in
    mend-damaged args.n args.c args.t.now args.e args.reason
    (sym mendable-at.ensures ∙ c.if-not-mendable_at.true)

pub build_mended-requires : goal.build_mended-requires
build_mended-requires c =
    let args = c.args in
    let mendable-at = c.mendable_at in
    let m = sym mendable-at.ensures ∙ c.if-not-mendable_at.false in
    let f = mendable_true args.n args.e (read args.t.now args.e.previous) m in record { page_size_in_bounds = (omega arith, omega (arith, f.below)); ordered = mendable_ordered args.n args.e (read args.t.now args.e.previous) m }

pub returns : goal.returns
returns c =
    let args = c.args in
    let fits = c.ranges in
    let pre = c.requires in
    let slice-known = c.slice_known-1 in
    let mendable-at = c.mendable_at in
    let if1 = c.if-not-mendable_at in
    let build-mended = c.build_mended in
    let struct_known = c.struct_known-1 in
    mended-told args.n args.c args.t.now args.e slice-known.given record
    { counter = omega (arith, fits.c); birth = omega (arith, struct_known.given.1.1.0); low = omega (arith, struct_known.given.1.1.1.0); high = omega (arith, struct_known.given.1.1.1.1.0) }
    pre.0 pre.1 (sym mendable-at.ensures ∙ if1.false)
    build-mended.new.table c.read_head-head.result args.reason build-mended.ensures (c.read_head-head.ensures ∙ ap head_in c.page_at.ensures.bytes)
