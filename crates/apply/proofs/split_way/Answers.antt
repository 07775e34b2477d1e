-- `apply::split_way`: at each turn what is left to be halved makes of the table at hand what it made of the first one.
-- Assumes nothing.
use Prim.Native.Nat.{◌-◌}
use mathlib.Core.Path.{refl, ◌∙◌}
use Rattle.rules.specs.Insert.{making}
use Rattle.apply.specs.Leads.{step_on}
use Rattle.apply.proofs.Down.{way-starts, enough-halves}
use Rattle.apply.proofs.Marks.{first, first-asks, turned-first, turned-asks, turned-next, turned-last}
use native.Mathlib.Omega.{arith}
use Rattle.apply.proofs.split_way.Goals as goal

pub start-at-requires : goal.start-at-requires
start-at-requires c = way-starts c.requires.ready c.splits-many.result c.splits-many.ensures

pub loop-i-init : goal.loop-i-init
loop-i-init c =
    let args = c.args in (
      omega arith,
      λ s a. turned-first args.c args.key args.way.now args.pages.now c.splits-many.result (making c.start-at.new.table s c.start-at.result) a,
      refl,
    )

pub bounds-way-i : goal.bounds-way-i
bounds-way-i c =
    omega (arith, c.loop-i.invariant.0, c.loop-i-test.true, (way-starts c.requires.ready c.splits-many.result c.splits-many.ensures).short)

pub offset_bounds-way-i : goal.offset_bounds-way-i
offset_bounds-way-i c =
    let starts = way-starts c.requires.ready c.splits-many.result c.splits-many.ensures in
    omega (arith, c.loop-i.invariant.0, c.loop-i-test.true, starts.short, starts.len)

pub twins-requires : goal.twins-requires
twins-requires c =
    let starts = way-starts c.requires.ready c.splits-many.result c.splits-many.ensures in (
      omega (arith, c.loop-i.invariant.0, c.loop-i-test.true, starts.short, starts.len),
      omega (arith, c.loop-i.invariant.0, c.loop-i-test.true, enough-halves c.requires.ready c.splits-many.result c.splits-many.ensures),
    )

pub halve-at-requires : goal.halve-at-requires
halve-at-requires c =
    let args = c.args in
    let pre = c.requires in
    let splits = c.splits-many in
    let start = c.start-at in
    let loop = c.loop-i in
    let asks = first-asks pre splits.result splits.ensures start.new.table start.result start.ensures in
    let m = first pre splits.result splits.ensures start.new.table start.result start.ensures in
    rw c.twins.ensures
    (turned-asks args.c args.key args.way.now args.pages.now splits.result m loop.i c.loop-i-test.true
    (loop.invariant.1 m.session asks) (step_on args.way.now (loop.i - 1)) refl)

pub loop-i-preserved : goal.loop-i-preserved
loop-i-preserved c =
    let args = c.args in
    let loop = c.loop-i in
    let start = c.start-at in (
      omega (arith, loop.invariant.0),
      λ s a. turned-next args.c args.key args.way.now args.pages.now c.splits-many.result (making start.new.table s start.result) loop.i c.loop-i-test.true
          (loop.invariant.1 s a) (step_on args.way.now (loop.i - 1)) refl c.halve-at.new.table c.halve-at.result (rw c.twins.ensures at c.halve-at.ensures),
      c.halve-at.auto.table ∙ loop.invariant.2,
    )

pub shape_of-table : goal.shape_of-table
shape_of-table c = omega (arith, c.loop-i.invariant.2, c.start-at.auto.table)

pub returns : goal.returns
returns c =
    let splits = c.splits-many in
    let start = c.start-at in
    let loop = c.loop-i in
    λ y.
    let asks = first-asks y splits.result splits.ensures start.new.table start.result start.ensures in
    let m = first y splits.result splits.ensures start.new.table start.result start.ensures in
    turned-last y splits.result splits.ensures start.new.table start.result start.ensures loop.i
    (omega (arith, c.loop-i-test.false)) loop.table loop.at (loop.invariant.1 m.session asks)
