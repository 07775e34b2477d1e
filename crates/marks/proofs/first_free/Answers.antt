-- `marks::first_free`: the loop's invariant says that what was passed was not free.
-- Assumes nothing.
use mathlib.Core.Path.{refl, sym, ◌∙◌}
use Rattle.marks.specs.Lowest.{first_of}
use Rattle.marks.proofs.Search.{free-here, free-later, free-end}
use Rattle.marks.proofs.first_free.Goals as goal

pub loop-i-init : goal.loop-i-init
loop-i-init c = refl

pub returns-then-counts : goal.returns-then-counts
unfolding first_of
returns-then-counts c =
    let args = c.args in
    let loop = c.loop-i in
    rw
    (loop.invariant, free-here args.s.now args.entered.now loop.i c.loop-i-test.true (sym c.counts.ensures ∙ c.if-counts.true))

pub loop-i-preserved : goal.loop-i-preserved
loop-i-preserved c =
    let args = c.args in
    let loop = c.loop-i in
    loop.invariant ∙ free-later args.s.now args.entered.now loop.i c.loop-i-test.true
    (sym c.counts.ensures ∙ c.if-counts.false)

pub returns : goal.returns
unfolding first_of
returns c =
    let args = c.args in
    let loop = c.loop-i in
    rw (loop.invariant, free-end args.s.now args.entered.now loop.i c.loop-i-test.false)
