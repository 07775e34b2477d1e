-- `marks::lowest`: the loop's invariant is `Choosing`: so many are chosen, and the others lie ahead.
-- Assumes nothing.
use mathlib.Core.Path.{sym, ◌∙◌}
use Rattle.marks.proofs.Search.{free-first}
use Rattle.marks.proofs.Choosing.{choosing_none, choosing_more, choosing_nothing}
use native.Mathlib.Omega.{arith}
use Rattle.marks.proofs.lowest.Goals as goal

pub loop-init : goal.loop-init
loop-init c = rw c.new-pages.ensures (choosing_none c.args.s.now c.args.entered.now)

pub overflow_add-from : goal.overflow_add-from
overflow_add-from c =
    let found = sym c.first_free.ensures ∙ c.in-Some.is in
    omega (arith, c.requires, (free-first c.args.s.now c.args.entered.now c.loop.from c.in-Some.i found).0)

pub loop-preserved : goal.loop-preserved
loop-preserved c =
    let found = sym c.first_free.ensures ∙ c.in-Some.is in
    rw c.push.ensures (choosing_more c.args.s.now c.args.entered.now c.loop.invariant c.in-Some.i found)

pub returns-in_default : goal.returns-in_default
returns-in_default c =
    let none = sym c.first_free.ensures ∙ c.in_default.is in
    choosing_nothing c.args.s.now c.args.entered.now c.loop.invariant c.args.need c.loop.auto.counter-end none
