-- `seen::good`: the loop's invariant says that no number so far has both marks.
-- Assumes nothing.
use mathlib.Core.Logic.{inl, inr}
use Rattle.seen.proofs.Goods.{both-marked, one_at_most, no_child, no_spared}
use Rattle.seen.proofs.good.Goals as goal

pub returns-then-child-spared : goal.returns-then-child-spared
returns-then-child-spared c =
    let now = c.in-Some.ensures.steps in
    both-marked c.args.s c.loop-child.child-iterator.a.rest.now c.loop-child.child-iterator.b.rest.now c.loop-child.invariant c.in-Some.child.now c.in-Some.spared.now _ _ now.0 now.1
    c.if-child-spared.true

pub loop-child-preserved : goal.loop-child-preserved
loop-child-preserved c =
    let now = c.in-Some.ensures.steps in
    one_at_most c.args.s c.loop-child.child-iterator.a.rest.now c.loop-child.child-iterator.b.rest.now c.loop-child.invariant c.in-Some.child.now c.in-Some.spared.now _ _ now.0 now.1
    c.if-child-spared.false

pub returns : goal.returns
returns c = elim c.in-None.ensures.steps [
  | inl h ↦ no_child c.args.s c.loop-child.child-iterator.a.rest.now c.loop-child.child-iterator.b.rest.now c.loop-child.invariant h.1.0
  | inr h ↦ no_spared c.args.s c.loop-child.child-iterator.a.rest.now c.loop-child.child-iterator.b.rest.now c.loop-child.invariant h.1.0
]
