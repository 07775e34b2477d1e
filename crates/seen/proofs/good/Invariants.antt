-- `seen::good`: the loop's invariant says that no number so far has both marks.
-- Assumes nothing.
use Rattle.seen.proofs.Goods.{Ahead}
use Rattle.seen.proofs.good.Given as goal

abbrev pub invariant-loop-child : goal.invariant-loop-child
invariant-loop-child l = Ahead l.fn.s l.child-iterator.a.rest.now l.child-iterator.b.rest.now
