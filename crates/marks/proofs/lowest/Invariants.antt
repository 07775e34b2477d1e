-- `marks::lowest`: the loop's invariant is `Choosing`: so many are chosen, and the others lie ahead.
-- Assumes nothing.
use Rattle.marks.proofs.Choosing.{Choosing}
use Rattle.marks.proofs.lowest.Given as goal

abbrev pub invariant-loop : goal.invariant-loop
invariant-loop l = Choosing l.s l.entered l.pages l.counter l.from
