-- `seen::up_to`: the loop's invariant says that the entries before j have passed.
-- Assumes nothing.
use Rattle.seen.proofs.Spans.{Passed}
use Rattle.seen.proofs.up_to.Given as goal

abbrev pub invariant-loop-j : goal.invariant-loop-j
invariant-loop-j l = Passed l.page l.from l.count l.key l.j
