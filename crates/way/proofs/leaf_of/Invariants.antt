-- `way::leaf_of`: beside the loop runs the whole way, of which it keeps the end.
-- Assumes nothing.
use Rattle.rules.specs.Report.{nothing}
use Rattle.way.proofs.Ending.{Seeking}
use Rattle.way.proofs.leaf_of.Given as goal

abbrev pub invariant-loop-level : goal.invariant-loop-level
invariant-loop-level l = Seeking l.n l.c l.key l.initial.t l.t l.above l.e l.level nothing l.report

abbrev pub decreases-loop-level : goal.decreases-loop-level
decreases-loop-level l = l.level
