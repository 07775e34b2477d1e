-- `any::look`: at each turn nothing is found yet, and the walk behind the last leaf is what is left to do. Assumes nothing.
use Rattle.leaves.specs.Walks.{keys_left}
use Rattle.any.proofs.Turns.{Going}
use Rattle.any.proofs.look.Given as goal

abbrev pub invariant-loop-step : goal.invariant-loop-step
invariant-loop-step l = Going l.n l.c l.fn.low l.fn.high l.initial.t l.t l.walk

abbrev pub decreases-loop-step : goal.decreases-loop-step
decreases-loop-step l = keys_left l.walk
