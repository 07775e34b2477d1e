-- `write::fill`: at each turn, what was put and what is left of the walk come to what the rules' walk finds. Assumes nothing.
use mathlib.Core.Path.{◌≡◌}
use lib.ListN.{length}
use Rattle.leaves.specs.Walks.{keys_left}
use Rattle.write.proofs.Filling.{Filling}
use Rattle.write.proofs.fill.Given as goal

abbrev pub invariant-loop-step : goal.invariant-loop-step
invariant-loop-step l = (length l.t ≡ length l.initial.t) × (length l.out ≡ length l.initial.out) × Filling l.n l.c l.a l.s l.initial.t l.initial.out l.t l.walk l.tally l.out

abbrev pub decreases-loop-step : goal.decreases-loop-step
decreases-loop-step l = keys_left l.walk
