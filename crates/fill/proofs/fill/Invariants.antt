-- `fill::fill`: at each turn, what stands in the lists and what is left of the walk come to what the rules fill in.
-- Assumes nothing.
use mathlib.Core.Path.{◌≡◌}
use lib.ListN.{length}
use Rattle.leaves.specs.Walks.{keys_left}
use Rattle.fill.proofs.Fills.{Writing}
use Rattle.fill.proofs.fill.Given as goal

abbrev pub invariant-loop-filled : goal.invariant-loop-filled
invariant-loop-filled l = (length l.t ≡ length l.initial.t) × (length l.keys ≡ length l.initial.keys) × (length l.records ≡ length l.initial.records) × Writing l.n l.c l.a l.initial.t l.initial.keys l.initial.records l.t l.walk l.filled l.keys l.records

abbrev pub decreases-loop-filled : goal.decreases-loop-filled
decreases-loop-filled l = keys_left l.walk
