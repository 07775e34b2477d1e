-- `fill::mend`: at each turn there is room. Assumes nothing.
use mathlib.Core.Path.{◌≡◌}
use lib.ListN.{length}
use Rattle.leaves.specs.Walks.{keys_left}
use Rattle.fill.proofs.Fills.{Mending}
use Rattle.fill.proofs.mend.Given as goal

abbrev pub invariant-loop : goal.invariant-loop
invariant-loop l = (length l.t ≡ length l.initial.t) × Mending l.n l.c l.fn.a l.initial.t l.t l.walk

abbrev pub decreases-loop : goal.decreases-loop
decreases-loop l = keys_left l.walk
