-- `leaves::next`: at each turn the rules' descent from the place at hand is what is left to do, and to report.
-- Assumes nothing.
use Prim.Native.Nat.{ℕ, ◌+◌}
use mathlib.Core.Path.{◌≡◌}
use Rattle.way.proofs.Ending.{Seeking}
use Rattle.leaves.proofs.next.Given as goal

abbrev pub invariant-loop : goal.invariant-loop
invariant-loop l = (level : ℕ) × (l.counter + level ≡ l.end) × Seeking l.n l.c l.key l.initial.t l.t l.above l.e level l.initial.report l.report
