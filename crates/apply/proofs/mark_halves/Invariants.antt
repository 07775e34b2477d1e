-- `apply::mark_halves`: at each turn the marks that are left make of the session at hand what they made of the first one.
-- Assumes nothing.
use Prim.Native.Nat.{◌≤◌}
use mathlib.Core.Path.{◌≡◌}
use Rattle.apply.specs.Leads.{marks_for}
use Rattle.apply.proofs.mark_halves.Given as goal

abbrev pub invariant-loop-i : goal.invariant-loop-i
invariant-loop-i l = (l.i ≤ l.many) × (marks_for l.c l.way l.pages l.i l.left ≡ marks_for l.c l.way l.pages l.many l.initial.left)
