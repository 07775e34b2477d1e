-- `marks::opened`: the loop's invariant says that the free marks below i are filled in.
-- Assumes nothing.
use mathlib.Core.Path.{◌≡◌}
use mathlib.Core.Bool.{false}
use Prim.Native.Nat.{◌≤◌, ◌-◌}
use Rattle.rules.specs.Marks.{marks}
use Rattle.marks.specs.Opened.{free_at_opening}
use Rattle.marks.proofs.Fill.{filled}
use Rattle.marks.proofs.opened.Given as goal

abbrev pub invariant-loop-i : goal.invariant-loop-i
invariant-loop-i l = (l.i ≤ 128) × (l.free ≡ filled (free_at_opening l.n l.children l.spared) l.i (marks (λ i. false)))

abbrev pub decreases-loop-i : goal.decreases-loop-i
decreases-loop-i l = 128 - l.i
