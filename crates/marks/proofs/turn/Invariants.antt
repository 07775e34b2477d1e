-- `marks::turn`: the loop's invariant says that the pages below i have turned. The measure is what is left of the marks.
-- Assumes nothing.
use mathlib.Core.Path.{◌≡◌}
use Prim.Native.Nat.{◌≤◌, ◌-◌}
use Rattle.marks.proofs.Turning.{turning}
use Rattle.marks.proofs.turn.Given as goal

abbrev pub invariant-loop-i : goal.invariant-loop-i
invariant-loop-i l = (l.i ≤ 128) × (l.t ≡ turning l.initial.t l.i)

abbrev pub decreases-loop-i : goal.decreases-loop-i
decreases-loop-i l = 128 - l.i
