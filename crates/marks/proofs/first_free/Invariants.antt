-- `marks::first_free`: the loop's invariant says that what was passed was not free.
-- Assumes nothing.
use mathlib.Core.Path.{◌≡◌}
use Rattle.marks.specs.Lowest.{free_from}
use Rattle.marks.proofs.first_free.Given as goal

abbrev pub invariant-loop-i : goal.invariant-loop-i
invariant-loop-i l = free_from l.s l.entered l.from ≡ free_from l.s l.entered l.i
