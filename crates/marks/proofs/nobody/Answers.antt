-- `marks::nobody`: both sides compute.
-- Assumes nothing.
use mathlib.Core.Path.{refl}
use Rattle.rules.specs.Marks.{marks_from, marks, nobody}
use Rattle.marks.proofs.nobody.Goals as goal

pub returns : goal.returns
unfolding nobody marks marks_from
returns c = refl
