-- `exports::lean::kh_lean_write_file`: what the store's lean call leaves, with the answer as a number.
-- Assumes nothing.
use mathlib.Core.Path.{ap}
use Rattle.exports.specs.Leaves as C
use Rattle.exports.proofs.lean.kh_lean_write_file.Goals as goal

pub returns : goal.returns
returns c =
    let left = c.lean_write_file-left in
    λ s same-n same-c. rw (c.number.ensures, c.length_of.ensures, c.reason.ensures) (ap C.written (left.ensures s same-n same-c))
