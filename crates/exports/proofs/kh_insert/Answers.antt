-- `exports::kh_insert`: what the call leaves, with the answer as a number.
-- Assumes nothing.
use mathlib.Core.Path.{ap}
use Rattle.exports.specs.Leaves.{inserted}
use Rattle.exports.proofs.kh_insert.Goals as goal

pub returns : goal.returns
returns c = rw (c.number.ensures, c.reason.ensures) (ap inserted c.insert-left.ensures)
