-- `exports::kh_format`: what the store's call leaves, with the answer as a number.
-- Assumes nothing.
use mathlib.Core.Path.{ap}
use Rattle.exports.specs.Leaves.{formatted}
use Rattle.exports.proofs.kh_format.Goals as goal

pub returns : goal.returns
returns c = rw c.number.ensures (ap formatted c.format.ensures)
