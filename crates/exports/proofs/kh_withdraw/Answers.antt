-- `exports::kh_withdraw`: what the store's call leaves, with the answer as a number.
-- Assumes nothing.
use mathlib.Core.Path.{ap}
use Rattle.exports.specs.Leaves.{withdrawn}
use Rattle.exports.proofs.kh_withdraw.Goals as goal

pub returns : goal.returns
returns c = rw (c.number.ensures, c.reason.ensures) (ap withdrawn c.withdraw-left.ensures)
