-- `exports::kh_open`: what the store's call leaves, with the answer as a number.
-- Assumes nothing.
use mathlib.Core.Path.{ap}
use Rattle.rules.specs.Call.{opened_no}
use Rattle.exports.specs.Leaves.{answered}
use Rattle.exports.proofs.kh_open.Goals as goal

pub returns : goal.returns
returns c =
    rw c.number.ensures
    (ap (answered opened_no) c.open-left.ensures)
