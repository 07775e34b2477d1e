-- `exports::kh_sync`: what the store's call leaves, with the answer as a number.
-- Assumes nothing.
use mathlib.Core.Path.{ap}
use Rattle.rules.specs.Call.{synced_no}
use Rattle.exports.specs.Leaves.{answered}
use Rattle.exports.proofs.kh_sync.Goals as goal

pub returns : goal.returns
returns c =
    let sync = c.sync-left in
    rw c.number.ensures (ap (answered synced_no) sync.ensures)
