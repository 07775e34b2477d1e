-- `exports::lean::kh_lean_newest`: what the store's lean call leaves, with the answer as a number.
-- Assumes nothing.
use mathlib.Core.Path.{ap}
use Rattle.exports.specs.Leaves as C
use Rattle.exports.proofs.lean.kh_lean_newest.Goals as goal

pub returns : goal.returns
returns c =
    let left = c.lean_newest-left in
    λ s same-n same-c. rw (c.number.ensures, c.newest_issue.ensures, c.newest_record.ensures, c.reason.ensures) (ap C.newest (left.ensures s same-n same-c))
