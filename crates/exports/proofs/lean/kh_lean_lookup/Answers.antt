-- `exports::lean::kh_lean_lookup`: what the store's lean call leaves, with the answer as a number.
-- Assumes nothing.
use mathlib.Core.Path.{ap}
use Rattle.exports.specs.Leaves as C
use Rattle.exports.proofs.lean.kh_lean_lookup.Goals as goal

pub returns : goal.returns
returns c =
    let left = c.lean_lookup-left in
    λ s same-n same-c. rw (c.number.ensures, c.looked_record.ensures, c.reason.ensures) (ap C.looked (left.ensures s same-n same-c))
