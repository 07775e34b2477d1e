-- `exports::lean::kh_lean_has_any`: what the store's lean call leaves, with the answer as a number.
-- Assumes nothing.
use mathlib.Core.Path.{ap}
use Rattle.exports.specs.Leaves as C
use Rattle.exports.proofs.lean.kh_lean_has_any.Goals as goal

pub returns : goal.returns
returns c =
    let left = c.lean_has_any-left in
    λ s same-n same-c. rw (c.number.ensures, c.any_yes.ensures, c.reason.ensures) (ap C.any (left.ensures s same-n same-c))
