-- `exports::kh_has_any`: what the store's lean call leaves, with the answer as a number and the session as it came.
-- Assumes nothing.
use mathlib.Core.Path.{refl, ap}
use Rattle.exports.specs.Leaves as C
use Rattle.exports.proofs.kh_has_any.Goals as goal

pub returns : goal.returns
returns c =
    let args = c.args in
    let left = c.lean_has_any-left in
    rw (c.number.ensures, c.any_yes.ensures, c.reason.ensures) (ap C.any (left.ensures args.session refl refl))
