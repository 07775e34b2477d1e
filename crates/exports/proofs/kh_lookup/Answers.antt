-- `exports::kh_lookup`: what the store's lean call leaves, with the answer as a number and the session as it came.
-- Assumes nothing.
use mathlib.Core.Path.{refl, ap}
use Rattle.exports.specs.Leaves as C
use Rattle.exports.proofs.kh_lookup.Goals as goal

pub returns : goal.returns
returns c =
    let args = c.args in
    let left = c.lean_lookup-left in
    rw (c.number.ensures, c.looked_record.ensures, c.reason.ensures) (ap C.looked (left.ensures args.session refl refl))
