-- `exports::kh_newest`: what the store's lean call leaves, with the answer as a number and the session as it came.
-- Assumes nothing.
use mathlib.Core.Path.{refl, ap}
use Rattle.exports.specs.Leaves as C
use Rattle.exports.proofs.kh_newest.Goals as goal

pub returns : goal.returns
returns c =
    let args = c.args in
    let left = c.lean_newest-left in
    rw (c.number.ensures, c.newest_issue.ensures, c.newest_record.ensures, c.reason.ensures) (ap C.newest (left.ensures args.session refl refl))
