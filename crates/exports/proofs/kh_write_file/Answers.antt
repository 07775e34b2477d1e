-- `exports::kh_write_file`: what the store's lean call leaves, with the answer as a number and the session as it came.
-- Assumes nothing.
use mathlib.Core.Path.{refl, ap}
use Rattle.exports.specs.Leaves as C
use Rattle.exports.proofs.kh_write_file.Goals as goal

pub returns : goal.returns
returns c =
    let args = c.args in
    let left = c.lean_write_file-left in
    rw (c.number.ensures, c.length_of.ensures, c.reason.ensures) (ap C.written (left.ensures args.session refl refl))
