-- `exports::kh_read_file`: what the store's call leaves, with the answer as numbers. Assumes nothing.
use mathlib.Core.Path.{ap}
use Rattle.exports.specs.Leaves.{read}
use Rattle.exports.proofs.kh_read_file.Goals as goal

pub returns : goal.returns
returns c = rw (c.number.ensures, c.done.ensures, c.place.ensures, c.reason.ensures) (ap read c.read_file-left.ensures)
