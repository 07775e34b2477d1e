-- `edit::stamp`: the two fields, one after the other.
-- Assumes nothing.
use Rattle.edit.proofs.stamp.Goals as goal

pub returns : goal.returns
returns c =
    let put32 = c.put32 in
    let put16 = c.put16 in
    rw (put32.ensures, put16.ensures)
