-- `head::child_entry`: the four fields of one entry.
-- Assumes nothing.
use Rattle.head.specs.Head.{entry_of}
use Rattle.head.proofs.child_entry.Goals as goal

pub returns : goal.returns
unfolding entry_of
returns c =
    rw
    (c.child_key.ensures, c.child_number.ensures, c.child_previous.ensures, c.child_birth.ensures)
