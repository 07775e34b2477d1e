-- `head::read_head`: each field is read at its own offset.
-- Assumes nothing.
use Rattle.head.specs.Head.{head_in}
use Rattle.head.proofs.read_head.Goals as goal

pub returns : goal.returns
unfolding head_in
returns c =
    let get16 = c.get16 in
    let get162 = c.get16-2 in
    let get32 = c.get32 in
    rw
    (get16.ensures, get162.ensures, get32.ensures, c.get32-2.ensures, c.get32-3.ensures, c.get64.ensures, c.get64-2.ensures)
