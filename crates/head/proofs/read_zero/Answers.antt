-- `head::read_zero`: each field is read at its own offset.
-- Assumes nothing.
use Rattle.head.specs.Head.{zero_in}
use Rattle.rules.specs.Table.{kind0, n0, number0, root0, previous0, birth0}
use Rattle.head.proofs.read_zero.Goals as goal

pub returns : goal.returns
unfolding zero_in kind0 n0 number0 root0 previous0 birth0
returns c =
    let get16 = c.get16 in
    let get162 = c.get16-2 in
    rw
    (get16.ensures, get162.ensures, c.get32.ensures, c.get16-3.ensures, c.get16-4.ensures, c.get32-2.ensures)
