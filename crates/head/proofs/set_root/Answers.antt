-- `head::set_root`: three fields of page 0, one after the other.
-- Assumes nothing.
use Rattle.rules.specs.Table.{set_root}
use Rattle.head.proofs.set_root.Goals as goal

pub returns : goal.returns
unfolding set_root
returns c =
    let put16 = c.put16 in
    let put162 = c.put16-2 in
    rw (c.put32.ensures, put162.ensures, put16.ensures)
