-- `entries::write_child`: the four fields of the entry, one after the other.
-- Assumes nothing.
use Rattle.entries.proofs.Header.{child-puts}
use mathlib.Core.Path.{sym}
use Rattle.entries.proofs.write_child.Goals as goal

pub returns : goal.returns
returns c =
    let put32 = c.put32 in
    let put162 = c.put16-2 in
    let put16 = c.put16 in
    let put64 = c.put64 in
    let a = c.args in
    rw (put32.ensures, put162.ensures, put16.ensures, put64.ensures)
    (sym (child-puts a.page.now a.at a.entry.key a.entry.child a.entry.previous a.entry.birth))
