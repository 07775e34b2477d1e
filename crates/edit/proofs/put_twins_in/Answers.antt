-- `edit::put_twins_in`: two changes in a row are one (Twins).
-- Assumes nothing.
use Rattle.rules.specs.Insert.{new_child}
use Rattle.rules.specs.Entry.{Child}
use Rattle.rules.proofs.Bytes.EntryBytes.{WideChild}
use Rattle.edit.specs.Takes.{twins_of}
use Rattle.edit.proofs.Twins.{long-first, takes_first, change_twice, wide-new_child}
use borrow.Author.Rules.{rules}
use Rattle.edit.proofs.put_twins_in.Goals as goal

pub set_child_in-requires : goal.set_child_in-requires
set_child_in-requires c = rw c.entry.ensures record { page_len = c.requires.page_len; has_child = c.requires.takes_twins.has }

pub put_child_in-requires : goal.put_child_in-requires
unfolding new_child
put_child_in-requires c =
    let a = c.args in
    let fits = c.ranges in
    let pre = c.requires in
    let x : Child = new_child a.c a.lower.low a.lower.child a.previous in
    let w : WideChild x = wide-new_child a.c a.lower.low a.lower.child a.previous (search rules) (search rules) (search rules) (search rules) in
    rw (c.entry-2.ensures, c.set_child_in.ensures, c.entry.ensures)
    record { page_len = long-first a.page.now x a.c (search rules) pre.page_len pre.takes_twins.has w w.birth; takes_child = takes_first a.page.now x a.c (search rules) pre.page_len pre.takes_twins.has w w.birth a.upper.low pre.takes_twins.absent }

pub returns : goal.returns
unfolding new_child twins_of
returns c =
    let a = c.args in
    let pre = c.requires in
    let x : Child = new_child a.c a.lower.low a.lower.child a.previous in
    let w : WideChild x = wide-new_child a.c a.lower.low a.lower.child a.previous (search rules) (search rules) (search rules) (search rules) in
    rw (c.put_child_in.ensures, c.entry-2.ensures, c.set_child_in.ensures, c.entry.ensures)
    (change_twice a.page.now x a.c (search rules) pre.page_len pre.takes_twins.has w w.birth (new_child a.c a.upper.low a.upper.child a.previous))
