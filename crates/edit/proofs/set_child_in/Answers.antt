-- `edit::set_child_in`: the entry of the same key is the last one not above it, and is written over (Edits).
-- Assumes nothing.
use mathlib.Core.Path.{sym}
use Rattle.rules.specs.Layout.{inner_header}
use Rattle.rules.specs.Insert.{new_child}
use Rattle.edit.proofs.Edits.{spot-below, inner_room_lem, other-spot, other-bytes}
use native.Mathlib.Omega.{arith}
use borrow.Author.Rules.{rules}
use Rattle.edit.proofs.set_child_in.Goals as goal

pub spot-past-requires : goal.spot-past-requires
spot-past-requires c =
    let has = c.requires.has_child in
    rw c.children-children.ensures (omega (arith, c.get16-count.ensures, c.requires.page_len, inner_room_lem c.args.page.now has.inner has.room))

pub overflow_sub-past : goal.overflow_sub-past
unfolding new_child
overflow_sub-past c =
    let a = c.args in
    let spot = rw (c.children-children.ensures, c.get16-count.ensures) at c.spot-past.ensures in
    omega
    (arith, other-spot a.page.now (new_child a.entry.birth a.entry.key a.entry.child a.entry.previous) a.c c.spot-past.result (search rules) c.requires.page_len spot c.requires.has_child)

pub at-requires : goal.at-requires
at-requires c =
    let a = c.args in
    let has = c.requires.has_child in
    let spot = rw c.children-children.ensures at c.spot-past.ensures in
    rw c.children-children.ensures (omega (arith, c.get16-count.ensures, spot-below inner_header 16 c.get16-count.result a.entry.key c.spot-past.result a.page.now spot, inner_room_lem a.page.now has.inner has.room))

pub write_child-requires : goal.write_child-requires
write_child-requires c =
    let a = c.args in
    let has = c.requires.has_child in
    let spot = rw c.children-children.ensures at c.spot-past.ensures in
    let at = rw c.children-children.ensures at c.at.ensures in
    omega
    (arith, at, c.get16-count.ensures, c.requires.page_len, spot-below inner_header 16 c.get16-count.result a.entry.key c.spot-past.result a.page.now spot, inner_room_lem a.page.now has.inner has.room)

pub returns : goal.returns
unfolding new_child
returns c =
    let a = c.args in
    let spot = rw (c.children-children.ensures, c.get16-count.ensures) at c.spot-past.ensures in
    rw (c.stamp.ensures, c.write_child.ensures, c.at.ensures, c.children-children.ensures, c.get16-count.ensures)
    (sym (other-bytes a.page.now (new_child a.entry.birth a.entry.key a.entry.child a.entry.previous) a.c c.spot-past.result (search rules) c.requires.page_len spot c.requires.has_child))
