-- `edit::put_child_in`: the entries behind the spot moved up, the entry, count and touched are what the rules write (Edits).
-- Assumes nothing.
use mathlib.Core.Path.{sym}
use Rattle.rules.specs.Layout.{inner_header}
use Rattle.rules.specs.Insert.{new_child}
use Rattle.edit.proofs.Edits.{spot-below, inner_room_lem, child_bytes_lem}
use native.Mathlib.Omega.{arith}
use borrow.Author.Rules.{rules}
use Rattle.edit.proofs.put_child_in.Goals as goal

pub spot-spot-requires : goal.spot-spot-requires
spot-spot-requires c =
    let takes = c.requires.takes_child in
    rw c.children-children.ensures (omega (arith, c.get16-count.ensures, c.requires.page_len, inner_room_lem c.args.page.now takes.inner takes.room))

pub make_room-at-requires : goal.make_room-at-requires
make_room-at-requires c =
    let a = c.args in
    let count = c.get16-count in
    let takes = c.requires.takes_child in
    let spot = rw c.children-children.ensures at c.spot-spot.ensures in
    rw c.children-children.ensures record {
      spot_in_bounds = spot-below inner_header 16 count.result a.entry.key c.spot-spot.result a.page.now spot;
      room = omega (arith, count.ensures, c.requires.page_len, inner_room_lem a.page.now takes.inner takes.room);
    }

pub write_child-requires : goal.write_child-requires
write_child-requires c =
    let a = c.args in
    let count = c.get16-count in
    let takes = c.requires.takes_child in
    let spot = rw c.children-children.ensures at c.spot-spot.ensures in
    let at = rw c.children-children.ensures at c.make_room-at.ensures.place in
    omega
    (arith, at, count.ensures, c.requires.page_len, c.make_room-at.auto.page, spot-below inner_header 16 count.result a.entry.key c.spot-spot.result a.page.now spot, inner_room_lem a.page.now takes.inner takes.room)

pub overflow_add-count : goal.overflow_add-count
overflow_add-count c =
    let takes = c.requires.takes_child in
    omega (arith, c.get16-count.ensures, inner_room_lem c.args.page.now takes.inner takes.room)

pub returns : goal.returns
unfolding new_child
returns c =
    let a = c.args in
    let room = c.make_room-at in
    let spot = rw (c.children-children.ensures, c.get16-count.ensures) at c.spot-spot.ensures in
    rw (c.stamp.ensures, c.write_child.ensures, room.ensures.moved, room.ensures.place, c.children-children.ensures, c.get16-count.ensures)
    (sym (child_bytes_lem a.page.now (new_child a.entry.birth a.entry.key a.entry.child a.entry.previous) a.c c.spot-spot.result (search rules) c.requires.page_len spot c.requires.takes_child))
