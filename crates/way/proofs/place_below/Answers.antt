-- `way::place_below`: the entry before the spot of the key.
-- Assumes nothing.
use Prim.Native.Nat.{◌-◌}
use mathlib.Core.Path.{ap, ◌∙◌}
use Rattle.rules.specs.Page.{page_in}
use Rattle.rules.specs.Place.{pick}
use Rattle.rules.specs.Table.{page_at, read}
use Rattle.rules.proofs.Bytes.Tables.{length-page_at}
use Rattle.head.specs.Head.{nowhere}
use Rattle.way.proofs.Inner.{leads-kind, leads-room, leads-rise, leads-spot, leads-places, entry-before, rising-keys_in, pick_in}
use native.Mathlib.Omega.{arith}
use Rattle.way.proofs.place_below.Goals as goal

pub confirm-spot-requires : goal.confirm-spot-requires
unfolding read page_in
confirm-spot-requires c =
    let args = c.args in
    let g = c.requires.1 in
    let b = page_at args.table.now args.i in
    let l = length-page_at args.table.now args.i (omega arith) in
    rw (c.page_at-page.ensures.bytes, c.children.ensures)
    (omega (arith, l, leads-room b args.head args.key g), rising-keys_in b args.head.count (leads-rise b args.head args.key g))

pub overflow_sub-spot : goal.overflow_sub-spot
unfolding read page_in
overflow_sub-spot c =
    let args = c.args in
    let e = rw (c.page_at-page.ensures.bytes, c.children.ensures) at c.confirm-spot.ensures in
    omega (arith, e, leads-spot (page_at args.table.now args.i) args.head args.key c.requires.1)

pub overflow_sub-head : goal.overflow_sub-head
unfolding read page_in
overflow_sub-head c =
    let args = c.args in
    omega (arith, leads-kind (page_at args.table.now args.i) args.head args.key c.requires.1)

pub kid-requires : goal.kid-requires
unfolding read page_in
kid-requires c =
    let args = c.args in
    let g = c.requires.1 in
    let b = page_at args.table.now args.i in
    let l = length-page_at args.table.now args.i (omega arith) in
    let spot = c.confirm-spot in
    let e = rw (c.page_at-page.ensures.bytes, c.children.ensures) at spot.ensures in
    rw c.page_at-page.ensures.bytes
    (entry-before b args.head.count args.key spot.result e (omega (arith, e, leads-spot b args.head args.key g)), omega (arith, l, leads-room b args.head args.key g))

pub returns : goal.returns
unfolding read page_in
returns c =
    let args = c.args in
    let g = c.requires.1 in
    let b = page_at args.table.now args.i in
    let spot = c.confirm-spot in
    let e = rw (c.page_at-page.ensures.bytes, c.children.ensures) at spot.ensures in
    ap (pick args.key) (leads-places b args.head args.key g)
    ∙ pick_in b args.head.count (args.head.kind - 1) args.head.high args.key spot.result nowhere c.kid.result
    (leads-rise b args.head args.key g) g.high (omega (arith, e, leads-spot b args.head args.key g)) e (rw c.page_at-page.ensures.bytes at c.kid.ensures)
