-- `lookup::find_at`: the spot, and what stands before it.
-- Assumes nothing.
use mathlib.Core.Path.{ap, sym, ◌∙◌}
use Rattle.rules.specs.Entry.{find}
use Rattle.rules.specs.Page.{page_in}
use Rattle.rules.specs.Table.{page_at, read}
use Rattle.rules.proofs.Bytes.Tables.{length-page_at}
use Rattle.lookup.specs.Looks.{looked_in}
use Rattle.lookup.proofs.Leaf.{rising-keys_in, spot-within, found_before_lem}
use Rattle.way.proofs.Leaf.{certs-are, holds-room, holds-rise}
use native.Mathlib.Omega.{arith}
use Rattle.lookup.proofs.find_at.Goals as goal

pub seek-spot-requires : goal.seek-spot-requires
unfolding read page_in
seek-spot-requires c =
    let args = c.args in
    let pre = c.requires in
    let b = page_at args.table.now args.leaf.place.child in
    let l = length-page_at args.table.now args.leaf.place.child (omega arith) in
    rw (c.certs.ensures, c.page_at-page.ensures.bytes)
    (omega (arith, l, holds-room b args.leaf.head pre.1 pre.2), rising-keys_in b args.leaf.head.count (holds-rise b args.leaf.head pre.1 pre.2))

pub find_on-requires : goal.find_on-requires
unfolding read page_in
find_on-requires c =
    let args = c.args in
    let pre = c.requires in
    let b = page_at args.table.now args.leaf.place.child in
    let seek = c.seek-spot in
    (omega arith, omega (arith, holds-room b args.leaf.head pre.1 pre.2, spot-within b args.leaf.head.count (holds-rise b args.leaf.head pre.1 pre.2) args.key seek.result (rw (c.certs.ensures, c.page_at-page.ensures.bytes) at seek.ensures)))

pub returns : goal.returns
unfolding read page_in
returns c =
    let args = c.args in
    let pre = c.requires in
    let b = page_at args.table.now args.leaf.place.child in
    let seek = c.seek-spot in
    c.find_on.ensures
    ∙ found_before_lem b args.leaf.head.count (holds-rise b args.leaf.head pre.1 pre.2) args.key seek.result (rw (c.certs.ensures, c.page_at-page.ensures.bytes) at seek.ensures)
    ∙ ap (λ xs. looked_in (find args.key xs)) (sym (certs-are b args.leaf.head pre.1 pre.2))
