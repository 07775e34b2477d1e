-- `dry::tally::tally_leaf`: a leaf within the range counts whole, any other key by key. Assumes nothing.
use Prim.Native.Nat.{max, min}
use mathlib.Core.Path.{◌≡◌, sym, ◌∙◌}
use native.Mathlib.Omega.{arith}
use borrow.Author.Rules.{rules}
use Rattle.dry.proofs.Tallies.{leaf_room_lem, tally_leaf_lem, tally-whole}
use Rattle.dry.proofs.tally.tally_leaf.Goals as goal

pub returns-then-lies_in : goal.returns-then-lies_in
returns-then-lies_in c =
    let args = c.args in
    let pre = c.requires in
    let low : c.max.result ≡ max args.a.low args.e.low = search rules in
    let high : c.min.result ≡ min args.a.high args.e.high = search rules in
    c.tally_all.ensures ∙ tally-whole args.table.bytes.now args.page args.head pre.read_head args.a
    args.e args.count c.max.result c.min.result pre.within
    (sym c.lies_in.ensures ∙ c.if-lies_in.true) pre.kind low high

pub page-requires : goal.page-requires
page-requires c = omega (arith, c.requires.inside, c.args.table.whole)

pub tally_each-requires : goal.tally_each-requires
tally_each-requires c =
    let args = c.args in
    let pre = c.requires in
    omega (arith, c.page.ensures.size, leaf_room_lem args.table.bytes.now args.page args.head pre.read_head pre.within pre.kind)

pub returns : goal.returns
returns c =
    let args = c.args in
    let pre = c.requires in
    let low : c.max.result ≡ max args.a.low args.e.low = search rules in
    let high : c.min.result ≡ min args.a.high args.e.high = search rules in
    rw (c.tally_each.ensures, c.page.ensures.bytes)
    (tally_leaf_lem args.table.bytes.now args.page args.head pre.read_head args.a
    args.e args.count c.max.result c.min.result pre.kind low high)
