-- `fill::fill_leaf_at`: where keys rise, the certificates asked for are a range by index.
-- Assumes nothing.
use Prim.Native.Nat.{min, ◌-◌}
use mathlib.Core.Path.{◌≡◌, ap, ◌∙◌}
use mathlib.Core.List.{List}
use Rattle.rules.specs.Entry.{Cert}
use Rattle.rules.specs.Table.{page_at}
use Rattle.rules.proofs.Bytes.Tables.{length-page_at}
use Rattle.fill.specs.Fills.{listed}
use Rattle.fill.proofs.Spots.{run-within, asked-run, run_room}
use native.Mathlib.Omega.{arith}
use Rattle.fill.proofs.fill_leaf_at.Goals as goal

pub start-first-requires : goal.start-first-requires
start-first-requires c =
    let long = length-page_at c.args.t.now c.args.page (omega arith) in
    rw c.page_at-leaf.ensures.bytes (omega (arith, long, c.requires.1), omega (arith, long), c.requires.2)

pub spot-past-requires : goal.spot-past-requires
spot-past-requires c =
    let long = length-page_at c.args.t.now c.args.page (omega arith) in
    rw c.page_at-leaf.ensures.bytes (omega (arith, long, c.requires.1), omega (arith, long), c.requires.2)

pub copy-requires : goal.copy-requires
copy-requires c =
    let args = c.args in
    let pre = c.requires in
    let b = page_at args.t.now args.page in
    let first = c.start-first in
    let past = c.spot-past in
    let many = c.min-many in
    let long = length-page_at args.t.now args.page (omega arith) in
    let m : many.result ≡ min (args.a.room - args.filled) (past.result - first.result) = omega (arith, many.ensures, c.saturating_sub.ensures) in
    let within = run-within b args.count args.a args.filled pre.2 first.result past.result many.result
    (rw c.page_at-leaf.ensures.bytes at first.ensures) (rw c.page_at-leaf.ensures.bytes at past.ensures) m in
    let room = run_room args.a.room args.filled past.result first.result many.result pre.3 m in
    rw c.page_at-leaf.ensures.bytes (omega (arith, within, long, pre.1), omega (arith, long), omega (arith, room, pre.4.keys), omega (arith, room, pre.4.records))

pub returns : goal.returns
returns c =
    let args = c.args in
    let pre = c.requires in
    let b = page_at args.t.now args.page in
    let first = c.start-first in
    let past = c.spot-past in
    let many = c.min-many in
    let m : many.result ≡ min (args.a.room - args.filled) (past.result - first.result) = omega (arith, many.ensures, c.saturating_sub.ensures) in
    (rw c.page_at-leaf.ensures.bytes at c.copy.ensures)
    ∙ ap (λ (xs : List Cert). listed xs args.filled args.keys.now args.records.now)
    (asked-run b args.count args.a args.filled pre.2 first.result past.result many.result (rw c.page_at-leaf.ensures.bytes at first.ensures) (rw c.page_at-leaf.ensures.bytes at past.ensures) m)
