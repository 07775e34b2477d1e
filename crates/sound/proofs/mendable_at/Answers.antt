-- `sound::mendable_at`: the previous page lies in the table if the place names it.
-- Assumes nothing.
use Rattle.std.proofs.Common.{sym, ◌∙◌, arith}
use Rattle.rules.specs.Table.{read}
use Rattle.sound.proofs.Mending.{names-none, names-some, names-within}
use Rattle.sound.proofs.mendable_at.Goals as goal

pub returns-then-not-names_previous : goal.returns-then-not-names_previous
returns-then-not-names_previous c =
    let args = c.args in
    names-none args.table.pages args.e c.names_previous.ensures (read args.table.bytes.now args.e.previous)
    c.if-not-names_previous.true-raw

pub page-requires : goal.page-requires
page-requires c =
    omega (arith, names-within c.args.table.pages c.args.e (sym c.names_previous.ensures ∙ c.if-not-names_previous.false))

pub returns : goal.returns
unfolding read
returns c =
    let args = c.args in
    names-some args.table.pages args.e c.names_previous.ensures (read args.table.bytes.now args.e.previous)
    c.if-not-names_previous.false-raw (rw c.page.ensures.bytes at c.covers.ensures)
