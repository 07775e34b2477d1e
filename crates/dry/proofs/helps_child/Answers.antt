-- `dry::helps_child`: a marked previous page is no help, of any other the page decides. Assumes nothing.
use mathlib.Core.Path.{sym, ◌∙◌}
use Rattle.dry.proofs.Marks.{helps-marked, helps-lies}
use Rattle.dry.specs.Walk.{marked}
use Rattle.dry.proofs.helps_child.Goals as goal

pub returns-then-marked : goal.returns-then-marked
unfolding marked
returns-then-marked c =
    let args = c.args in
    helps-marked args.table.pages args.table.bytes.now args.marks.now args.e
    (sym c.marked.ensures ∙ c.if-marked.true)

pub returns : goal.returns
unfolding marked
returns c =
    let args = c.args in
    c.mendable_at.ensures ∙ helps-lies args.table.pages args.table.bytes.now args.marks.now args.e
    (sym c.marked.ensures ∙ c.if-marked.false)
