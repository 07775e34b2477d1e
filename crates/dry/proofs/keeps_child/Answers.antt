-- `dry::keeps_child`: a marked child is lost, of any other the page decides. Assumes nothing.
use mathlib.Core.Path.{sym, ◌∙◌}
use Rattle.dry.proofs.Marks.{keeps-marked, keeps-lies}
use Rattle.dry.specs.Walk.{marked}
use Rattle.dry.proofs.keeps_child.Goals as goal

pub returns-then-marked : goal.returns-then-marked
unfolding marked
returns-then-marked c =
    let args = c.args in
    keeps-marked args.table.pages args.table.bytes.now args.marks.now args.e
    (sym c.marked.ensures ∙ c.if-marked.true)

pub returns : goal.returns
unfolding marked
returns c =
    let args = c.args in
    c.fits_at.ensures ∙ keeps-lies args.table.pages args.table.bytes.now args.marks.now args.e
    (sym c.marked.ensures ∙ c.if-marked.false)
