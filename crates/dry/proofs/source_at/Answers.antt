-- `dry::source_at`: known, above, kept, helped, or damaged. Assumes nothing.
use mathlib.Core.Path.{sym, ap, ◌∙◌}
use mathlib.Core.Bool.{not}
use borrow.Author.Tests.{ne_eqb}
use Rattle.dry.proofs.Sources.{source-above, source-child, source-previous, source-none}
use Rattle.dry.proofs.source_at.Goals as goal

pub returns-then-this-ne0 : goal.returns-then-this-ne0
returns-then-this-ne0 g c = sym (c.requires (ap not (ne_eqb g.row.KNOWN 0 c.if-this-ne0.true)))

pub returns-then-stands_above : goal.returns-then-stands_above
returns-then-stands_above g c =
    let args = c.args in
    source-above args.table.pages _ args.table.bytes.now args.marks.now args.s.place (sym c.stands_above.ensures ∙ c.if-stands_above.true)

pub returns-then-keeps_child : goal.returns-then-keeps_child
returns-then-keeps_child g c =
    let args = c.args in
    source-child args.table.pages _ args.table.bytes.now args.marks.now args.s.place (sym c.stands_above.ensures ∙ c.if-stands_above.false) (sym c.keeps_child.ensures ∙ c.if-keeps_child.true)

pub returns-then-helps_child : goal.returns-then-helps_child
returns-then-helps_child g c =
    let args = c.args in
    let stands-above = c.stands_above in
    let if2 = c.if-stands_above in
    source-previous args.table.pages _ args.table.bytes.now args.marks.now args.s.place (sym stands-above.ensures ∙ if2.false) (sym c.keeps_child.ensures ∙ c.if-keeps_child.false) (sym c.helps_child.ensures ∙ c.if-helps_child.true)

pub returns : goal.returns
returns g c =
    let args = c.args in
    let stands-above = c.stands_above in
    let if2 = c.if-stands_above in
    source-none args.table.pages _ args.table.bytes.now args.marks.now args.s.place (sym stands-above.ensures ∙ if2.false) (sym c.keeps_child.ensures ∙ c.if-keeps_child.false) (sym c.helps_child.ensures ∙ c.if-helps_child.false)
