-- `dry::mark_by`: a child that is its own source leaves the marks alone, any other is marked. Assumes nothing.
use mathlib.Core.Path.{◌∙◌}
use Rattle.dry.proofs.Sources.{marked-own, marked_other}
use Rattle.dry.proofs.mark_by.Goals as goal

pub returns-then-page-e : goal.returns-then-page-e
returns-then-page-e c =
    let args = c.args in
    marked-own args.page args.e args.marks.now c.if-page-e.true

pub returns : goal.returns
returns c =
    let args = c.args in
    let if1 = c.if-page-e in
    c.mark.ensures ∙ marked_other args.page args.e args.marks.now if1.false
