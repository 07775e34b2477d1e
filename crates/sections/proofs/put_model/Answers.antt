-- `sections::put_model`: a model that is there already is not written. Assumes nothing.
use mathlib.Core.Path.{sym, ◌∙◌}
use Rattle.sections.proofs.Puts.{model-same, model-new}
use Rattle.sections.proofs.put_model.Goals as goal

pub returns-then-d-c : goal.returns-then-d-c
returns-then-d-c c = sym (model-same c.args.c c.args.d c.args.key c.args.out.now c.if-d-c.true)

pub returns : goal.returns
returns c = c.put_model.ensures ∙ sym (model-new c.args.c c.args.d c.args.key c.args.out.now c.if-d-c.false)
