-- `split::previous_of`: the halves inherit the entry's previous page, or the split page is theirs. Assumes nothing.
use mathlib.Core.Path.{sym, ◌∙◌}
use Rattle.split.proofs.ByHead.{previous_heir, previous_self}
use Rattle.split.proofs.previous_of.Goals as goal

pub returns-then-heirs : goal.returns-then-heirs
returns-then-heirs c =
    let args = c.args in
    previous_heir args.c args.step.place args.step.head (sym c.heirs.ensures ∙ c.if-heirs.true)

pub returns : goal.returns
returns c =
    let args = c.args in
    previous_self args.c args.step.place args.step.head (sym c.heirs.ensures ∙ c.if-heirs.false)
