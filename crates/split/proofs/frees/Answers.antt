-- `split::frees`: where the halves inherit, the split page's birth decides. Assumes nothing.
use mathlib.Core.Path.{sym, ◌∙◌}
use Rattle.split.proofs.ByHead.{frees_heir, frees-none}
use Rattle.split.proofs.frees.Goals as goal

pub returns-then-heirs : goal.returns-then-heirs
returns-then-heirs c = frees_heir c.args.c c.args.head (sym c.heirs.ensures ∙ c.if-heirs.true)

pub returns-else-heirs : goal.returns-else-heirs
returns-else-heirs c = rw c.if-heirs.false (frees-none c.args.c c.args.head (sym c.heirs.ensures ∙ c.if-heirs.false))
