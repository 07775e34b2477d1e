-- `opening::refused`: the session is nobody's.
-- Assumes nothing.
use mathlib.Core.Path.{ap}
use Rattle.rules.specs.declared.Session.{Session}
use Rattle.opening.proofs.refused.Goals as goal

pub returns : goal.returns
returns c = ap (λ (s : Session). record { answer = c.args.answer; session = s }) c.nobody.ensures
