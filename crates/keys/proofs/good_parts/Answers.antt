-- `keys::good_parts`: one part after the other.
-- Assumes nothing.
use Rattle.keys.proofs.Parts.{no_model, no_serial, only-issue}
use Rattle.keys.proofs.good_parts.Goals as goal

pub returns-then-model-eq0 : goal.returns-then-model-eq0
returns-then-model-eq0 c = no_model c.args.model c.args.serial c.args.issue c.if-model-eq0.true

pub returns-then-serial-eq0 : goal.returns-then-serial-eq0
returns-then-serial-eq0 c =
    let args = c.args in
    no_serial args.model args.serial args.issue c.if-model-eq0.false c.if-serial-eq0.true

pub returns : goal.returns
returns c =
    let args = c.args in
    only-issue args.model args.serial args.issue c.if-model-eq0.false c.if-serial-eq0.false
