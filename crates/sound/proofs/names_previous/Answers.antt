-- `sound::names_previous`: the number's range first, then that it is not the child's.
-- Assumes nothing.
use Rattle.sound.proofs.Mending.{names-zero, names_beyond, names-other}
use Rattle.sound.proofs.names_previous.Goals as goal

pub returns-then-e-eq0 : goal.returns-then-e-eq0
returns-then-e-eq0 c = names-zero c.args.n c.args.e c.if-e-eq0.true

pub returns-then-e-n : goal.returns-then-e-n
returns-then-e-n c =
    let args = c.args in
    names_beyond args.n args.e c.if-e-eq0.false c.if-e-n.true

pub returns : goal.returns
returns c =
    let args = c.args in
    names-other args.n args.e c.if-e-eq0.false c.if-e-n.false
