-- `sound::kind_asked`: any kind, or the one asked for.
-- Assumes nothing.
use Rattle.std.proofs.Common.{eq-eqb, ne_eqb}
use Rattle.rules.specs.Place.{kind_asked}
use Rattle.sound.proofs.kind_asked.Goals as goal

pub returns-then-want-eq0 : goal.returns-then-want-eq0
unfolding kind_asked
returns-then-want-eq0 c = rw (eq-eqb c.args.want 0 c.if-want-eq0.true)

pub returns : goal.returns
unfolding kind_asked
returns c = rw (ne_eqb c.args.want 0 c.if-want-eq0.false)
