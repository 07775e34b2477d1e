-- `leaves::levels`: three, and one less for each page kept.
-- Assumes nothing.
use borrow.Author.Tests.{eq-eqb, ne_eqb}
use Rattle.leaves.specs.Cursors.{levels_in}
use Rattle.leaves.proofs.levels.Goals as goal

pub returns-in-0-default : goal.returns-in-0-default
unfolding levels_in
returns-in-0-default c = rw (eq-eqb c.args.cursor.parent 0 c.in-0-default.is-0, levels_in)

pub returns-in_default-eq0 : goal.returns-in_default-eq0
unfolding levels_in
returns-in_default-eq0 c = rw (ne_eqb c.args.cursor.parent 0 c.in_default-eq0.is-0.1, levels_in, eq-eqb c.args.cursor.top 0 c.in_default-eq0.is-1)

pub returns-in_default : goal.returns-in_default
unfolding levels_in
returns-in_default c = rw (ne_eqb c.args.cursor.parent 0 c.in_default.is-0.1, levels_in, ne_eqb c.args.cursor.top 0 c.in_default.is-1.1)
