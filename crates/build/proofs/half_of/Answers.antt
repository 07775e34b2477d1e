-- `build::half_of`: the two branches are the two cases of the half.
-- Assumes nothing.
use borrow.Author.Tests.{eq-eqb, ne_eqb}
use Rattle.build.specs.Range.{half_of}
use Rattle.build.proofs.half_of.Goals as goal

pub returns-then-kind-eq-LEAF : goal.returns-then-kind-eq-LEAF
unfolding half_of
returns-then-kind-eq-LEAF c = rw (eq-eqb c.args.kind 1 c.if-kind-eq-LEAF.true, half_of)

pub returns-else-kind-eq-LEAF : goal.returns-else-kind-eq-LEAF
unfolding half_of
returns-else-kind-eq-LEAF c = rw (ne_eqb c.args.kind 1 c.if-kind-eq-LEAF.false, half_of)
