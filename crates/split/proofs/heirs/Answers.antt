-- `split::heirs`: of a leaf its built decides; the halves of an inner page never inherit. Assumes nothing.
use borrow.Author.Tests.{ne_eqb}
use Rattle.split.proofs.ByHead.{heirs-leaf, heirs-inner}
use Rattle.split.proofs.heirs.Goals as goal

pub returns-then-head-eq-LEAF : goal.returns-then-head-eq-LEAF
returns-then-head-eq-LEAF c = heirs-leaf c.args.c c.args.head c.if-head-eq-LEAF.true

pub returns-else-head-eq-LEAF : goal.returns-else-head-eq-LEAF
returns-else-head-eq-LEAF c =
    rw (ne_eqb c.args.head.kind 1 c.if-head-eq-LEAF.false) (heirs-inner c.args.c c.args.head c.if-head-eq-LEAF.false)
