-- `plan::is_late`: a leaf is never late; of an inner page touched decides.
use borrow.Author.Tests.{eq-eqb}
use Rattle.plan.proofs.Heads.{late-leaf, late-inner}
use Rattle.plan.proofs.is_late.Goals as goal

pub returns-then-head-ne-LEAF : goal.returns-then-head-ne-LEAF
returns-then-head-ne-LEAF c = late-inner c.args.c c.args.head c.if-head-ne-LEAF.true

pub returns-else-head-ne-LEAF : goal.returns-else-head-ne-LEAF
returns-else-head-ne-LEAF c =
    rw (eq-eqb c.args.head.kind 1 c.if-head-ne-LEAF.false) (late-leaf c.args.c c.args.head c.if-head-ne-LEAF.false)
