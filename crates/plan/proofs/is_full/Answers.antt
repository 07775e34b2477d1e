-- `plan::is_full`: the header's count and the room of its kind.
use Rattle.plan.proofs.Heads.{full-leaf, full-inner}
use Rattle.plan.proofs.is_full.Goals as goal

pub returns-then-head-eq-LEAF : goal.returns-then-head-eq-LEAF
returns-then-head-eq-LEAF c = full-leaf c.args.head c.if-head-eq-LEAF.true

pub returns : goal.returns
returns c = full-inner c.args.head c.if-head-eq-LEAF.false
