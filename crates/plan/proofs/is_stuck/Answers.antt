-- `plan::is_stuck`: where all pages split the root's kind decides; else there is no new root.
use borrow.Author.Tests.{ne_eqb}
use lib.ListN.{length}
use Rattle.way.specs.Ways.{no_step}
use Rattle.plan.proofs.Plans.{stuck_root, stuck_never}
use Rattle.plan.proofs.is_stuck.Goals as goal

pub returns-then-splits-way : goal.returns-then-splits-way
returns-then-splits-way c = stuck_root c.args.way.now c.args.splits no_step c.requires c.if-splits-way.true

pub returns-else-splits-way : goal.returns-else-splits-way
returns-else-splits-way c =
    rw (ne_eqb c.args.splits (length c.args.way.now) c.if-splits-way.false) (stuck_never c.args.way.now c.args.splits c.if-splits-way.false)
