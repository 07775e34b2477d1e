-- `plan::need`: two new pages for each split, and a root where all split. At most seven, so the numbers fit.
use lib.ListN.{length}
use Rattle.plan.proofs.Plans.{need-root, need-none}
use Rattle.plan.proofs.need.Goals as goal

pub returns-then-splits-way : goal.returns-then-splits-way
returns-then-splits-way c = need-root (length c.args.way.now) c.args.splits c.if-splits-way.true

pub returns : goal.returns
returns c = need-none (length c.args.way.now) c.args.splits c.if-splits-way.false
