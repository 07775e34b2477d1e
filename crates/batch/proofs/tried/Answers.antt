-- `batch::tried`: what the insert leaves, its answer as a number, its report behind those before.
-- Assumes nothing.
use Rattle.rules.specs.Batch.{answered}
use Rattle.batch.proofs.Turns.{tried-is}
use Rattle.batch.proofs.tried.Goals as goal

pub returns : goal.returns
unfolding answered
returns c =
    let args = c.args in
    let insert = c.insert-done in
    tried-is args.working.now args.stable.now args.made args.item insert.result insert.new.working
    c.number.result c.join.result insert.ensures c.number.ensures c.join.ensures
