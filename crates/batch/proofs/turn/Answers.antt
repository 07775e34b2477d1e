-- `batch::turn`: by the batch's own answer.
-- Assumes nothing.
use Rattle.batch.specs.Turns.{turn_of}
use Rattle.batch.proofs.Turns.{left_alone}
use Rattle.batch.proofs.turn.Goals as goal

pub returns-in-Ok : goal.returns-in-Ok
unfolding turn_of
returns-in-Ok c = rw (turn_of, c.in-Ok.is) c.tried.ensures

pub returns-in-Err : goal.returns-in-Err
returns-in-Err c =
    let args = c.args in
    left_alone args.stable.now args.working.now args.made args.item c.in-Err.field-0 c.in-Err.is
