-- `enter::stands_above`: one of two numbers.
-- Assumes nothing.
use mathlib.Core.Path.{sym}
use Rattle.enter.proofs.Told.{two-first, two-second}
use Rattle.enter.proofs.stands_above.Goals as goal

pub returns-then-child-above : goal.returns-then-child-above
returns-then-child-above c =
    let args = c.args in
    sym (two-first args.child args.above.parent args.above.top c.if-child-above.true)

pub returns : goal.returns
returns c =
    let args = c.args in
    sym (two-second args.child args.above.parent args.above.top c.if-child-above.false)
