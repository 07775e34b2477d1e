-- `leaves::holds`: the two ends of a range.
-- Assumes nothing.
use mathlib.Core.Path.{◌∙◌}
use borrow.Author.Tests.{lt-leb}
use Rattle.leaves.proofs.Heads.{holds-below, holds-from}
use Rattle.leaves.proofs.holds.Goals as goal

pub returns-then-head-key : goal.returns-then-head-key
returns-then-head-key c = holds-from c.args.head.low c.args.head.high c.args.key c.if-head-key.true

pub returns-else-head-key : goal.returns-else-head-key
returns-else-head-key c =
    let h = c.if-head-key.false in
    lt-leb c.args.head.low c.args.key h ∙ holds-below c.args.head.low c.args.head.high c.args.key h
