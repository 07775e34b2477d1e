-- `marks::counts`: the two tests, one after the other.
-- Assumes nothing.
use Rattle.marks.proofs.Member.{mem-any}
use Rattle.marks.proofs.counts.Goals as goal

pub returns-then-s-i : goal.returns-then-s-i
returns-then-s-i c = rw (c.contains.ensures.value, mem-any c.args.i c.args.entered.now, c.if-s-i.true)
