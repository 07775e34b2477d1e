-- `leaves::behind`: by where the range ends. Assumes nothing.
use borrow.Author.Tests.{lt-ltb, le-ltb}
use Rattle.leaves.specs.Walks.{key_behind}
use Rattle.leaves.proofs.behind.Goals as goal

pub returns-then-end-high : goal.returns-then-end-high
unfolding key_behind
returns-then-end-high c = rw (lt-ltb c.args.end c.args.high c.if-end-high.true, key_behind)

pub returns : goal.returns
unfolding key_behind
returns c = rw (le-ltb c.args.end c.args.high c.if-end-high.false, key_behind)
