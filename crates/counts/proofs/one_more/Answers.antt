-- `counts::one_more`: one more unless both keys stand under the same. Assumes nothing.
use mathlib.Core.Path.{sym}
use Rattle.counts.proofs.Tallies.{more_same, more-other}
use Rattle.counts.proofs.one_more.Goals as goal

pub returns-then-last-by : goal.returns-then-last-by
returns-then-last-by c = sym (more_same c.args.by c.args.last c.args.key c.args.count c.if-last-by.true)

pub returns : goal.returns
returns c = sym (more-other c.args.by c.args.last c.args.key c.args.count c.if-last-by.false)
