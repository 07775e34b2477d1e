-- `counts::counted_in`: a key out of the range is not counted. Assumes nothing.
use mathlib.Core.Path.{sym, ◌∙◌}
use Rattle.counts.proofs.Tallies.{in_not, in_here}
use Rattle.counts.proofs.counted_in.Goals as goal

pub returns-then-not-holds : goal.returns-then-not-holds
returns-then-not-holds c = in_not c.args.range.low c.args.range.high c.args.c c.args.key (sym c.holds.ensures ∙ c.if-not-holds.true)

pub returns : goal.returns
returns c = c.counted.ensures ∙ in_here c.args.range.low c.args.range.high c.args.c c.args.key (sym c.holds.ensures ∙ c.if-not-holds.false)
