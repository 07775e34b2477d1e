-- `dry::stands_above`: the parent first, then the page above it. Assumes nothing.
use Rattle.dry.proofs.Sources.{above_parent, above-top}
use Rattle.dry.proofs.stands_above.Goals as goal

pub returns-then-s : goal.returns-then-s
returns-then-s c = above_parent c.args.s.place.child c.args.s.parent c.args.s.top c.if-s.true

pub returns : goal.returns
returns c = above-top c.args.s.place.child c.args.s.parent c.args.s.top c.if-s.false
