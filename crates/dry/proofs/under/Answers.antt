-- `dry::under`: by the level of the place. Assumes nothing.
use Rattle.dry.proofs.Turns.{under_first, under_up, under_none, under-deep}
use Rattle.dry.proofs.under.Goals as goal

pub returns-then-s-eq3 : goal.returns-then-s-eq3
returns-then-s-eq3 c = under_first c.args.s c.args.run c.if-s-eq3.true c.under_root.result c.under_root.ensures

pub returns-then-s-eq2 : goal.returns-then-s-eq2
returns-then-s-eq2 c = under_up c.args.s c.args.run c.if-s-eq3.false c.if-s-eq2.true

pub returns-then-run-eq0 : goal.returns-then-run-eq0
returns-then-run-eq0 c = under_none c.args.s c.args.run c.if-s-eq3.false c.if-s-eq2.false c.if-run-eq0.true

pub returns : goal.returns
returns c = under-deep c.args.s c.args.run c.if-s-eq3.false c.if-s-eq2.false c.if-run-eq0.false
