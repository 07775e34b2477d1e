-- `batch::begin`: the lengths, and nothing else.
-- Assumes nothing.
use mathlib.Core.Path.{refl, sym, ◌∙◌}
use Rattle.batch.specs.Turns.{begun}
use Rattle.batch.proofs.begin.Goals as goal

pub returns-then-not-lengths_for : goal.returns-then-not-lengths_for
unfolding begun
returns-then-not-lengths_for c =
    let args = c.args in
    rw (begun, sym (c.lengths_for.ensures args.session refl) ∙ c.if-not-lengths_for.true, c.nothing-report.ensures)

pub returns : goal.returns
unfolding begun
returns c =
    let args = c.args in
    rw (begun, sym (c.lengths_for.ensures args.session refl) ∙ c.if-not-lengths_for.false, c.nothing-report.ensures)
