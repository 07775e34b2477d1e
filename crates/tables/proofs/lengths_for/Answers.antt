-- `tables::lengths_for`: the lengths, then the number of pages.
-- Assumes nothing.
use mathlib.Core.Path.{sym, ◌∙◌}
use Rattle.rules.specs.Table.{pages}
use Rattle.rules.specs.Call.{lengths_for}
use Rattle.tables.proofs.lengths_for.Goals as goal

pub returns-then-good_lengths : goal.returns-then-good_lengths
unfolding lengths_for pages
returns-then-good_lengths c = λ s e. rw (e, sym c.good_lengths.ensures ∙ c.if-good_lengths.true)

pub returns : goal.returns
unfolding lengths_for
returns c = λ s e. rw (sym c.good_lengths.ensures ∙ c.if-good_lengths.false)
