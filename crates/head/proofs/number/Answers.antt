-- `head::number`: one field of page 0.
-- Assumes nothing.
use Rattle.rules.specs.Table.{number0}
use borrow.Author.Rules.{rules}
use Rattle.head.proofs.number.Goals as goal

pub returns : goal.returns
unfolding number0
returns c = search rules
