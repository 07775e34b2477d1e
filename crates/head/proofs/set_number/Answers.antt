-- `head::set_number`: one field of page 0.
-- Assumes nothing.
use Rattle.rules.specs.Table.{set_number}
use borrow.Author.Rules.{rules}
use Rattle.head.proofs.set_number.Goals as goal

pub returns : goal.returns
unfolding set_number
returns c = search rules
