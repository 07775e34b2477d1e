-- `dry::tally::tally_all`: as many more as there are, or as there is room for. Assumes nothing.
use Rattle.dry.specs.Count.{tally_all}
use borrow.Author.Rules.{rules}
use Rattle.dry.proofs.tally.tally_all.Goals as goal

pub returns : goal.returns
unfolding tally_all
returns c = search rules
