-- `counts::everything`: every key, and room for all. Assumes nothing.
use Rattle.counts.specs.Tally.{everything}
use borrow.Author.Rules.{rules}
use Rattle.counts.proofs.everything.Goals as goal

pub returns : goal.returns
unfolding everything
returns c = search rules
