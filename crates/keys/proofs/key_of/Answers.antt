-- `keys::key_of`: the sum as it stands.
-- Assumes nothing.
use Rattle.rules.specs.Key.{key_of}
use borrow.Author.Rules.{rules}
use Rattle.keys.proofs.key_of.Goals as goal

pub returns : goal.returns
unfolding key_of
returns c = search rules
