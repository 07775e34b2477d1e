-- `head::root_place`: what page 0 says, over every key.
-- Assumes nothing.
use Rattle.head.specs.Head.{zero_in}
use Rattle.rules.specs.Place.{root_place}
use Rattle.head.proofs.root_place.Goals as goal

pub returns : goal.returns
unfolding zero_in root_place
returns c = rw c.read_zero-zero.ensures
