-- `counts::counted`: each number by itself. Assumes nothing.
use Rattle.counts.specs.Tally.{counted}
use Rattle.counts.proofs.counted.Goals as goal

pub returns : goal.returns
unfolding counted
returns c = rw (c.one_more-models.ensures, c.one_more-meters.ensures)
