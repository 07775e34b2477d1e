-- `split::mark`: the three moves one after the other. Assumes nothing.
use Rattle.split.proofs.mark.Goals as goal

pub returns : goal.returns
returns c = rw (c.retire.ensures, c.take-both_taken.ensures, c.take-lower_taken.ensures)
