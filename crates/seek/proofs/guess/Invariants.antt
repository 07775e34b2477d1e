-- `seek::guess`: each turn is one of the definition's.
-- Assumes nothing.
use Rattle.entries.specs.Layout.{keys_on}
use Rattle.seek.proofs.Halving.{Halving}
use Rattle.seek.proofs.guess.Given as goal

abbrev pub invariant-loop-left : goal.invariant-loop-left
invariant-loop-left l = Halving l.key (keys_on l.entries l.page) l.low l.left

abbrev pub decreases-loop-left : goal.decreases-loop-left
decreases-loop-left l = l.left
