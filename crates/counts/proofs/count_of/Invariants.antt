-- `counts::count_of`: at each turn, the tally of what was seen, and what is left to walk. Assumes nothing.
use mathlib.Core.Path.{◌≡◌}
use lib.ListN.{length}
use Rattle.dry.specs.Cursor.{way_left}
use Rattle.counts.proofs.Counting.{Counting}
use Rattle.counts.proofs.count_of.Given as goal

abbrev pub invariant-loop-tally : goal.invariant-loop-tally
invariant-loop-tally l = (length l.mended ≡ 128) × Counting l.table.pages l.a l.table.bytes.now l.at l.tally l.mended

abbrev pub decreases-loop-tally : goal.decreases-loop-tally
decreases-loop-tally l = way_left l.at
