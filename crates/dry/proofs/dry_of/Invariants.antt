-- `dry::dry_of`: at each turn, what was seen and what is left to walk come to what the whole walk sees. Assumes nothing.
use mathlib.Core.Path.{◌≡◌}
use lib.ListN.{length}
use Rattle.dry.specs.Cursor.{way_left}
use Rattle.dry.proofs.Going.{Going}
use Rattle.dry.proofs.dry_of.Given as goal

abbrev pub invariant-loop-count : goal.invariant-loop-count
invariant-loop-count l = (length l.mended ≡ 128) × Going l.table.pages l.a l.table.bytes.now l.at l.count l.mended

abbrev pub decreases-loop-count : goal.decreases-loop-count
decreases-loop-count l = way_left l.at
