-- `fill::fill_known`: at each turn, what stands in the lists and what is left of the dry walk come to what it sees.
-- Assumes nothing.
use mathlib.Core.Path.{◌≡◌}
use lib.ListN.{length}
use Rattle.dry.specs.Cursor.{way_left}
use Rattle.fill.proofs.Calms.{Filling}
use Rattle.fill.proofs.fill_known.Given as goal

abbrev pub invariant-loop-filled : goal.invariant-loop-filled
invariant-loop-filled l = (length l.mended ≡ 128) × (length l.keys ≡ length l.initial.keys) × (length l.records ≡ length l.initial.records) × Filling l.t.pages l.a l.t.bytes.now l.initial.keys l.initial.records l.at l.filled l.mended l.keys l.records

abbrev pub decreases-loop-filled : goal.decreases-loop-filled
decreases-loop-filled l = way_left l.at
