-- `dry::leaf_by`: at each turn the next leaf is the same. Assumes nothing.
use mathlib.Core.Path.{◌≡◌}
use mathlib.Core.Bool.{true, not}
use lib.Dec.{eqb}
use lib.ListN.{length}
use Rattle.dry.specs.Cursor.{way_left, leaf_of, Leads, Sure}
use Rattle.dry.proofs.leaf_by.Given as goal

abbrev pub invariant-loop-on : goal.invariant-loop-on
invariant-loop-on g l = record {
  size : length l.marks ≡ length l.initial.marks;
  leads : Leads l.table.pages l.table.bytes.now l.at;
  sure : not (eqb g.row.KNOWN 0) ≡ true → Sure l.table.pages l.a l.table.bytes.now l.at l.marks;
  same : leaf_of l.table.pages l.a l.table.bytes.now l.at l.marks ≡ leaf_of l.table.pages l.a l.table.bytes.now l.initial.at l.initial.marks;
}

abbrev pub decreases-loop-on : goal.decreases-loop-on
decreases-loop-on g l = way_left l.at
