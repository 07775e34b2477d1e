-- `batch::batch`: what all turns make of the items is what stands now and what the turns to come make of those left.
use Rattle.std.proofs.Common.{length, ◌≡◌, ◌≤◌, ◌++◌, take, drop}
use Rattle.batch.specs.Turns.{running, goes, fills}
use Rattle.batch.proofs.batch.Given as goal

abbrev pub invariant-loop-i : goal.invariant-loop-i
invariant-loop-i l = record {
  within : l.i ≤ length l.items;
  long : length l.items ≡ length l.initial.items;
  stands : goes l.stable (running l.initial.made l.initial.working) l.initial.items ≡ goes l.stable (running l.made l.working) (drop l.i l.items);
  filled : fills l.stable (running l.initial.made l.initial.working) l.initial.items
      ≡ take l.i l.items ++ fills l.stable (running l.made l.working) (drop l.i l.items);
}
