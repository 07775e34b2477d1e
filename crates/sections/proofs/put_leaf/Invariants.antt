-- `sections::put_leaf`: at each turn, what was put and the certificates left come to what all come to. Assumes nothing.
use mathlib.Core.Path.{◌≡◌}
use lib.ListN.{length}
use Rattle.counts.specs.Tally.{Few}
use Rattle.counts.proofs.Tallies.{counts}
use Rattle.sections.specs.Puts.{Lies}
use Rattle.sections.proofs.Puts.{puts}
use Rattle.sections.proofs.put_leaf.Given as goal

abbrev pub invariant-loop-j : goal.invariant-loop-j
invariant-loop-j l = record {
  long : length l.out ≡ length l.initial.out;
  few : Few l.tally;
  lies : Lies l.s (counts l.range.low l.range.high l.page l.entries l.j l.tally) (length l.initial.out);
  same : puts l.s l.range.low l.range.high l.page l.entries l.j l.tally l.out ≡ puts l.s l.range.low l.range.high l.page l.entries 0 l.initial.tally l.initial.out;
}
