-- `counts::count_leaf`: at each turn the tally and the certificates left come to what all come to. Assumes nothing.
use Prim.Native.Nat.{◌+◌, ◌≤◌}
use mathlib.Core.Path.{◌≡◌}
use Rattle.counts.specs.Tally.{Few}
use Rattle.counts.proofs.Tallies.{counts}
use Rattle.counts.proofs.count_leaf.Given as goal

abbrev pub invariant-loop-j : goal.invariant-loop-j
invariant-loop-j l = record {
  few : Few l.tally;
  most : l.tally.certs ≤ l.initial.tally.certs + l.j;
  same : counts l.range.low l.range.high l.page l.entries l.j l.tally ≡ counts l.range.low l.range.high l.page l.entries 0 l.initial.tally;
}
