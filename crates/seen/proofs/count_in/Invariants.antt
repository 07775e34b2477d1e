-- `seen::count_in`: at each turn the count and the certificates left come to what all come to. Assumes nothing.
use Rattle.std.proofs.Common.{◌≡◌}
use Rattle.seen.proofs.Counting.{counting}
use Rattle.seen.proofs.count_in.Given as goal

abbrev pub invariant-loop-j : goal.invariant-loop-j
invariant-loop-j l = counting l.low l.high l.bytes l.j-end l.j l.sum ≡ counting l.low l.high l.bytes l.j-end 0 l.total
