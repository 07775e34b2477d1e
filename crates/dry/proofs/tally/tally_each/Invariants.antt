-- `dry::tally::tally_each`: at each turn the count and the certificates left come to what all come to. Assumes nothing.
use mathlib.Core.Path.{◌≡◌}
use Rattle.dry.proofs.Tallies.{tallies}
use Rattle.dry.proofs.tally.tally_each.Given as goal

abbrev pub invariant-loop-j : goal.invariant-loop-j
invariant-loop-j l = tallies l.range.low l.range.high l.room l.page l.entries l.j l.found ≡ tallies l.range.low l.range.high l.room l.page l.entries 0 l.initial.found
