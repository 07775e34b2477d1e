-- `dry::tally::tally_key`: a key out of the range or without room is not counted. Assumes nothing.
use mathlib.Core.Path.{sym, ◌∙◌}
use Rattle.dry.proofs.Tallies.{outside, tallied-full, tallied-more}
use native.Mathlib.Omega.{arith}
use Rattle.dry.proofs.tally.tally_key.Goals as goal

pub returns-then-not-holds : goal.returns-then-not-holds
returns-then-not-holds c =
    let args = c.args in
    outside args.range.low args.range.high args.room args.key args.count (sym c.holds.ensures ∙ c.if-not-holds.true)

pub returns-then-count-room : goal.returns-then-count-room
returns-then-count-room c =
    let args = c.args in
    tallied-full args.range.low args.range.high args.room args.key args.count (omega (arith, c.if-count-room.true))

pub returns : goal.returns
returns c =
    let args = c.args in
    tallied-more args.range.low args.range.high args.room args.key args.count (sym c.holds.ensures ∙ c.if-not-holds.false)
    (omega (arith, c.if-count-room.false))
