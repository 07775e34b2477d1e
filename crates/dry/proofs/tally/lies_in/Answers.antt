-- `dry::tally::lies_in`: low first, then high. Assumes nothing.
use Rattle.dry.proofs.Tallies.{lies-below, lies-up_to}
use native.Mathlib.Omega.{arith}
use Rattle.dry.proofs.tally.lies_in.Goals as goal

pub returns-then-range-head : goal.returns-then-range-head
returns-then-range-head c =
    let args = c.args in
    lies-below args.head args.range.low args.range.high (omega (arith, c.if-range-head.true))

pub returns : goal.returns
returns c =
    let args = c.args in
    lies-up_to args.head args.range.low args.range.high (omega (arith, c.if-range-head.false))
