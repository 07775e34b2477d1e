-- `seen::count_key`: a key out of the range is not counted. Assumes nothing.
use Rattle.std.proofs.Common.{◌∙◌, arith}
use Rattle.seen.proofs.Counting.{counts-below, counts-above, counts-within}
use Rattle.seen.proofs.count_key.Goals as goal

pub returns-then-key-low : goal.returns-then-key-low
returns-then-key-low c =
    let args = c.args in
    counts-below args.low args.high args.key args.total c.if-key-low.true

pub returns-then-key-high : goal.returns-then-key-high
returns-then-key-high c =
    let args = c.args in
    counts-above args.low args.high args.key args.total c.if-key-high.true

pub returns : goal.returns
returns c =
    let args = c.args in
    c.wrapping_add_u32.ensures.value
    ∙ counts-within args.low args.high args.key args.total (omega (arith, c.if-key-low.false))
    (omega (arith, c.if-key-high.false))
