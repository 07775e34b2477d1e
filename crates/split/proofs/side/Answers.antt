-- `split::side`: one comparison with the key that divides the page. Assumes nothing.
use Rattle.split.proofs.ByHead.{side-lower, side-upper}
use Rattle.split.proofs.side.Goals as goal

pub returns-then-key-middle : goal.returns-then-key-middle
returns-then-key-middle c =
    let args = c.args in
    side-lower args.key args.middle args.twins.lower args.twins.upper c.if-key-middle.true

pub returns : goal.returns
returns c =
    let args = c.args in
    side-upper args.key args.middle args.twins.lower args.twins.upper c.if-key-middle.false
