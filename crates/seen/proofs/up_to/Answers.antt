-- `seen::up_to`: the loop's invariant says that the entries before j have passed.
-- Assumes nothing.
use Rattle.std.proofs.Common.{◌≡◌, arith, subst}
use Rattle.seen.proofs.Spans.{Passed, pass_stop, pass_on, pass_end}
use Rattle.seen.proofs.up_to.Goals as goal

pub returns-then-child_key-key : goal.returns-then-child_key-key
returns-then-child_key-key c =
    let args = c.args in
    let loop = c.loop-j in
    pass_stop args.page.now args.from args.count args.key loop.j loop.auto.j
    c.loop-j-test.true (omega (arith, c.if-child_key-key.true, c.child_key.ensures)) loop.invariant

pub loop-j-preserved : goal.loop-j-preserved
loop-j-preserved c =
    let args = c.args in
    let loop = c.loop-j in
    pass_on args.page.now args.from args.count args.key loop.j loop.auto.j
    c.loop-j-test.true (omega (arith, c.if-child_key-key.false, c.child_key.ensures)) loop.invariant

pub returns : goal.returns
returns c =
    let args = c.args in
    let loop = c.loop-j in
    let last : loop.j ≡ args.count = omega (arith, loop.auto.j-end c.requires.0) in
    pass_end args.page.now args.from args.count args.key args.count c.requires.0 (omega arith)
    (subst (Passed args.page.now args.from args.count args.key) last loop.invariant)
