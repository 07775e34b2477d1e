-- `sound::has_key`: before each turn the answer is whether the key is among the entries left.
-- Assumes nothing.
use Rattle.head.specs.Head.{child_at}
use Rattle.sound.proofs.Mending.{seek, seek_found, seek_on, seek-end}
use Rattle.sound.proofs.has_key.Goals as goal

pub loop-j-init : goal.loop-j-init
loop-j-init c = seek c.args.page.now c.args.count c.args.key

pub returns-then-child_key-key : goal.returns-then-child_key-key
unfolding child_at
returns-then-child_key-key c =
    let args = c.args in
    let loop = c.loop-j in
    seek_found args.page.now args.count args.key loop.j c.loop-j-test.true
    c.child_key.ensures loop.invariant c.if-child_key-key.true

pub loop-j-preserved : goal.loop-j-preserved
unfolding child_at
loop-j-preserved c =
    let args = c.args in
    let loop = c.loop-j in
    seek_on args.page.now args.count args.key loop.j c.loop-j-test.true
    c.child_key.ensures loop.invariant c.if-child_key-key.false

pub returns : goal.returns
returns c =
    let args = c.args in
    let loop = c.loop-j in
    seek-end args.page.now args.count args.key loop.j c.loop-j-test.false loop.invariant
