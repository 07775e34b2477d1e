-- `split::root_previous`: the old root's built decides. Assumes nothing.
use Rattle.split.proofs.ByHead.{root-built, root_older}
use Rattle.split.proofs.root_previous.Goals as goal

pub returns-then-root-c : goal.returns-then-root-c
returns-then-root-c c =
    let args = c.args in
    root-built args.c args.root.place args.root.head c.if-root-c.true

pub returns : goal.returns
returns c =
    let args = c.args in
    root_older args.c args.root.place args.root.head c.if-root-c.false
