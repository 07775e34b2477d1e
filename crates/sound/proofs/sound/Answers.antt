-- `sound::sound`: the header's tests first; of the entries only what the kind asks.
-- Assumes nothing.
use Rattle.sound.proofs.ByKind.{range_fails, leaf_overfull, leaf_last, kind-zero, kind_beyond, inner_overfull, inner_last}
use Rattle.sound.proofs.sound.Goals as goal

pub returns-then-head : goal.returns-then-head
returns-then-head c =
    let args = c.args in
    let read_head = c.read_head-head in
    range_fails args.n args.page.now read_head.result read_head.ensures c.if-head.true

pub returns-then-head-gt-LEAF_ROOM : goal.returns-then-head-gt-LEAF_ROOM
returns-then-head-gt-LEAF_ROOM c =
    let args = c.args in
    let read_head = c.read_head-head in
    leaf_overfull args.n args.page.now read_head.result read_head.ensures c.if-head-eq-LEAF.true
    c.if-head-gt-LEAF_ROOM.true

pub returns-then-head-eq-LEAF : goal.returns-then-head-eq-LEAF
returns-then-head-eq-LEAF c =
    let args = c.args in
    let read_head = c.read_head-head in
    let if1 = c.if-head in
    let if2 = c.if-head-eq-LEAF in
    leaf_last args.n args.page.now read_head.result read_head.ensures c.certs_pass.ensures
    if2.true c.if-head-gt-LEAF_ROOM.false if1.false

pub returns-then-head-eq0 : goal.returns-then-head-eq0
returns-then-head-eq0 c =
    let args = c.args in
    let read_head = c.read_head-head in
    kind-zero args.n args.page.now read_head.result read_head.ensures c.if-head-eq-LEAF.false
    c.if-head-eq0.true

pub returns-then-head-gt-TOP : goal.returns-then-head-gt-TOP
returns-then-head-gt-TOP c =
    let args = c.args in
    let read_head = c.read_head-head in
    let if2 = c.if-head-eq-LEAF in
    kind_beyond args.n args.page.now read_head.result read_head.ensures if2.false c.if-head-gt-TOP.true

pub returns-then-head-gt-INNER_ROOM : goal.returns-then-head-gt-INNER_ROOM
returns-then-head-gt-INNER_ROOM c =
    let args = c.args in
    let read_head = c.read_head-head in
    let if2 = c.if-head-eq-LEAF in
    inner_overfull args.n args.page.now read_head.result read_head.ensures if2.false c.if-head-gt-INNER_ROOM.true

pub returns : goal.returns
returns c =
    let args = c.args in
    let read_head = c.read_head-head in
    let if1 = c.if-head in
    let if2 = c.if-head-eq-LEAF in
    let if4 = c.if-head-eq0 in
    let if5 = c.if-head-gt-TOP in
    inner_last args.n args.page.now read_head.result read_head.ensures if2.false
    c.children_pass.ensures if4.false if5.false c.if-head-gt-INNER_ROOM.false if1.false
