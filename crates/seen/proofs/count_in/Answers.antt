-- `seen::count_in`: at each turn the count and the certificates left come to what all come to. Assumes nothing.
use Rattle.std.proofs.Common.{ℕ, List, sym, ap, refl, ◌∙◌, arith}
use Rattle.head.specs.Head.{head_in}
use Rattle.seen.proofs.Counting.{counting, count_turn, count-end, count_leaf_lem, count-inner}
use Rattle.seen.proofs.Looks.{head-kind, head-count}
use Rattle.seen.proofs.count_in.Goals as goal

pub returns-then-head-ne-LEAF : goal.returns-then-head-ne-LEAF
returns-then-head-ne-LEAF c = count-inner c.args.low c.args.high c.args.table.now c.args.page c.read_head-head.result (c.read_head-head.ensures ∙ ap head_in c.page_at-bytes.ensures.bytes) c.args.total c.if-head-ne-LEAF.true

pub loop-j-init : goal.loop-j-init
loop-j-init c = refl

pub cert_key-requires : goal.cert_key-requires
cert_key-requires c =
    let h = c.read_head-head.ensures ∙ ap head_in c.page_at-bytes.ensures.bytes in
    omega (arith, c.loop-j-test.true, c.page_at-bytes.ensures.size, c.requires.room (sym (head-kind c.args.table.now c.args.page c.read_head-head.result h) ∙ c.if-head-ne-LEAF.false), head-count c.args.table.now c.args.page c.read_head-head.result h)

pub loop-j-preserved : goal.loop-j-preserved
loop-j-preserved c = count_turn c.args.low c.args.high c.page_at-bytes.result.now c.read_head-head.result.count c.loop-j.j c.cert_key.result c.loop-j.sum c.count_key-sum.result c.loop-j-test.true c.cert_key.ensures c.count_key-sum.ensures ∙ c.loop-j.invariant

pub returns : goal.returns
returns c =
    let args = c.args in
    let head = c.read_head-head.result in
    let h = c.read_head-head.ensures ∙ ap head_in c.page_at-bytes.ensures.bytes in
    sym (count-end args.low args.high c.page_at-bytes.result.now head.count c.loop-j.j c.loop-j.sum c.loop-j-test.false)
    ∙ c.loop-j.invariant
    ∙ ap (λ (b : List ℕ). counting args.low args.high b head.count 0 args.total) c.page_at-bytes.ensures.bytes
    ∙ count_leaf_lem args.low args.high args.table.now args.page head h args.total c.if-head-ne-LEAF.false
