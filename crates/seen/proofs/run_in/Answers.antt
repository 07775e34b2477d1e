-- `seen::run_in`: none of a leaf; of an inner page the first entry not below low, and those from it up to high.
-- Assumes nothing.
use Rattle.std.proofs.Common.{ℕ, List, ◌-◌, sym, ap, ◌∙◌, arith}
use Rattle.head.specs.Head.{head_in}
use Rattle.seen.specs.Run.{entries_from, up_to, below}
use Rattle.seen.proofs.Looks.{run-leaf, run-found, first_found, left-found, first-within, head-kind, head-count, head-inner, head-want}
use Rattle.seen.proofs.run_in.Goals as goal

pub returns-then-head-eq-LEAF : goal.returns-then-head-eq-LEAF
returns-then-head-eq-LEAF c =
    let args = c.args in
    let h = c.read_head-head.ensures ∙ ap head_in c.page_at-bytes.ensures.bytes in
    let none = c.default.ensures in
    cc (
      run-leaf args.table.now args.page args.low args.high
          (sym (head-kind args.table.now args.page c.read_head-head.result h) ∙ c.if-head-eq-LEAF.true),
      none.1.0,
      none.1.1.0,
      none.1.1.1,
    )

pub below-first-requires : goal.below-first-requires
below-first-requires c =
    let args = c.args in
    let head = c.read_head-head.result in
    let h = c.read_head-head.ensures ∙ ap head_in c.page_at-bytes.ensures.bytes in
    omega
    (arith, c.page_at-bytes.ensures.size, head-count args.table.now args.page head h, c.requires.room (head-inner args.table.now args.page head h c.if-head-eq-LEAF.false))

pub up_to-requires : goal.up_to-requires
up_to-requires c =
    let args = c.args in
    let head = c.read_head-head.result in
    let h = c.read_head-head.ensures ∙ ap head_in c.page_at-bytes.ensures.bytes in
    let first = c.below-first.ensures ∙ ap (λ (b : List ℕ). below args.low (entries_from 0 head.count b)) c.page_at-bytes.ensures.bytes in (
      first-within args.table.now args.page head h args.low c.below-first.result
          (first_found args.table.now args.page head h args.low c.below-first.result first),
      omega
          (arith, c.page_at-bytes.ensures.size, head-count args.table.now args.page head h, c.requires.room (head-inner args.table.now args.page head h c.if-head-eq-LEAF.false)),
    )

pub overflow_sub-result : goal.overflow_sub-result
overflow_sub-result c =
    let h = c.read_head-head.ensures ∙ ap head_in c.page_at-bytes.ensures.bytes in
    omega (arith, c.requires.kind, head-kind c.args.table.now c.args.page c.read_head-head.result h)

pub returns : goal.returns
returns c =
    let args = c.args in
    let head = c.read_head-head.result in
    let h = c.read_head-head.ensures ∙ ap head_in c.page_at-bytes.ensures.bytes in
    let at = c.page_at-bytes.ensures.bytes in
    let first = c.below-first.ensures ∙ ap (λ (b : List ℕ). below args.low (entries_from 0 head.count b)) at in
    let left = c.up_to.ensures ∙ ap (λ (b : List ℕ). up_to args.high (entries_from c.below-first.result (head.count - c.below-first.result) b)) at in
    run-found args.table.now args.page args.low args.high c.below-first.result c.up_to.result (head.kind - 1)
    (head-inner args.table.now args.page head h c.if-head-eq-LEAF.false)
    (first_found args.table.now args.page head h args.low c.below-first.result first)
    (left-found args.table.now args.page head h c.below-first.result args.high c.up_to.result left)
    (head-want args.table.now args.page head h)
