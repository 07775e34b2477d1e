-- `fill::fill_known`: at each turn, what stands in the lists and what is left of the dry walk come to what it sees.
-- Assumes nothing.
use mathlib.Core.Path.{refl, ap, ◌∙◌}
use Rattle.head.specs.Head.{head_in}
use Rattle.fill.proofs.Copies.{roomy-kept}
use Rattle.fill.proofs.Calms.{filling-begins, filling_sure, filling-full, filling-ends, filling-passes, filling-below, filling-inside, filling-count, filling-rises, filling-leaf}
use native.Mathlib.Omega.{arith}
use Rattle.fill.proofs.fill_known.Goals as goal

pub loop-filled-init : goal.loop-filled-init
loop-filled-init c = (refl, refl, refl, filling-begins c.requires.0 c.requires.1 c.at_root-at.result c.at_root-at.ensures)

pub next_known-requires : goal.next_known-requires
next_known-requires c =
    let pre = c.requires in
    let loop = c.loop-filled in
    (loop.invariant.3.going.leads, filling_sure pre.0 loop.invariant.3 c.loop-filled-test.true)

pub shape_of-keys-in_default : goal.shape_of-keys-in_default
shape_of-keys-in_default c = c.loop-filled.invariant.1

pub shape_of-records-in_default : goal.shape_of-records-in_default
shape_of-records-in_default c = c.loop-filled.invariant.2

pub returns-in_default : goal.returns-in_default
returns-in_default c =
    filling-ends c.requires.0 c.loop-filled.invariant.3 c.loop-filled-test.true c.next_known.ensures c.in_default.is

pub page-requires : goal.page-requires
page-requires c =
    filling-below c.requires.0 c.loop-filled.invariant.3 c.loop-filled-test.true c.next_known.ensures c.in-Some.leaf c.in-Some.is

pub read_head-head-requires : goal.read_head-head-requires
read_head-head-requires c = omega (arith, c.page.ensures.size)

pub fill_leaf_at-filled-requires : goal.fill_leaf_at-filled-requires
fill_leaf_at-filled-requires c =
    let pre = c.requires in
    let loop = c.loop-filled in
    let if1 = c.loop-filled-test in
    let next = c.next_known in
    let head_at = c.read_head-head in
    let read = head_at.ensures ∙ ap head_in c.page.ensures.bytes in
    (filling-inside pre.0 loop.invariant.3 if1.true next.ensures c.in-Some.leaf c.in-Some.is, filling-count pre.0 loop.invariant.3 if1.true next.ensures c.in-Some.leaf c.in-Some.is head_at.result read, filling-rises pre.0 loop.invariant.3 if1.true next.ensures c.in-Some.leaf c.in-Some.is head_at.result read, omega (arith, if1.true), loop.invariant.3.roomy)

pub loop-filled-smaller : goal.loop-filled-smaller
loop-filled-smaller c =
    filling-passes c.requires.0 c.loop-filled.invariant.3 c.loop-filled-test.true c.next_known.ensures c.in-Some.leaf c.in-Some.is

pub loop-filled-preserved : goal.loop-filled-preserved
loop-filled-preserved c =
    let pre = c.requires in
    let loop = c.loop-filled in
    let if1 = c.loop-filled-test in
    let next = c.next_known in
    let head_at = c.read_head-head in
    let read = head_at.ensures ∙ ap head_in c.page.ensures.bytes in
    let fill-leaf-at = c.fill_leaf_at-filled in
    (omega (arith, next.auto.marks, loop.invariant.0), omega (arith, fill-leaf-at.auto.keys, loop.invariant.1), omega (arith, fill-leaf-at.auto.records, loop.invariant.2), filling-leaf pre.0 loop.invariant.3 if1.true next.ensures c.in-Some.leaf c.in-Some.is head_at.result read fill-leaf-at.result fill-leaf-at.new.keys fill-leaf-at.new.records fill-leaf-at.ensures (roomy-kept loop.invariant.3.roomy fill-leaf-at.auto.keys fill-leaf-at.auto.records) (omega (arith, next.auto.marks, loop.invariant.0)))

pub shape_of-keys : goal.shape_of-keys
shape_of-keys c = c.loop-filled.invariant.1

pub shape_of-records : goal.shape_of-records
shape_of-records c = c.loop-filled.invariant.2

pub returns : goal.returns
returns c = filling-full c.requires.0 c.loop-filled.invariant.3 (omega (arith, c.loop-filled-test.false))
