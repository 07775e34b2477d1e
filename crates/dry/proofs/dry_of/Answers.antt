-- `dry::dry_of`: at each turn, what was seen and what is left to walk come to what the whole walk sees. Assumes nothing.
use mathlib.Core.Path.{refl, ap, ◌∙◌}
use Rattle.std.specs.Prelude.{Ok}
use Rattle.head.specs.Head.{head_in}
use Rattle.dry.proofs.Going.{taken, going-begins, going-full, leaf_less, leaf-below, leaf_there, going-leaf, going-ends, going-breaks}
use native.Mathlib.Omega.{arith}
use Rattle.dry.proofs.dry_of.Goals as goal

pub loop-count-init : goal.loop-count-init
loop-count-init c = (refl, going-begins c.args.table.pages c.args.table.bytes.now c.at_root-at.result c.at_root-at.ensures c.args.a c.requires)

pub next_leaf-requires : goal.next_leaf-requires
next_leaf-requires c = c.loop-count.invariant.1.leads

pub returns-in_default : goal.returns-in_default
returns-in_default c =
    let y = taken c.args.table.whole c.loop-count.invariant.1 c.loop-count-test.true c.next_leaf.ensures in
    going-breaks y c.in_default.field-0 c.in_default.is

pub returns-in_default-next : goal.returns-in_default-next
returns-in_default-next c =
    let y = taken c.args.table.whole c.loop-count.invariant.1 c.loop-count-test.true c.next_leaf.ensures in
    going-ends y (c.in-Ok.is ∙ ap Ok c.in_default-next.is)

pub page-requires : goal.page-requires
page-requires c =
    let y = taken c.args.table.whole c.loop-count.invariant.1 c.loop-count-test.true c.next_leaf.ensures in
    leaf-below y c.in-Some.leaf (c.in-Ok.is ∙ ap Ok c.in-Some.is)

pub read_head-head-requires : goal.read_head-head-requires
read_head-head-requires c = omega (arith, c.page.ensures.size)

pub tally_leaf-count-requires : goal.tally_leaf-count-requires
tally_leaf-count-requires c =
    let y = taken c.args.table.whole c.loop-count.invariant.1 c.loop-count-test.true c.next_leaf.ensures in
    leaf_there y c.in-Some.leaf (c.in-Ok.is ∙ ap Ok c.in-Some.is) c.read_head-head.result (c.read_head-head.ensures ∙ ap head_in c.page.ensures.bytes)

pub loop-count-smaller : goal.loop-count-smaller
loop-count-smaller c =
    let y = taken c.args.table.whole c.loop-count.invariant.1 c.loop-count-test.true c.next_leaf.ensures in
    leaf_less y c.in-Some.leaf (c.in-Ok.is ∙ ap Ok c.in-Some.is)

pub loop-count-preserved : goal.loop-count-preserved
loop-count-preserved c =
    let y = taken c.args.table.whole c.loop-count.invariant.1 c.loop-count-test.true c.next_leaf.ensures in
    (omega arith, going-leaf y c.in-Some.leaf (c.in-Ok.is ∙ ap Ok c.in-Some.is) c.tally_leaf-count.result c.tally_leaf-count.ensures)

pub returns : goal.returns
returns c = going-full c.loop-count.invariant.1 (omega (arith, c.loop-count-test.false))
