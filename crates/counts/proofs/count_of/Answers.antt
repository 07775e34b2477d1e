-- `counts::count_of`: at each turn, the tally of what was seen, and what is left to walk. Assumes nothing.
use mathlib.Core.Path.{refl, ap, ◌∙◌}
use Rattle.std.specs.Prelude.{Ok}
use Rattle.head.specs.Head.{head_in}
use Rattle.counts.proofs.Tallies.{tally_none}
use Rattle.counts.proofs.Counting.{counting_begins, counting_few, counting_room, counting_full, counting_ends, counting_breaks, counting_passes, counting_below, counting-count, counting-leaf}
use native.Mathlib.Omega.{arith}
use Rattle.counts.proofs.count_of.Goals as goal

pub loop-tally-init : goal.loop-tally-init
loop-tally-init c = (refl, counting_begins c.everything-a.ensures c.at_root-at.result c.at_root-at.ensures c.default-tally.result (let d = c.default-tally.ensures in tally_none d.0 d.1.0 d.1.1.0 d.1.1.1) c.requires)

pub next_leaf-requires : goal.next_leaf-requires
next_leaf-requires c = c.loop-tally.invariant.1.going.leads

pub returns-in_default : goal.returns-in_default
returns-in_default c =
    counting_breaks c.everything-a.ensures c.loop-tally.invariant.1 c.args.table.whole c.loop-tally-test.true c.next_leaf.ensures c.in_default.field-0
    c.in_default.is

pub returns-in_default-next : goal.returns-in_default-next
returns-in_default-next c =
    counting_ends c.everything-a.ensures c.loop-tally.invariant.1 c.args.table.whole c.loop-tally-test.true c.next_leaf.ensures
    (c.in-Ok.is ∙ ap Ok c.in_default-next.is)

pub page-page-requires : goal.page-page-requires
page-page-requires c =
    counting_below c.everything-a.ensures c.loop-tally.invariant.1 c.args.table.whole c.loop-tally-test.true c.next_leaf.ensures c.in-Some.leaf
    (c.in-Ok.is ∙ ap Ok c.in-Some.is)

pub read_head-entries-requires : goal.read_head-entries-requires
read_head-entries-requires c = omega (arith, c.page-page.ensures.size)

pub count_leaf-tally-requires : goal.count_leaf-tally-requires
count_leaf-tally-requires c =
    let q = c.in-Ok.is ∙ ap Ok c.in-Some.is in
    let read = c.read_head-entries.ensures ∙ ap head_in c.page-page.ensures.bytes in
    let few = counting-count c.everything-a.ensures c.loop-tally.invariant.1 c.args.table.whole c.loop-tally-test.true c.next_leaf.ensures c.in-Some.leaf q c.read_head-entries.result read in
    (omega (arith, few, c.page-page.ensures.size), few, counting_few c.everything-a.ensures c.loop-tally.invariant.1, counting_room c.everything-a.ensures c.loop-tally.invariant.1)

pub loop-tally-smaller : goal.loop-tally-smaller
loop-tally-smaller c =
    counting_passes c.everything-a.ensures c.loop-tally.invariant.1 c.args.table.whole c.loop-tally-test.true c.next_leaf.ensures c.in-Some.leaf
    (c.in-Ok.is ∙ ap Ok c.in-Some.is)

pub loop-tally-preserved : goal.loop-tally-preserved
loop-tally-preserved c =
    let q = c.in-Ok.is ∙ ap Ok c.in-Some.is in
    let read = c.read_head-entries.ensures ∙ ap head_in c.page-page.ensures.bytes in
    (omega (arith, c.next_leaf.auto.marks, c.loop-tally.invariant.0), counting-leaf c.everything-a.ensures c.loop-tally.invariant.1 c.args.table.whole c.loop-tally-test.true c.next_leaf.ensures c.in-Some.leaf q c.read_head-entries.result read (omega arith) c.count_leaf-tally.result (rw c.page-page.ensures.bytes at c.count_leaf-tally.ensures))

pub returns : goal.returns
returns c = counting_full c.everything-a.ensures c.loop-tally.invariant.1 (omega (arith, c.loop-tally-test.false))
