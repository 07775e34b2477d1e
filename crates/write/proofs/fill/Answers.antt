-- `write::fill`: at each turn, what was put and what is left of the walk come to what the rules' walk finds. Assumes nothing.
use mathlib.Core.Path.{refl, ap, ◌∙◌}
use Rattle.std.specs.Prelude.{Some}
use Rattle.counts.proofs.Tallies.{tally_none}
use Rattle.fill.proofs.Fills.{reached-inside, reached-count}
use Rattle.write.proofs.Filling.{filling-begins, filling-few, filling-done, filling-damaged, filling-reached, filling-lies, filling_on, filling_less}
use native.Mathlib.Omega.{arith}
use Rattle.write.proofs.fill.Goals as goal

pub loop-step-init : goal.loop-step-init
loop-step-init c = (refl, refl, filling-begins (record { long = c.requires.0; bytes = c.slice_known-1.given; fit = c.requires.1; counter = omega (arith, c.ranges.c) }) c.requires.2 c.requires.3 c.over-walk.result c.over-walk.ensures c.default-tally.result (let d = c.default-tally.ensures in tally_none d.0 d.1.0 d.1.1.0 d.1.1.1))

pub next-requires : goal.next-requires
next-requires c =
    let y = c.loop-step.invariant.2.walking in
    (omega (arith, c.loop-step.invariant.0, c.requires.0), y.ground.fit, y.kept)

pub page_at-page-requires : goal.page_at-page-requires
page_at-page-requires c =
    reached-inside (filling-reached c.loop-step.invariant.2 c.requires.5 c.requires.4 c.next.ensures c.in-Ok.leaf (c.in-Some.is ∙ ap Some c.in-Ok.is))

pub put_leaf-tally-requires : goal.put_leaf-tally-requires
put_leaf-tally-requires c =
    let y = c.loop-step.invariant.2 in
    let r = filling-reached y c.requires.5 c.requires.4 c.next.ensures c.in-Ok.leaf (c.in-Some.is ∙ ap Some c.in-Ok.is) in
    (omega (arith, reached-count r, c.page_at-page.ensures.size), filling-few y, rw (c.loop-step.invariant.1, c.page_at-page.ensures.bytes) (filling-lies y c.requires.5 c.requires.4 c.next.ensures c.in-Ok.leaf (c.in-Some.is ∙ ap Some c.in-Ok.is) c.requires.6))

pub loop-step-smaller : goal.loop-step-smaller
loop-step-smaller c = filling_less c.loop-step.invariant.2 c.requires.5 c.requires.4 c.next.ensures c.in-Ok.leaf (c.in-Some.is ∙ ap Some c.in-Ok.is)

pub loop-step-preserved : goal.loop-step-preserved
loop-step-preserved c = (omega (arith, c.next.auto.t, c.loop-step.invariant.0), omega (arith, c.put_leaf-tally.auto.out, c.loop-step.invariant.1), filling_on c.loop-step.invariant.2 c.requires.5 c.requires.4 c.next.ensures c.in-Ok.leaf (c.in-Some.is ∙ ap Some c.in-Ok.is) c.put_leaf-tally.result c.put_leaf-tally.new.out (rw c.page_at-page.ensures.bytes at c.put_leaf-tally.ensures))

pub returns-in_default-step : goal.returns-in_default-step
returns-in_default-step c = absurd (filling-damaged c.loop-step.invariant.2 c.requires.5 c.requires.4 c.next.ensures c.in_default-step.field-0 (c.in-Some.is ∙ ap Some c.in_default-step.is))

pub returns : goal.returns
returns c = filling-done c.loop-step.invariant.2 c.requires.5 c.requires.4 c.next.ensures c.in_default.is
