-- `newest::look`: at each turn the walk behind the last leaf is what is left to do. Assumes nothing.
use mathlib.Core.Path.{ap, ◌∙◌}
use Rattle.std.specs.Prelude.{Some}
use Rattle.newest.proofs.Turns.{goes_first, ends, ends-damaged, reached, spot-room, turns_less, goes-next}
use native.Mathlib.Omega.{arith}
use Rattle.newest.proofs.look.Goals as goal

pub loop-step-init : goal.loop-step-init
loop-step-init c = goes_first (record { long = c.requires.0; bytes = c.slice_known-1.given; fit = c.requires.1; counter = omega (arith, c.ranges.c) }) c.requires.2 c.requires.3 (omega (arith, c.ranges.high)) c.over-walk.ensures

pub next-requires : goal.next-requires
next-requires c =
    let y = c.loop-step.invariant.walking in
    (y.ground.long, y.ground.fit, y.kept)

pub returns-in_default-step : goal.returns-in_default-step
returns-in_default-step c = ends-damaged c.loop-step.invariant c.next.ensures c.in_default-step.field-0 (c.in-Some.is ∙ ap Some c.in_default-step.is)

pub page_at-page-requires : goal.page_at-page-requires
page_at-page-requires c =
    let k = reached c.loop-step.invariant c.next.ensures c.in-Ok.leaf (c.in-Some.is ∙ ap Some c.in-Ok.is) in
    omega (arith, k.child_below, k.ground.long)

pub last_in-newest-requires : goal.last_in-newest-requires
last_in-newest-requires c =
    omega (arith, c.page_at-page.ensures.size, spot-room c.loop-step.invariant c.next.ensures c.in-Ok.leaf (c.in-Some.is ∙ ap Some c.in-Ok.is))

pub loop-step-smaller : goal.loop-step-smaller
loop-step-smaller c = turns_less c.loop-step.invariant c.next.ensures c.in-Ok.leaf (c.in-Some.is ∙ ap Some c.in-Ok.is)

pub loop-step-preserved : goal.loop-step-preserved
loop-step-preserved c = goes-next c.loop-step.invariant c.next.ensures c.in-Ok.leaf (c.in-Some.is ∙ ap Some c.in-Ok.is) (rw c.page_at-page.ensures.bytes at c.last_in-newest.ensures)

pub returns : goal.returns
returns c = ends c.loop-step.invariant c.next.ensures c.in_default.is
