-- `fill::mend`: at each turn there is room. Assumes nothing.
use Prim.Native.Nat.{ℕ}
use Rattle.std.specs.Prelude.{Some}
use Rattle.leaves.proofs.Walks.{no_leaf}
use mathlib.Core.Path.{◌≡◌, refl, ap, ◌∙◌}
use Rattle.fill.proofs.Fills.{mending-begins, mending-done, mending-stops, mending_on, mending_less}
use native.Mathlib.Omega.{arith}
use Rattle.fill.proofs.mend.Goals as goal
use Rattle.fill.proofs.mend.Goals.{in_default, in_default-2}

pub loop-init : goal.loop-init
loop-init c =
    let pre = c.requires in
    (refl, mending-begins (record { long = pre.0; bytes = c.slice_known-1.given; fit = pre.1; counter = omega (arith, c.ranges.c) }) pre.2 pre.3 c.over-walk.result c.over-walk.ensures)

pub next-requires : goal.next-requires
next-requires c =
    let y = c.loop.invariant.1.walking in
    (omega (arith, c.loop.invariant.0, c.requires.0), y.ground.fit, y.kept)

pub loop-smaller : goal.loop-smaller
loop-smaller c = mending_less c.loop.invariant.1 c.requires.4 c.in-Some-Ok.ensures _ (ap Some c.in-Some-Ok.field-0-is)

pub loop-preserved : goal.loop-preserved
loop-preserved c = (omega (arith, c.next.auto.t, c.loop.invariant.0), mending_on c.loop.invariant.1 c.requires.4 c.in-Some-Ok.ensures _ (ap Some c.in-Some-Ok.field-0-is))

pub returns : goal.returns
returns c =
    elim c.match-next.branch [
      | in_default w ↦ let d = no_leaf w.in_default.field-0 (λ l q. let z : ◌≡◌ {A = ℕ} 0 1 = cc in absurd (omega arith)) in mending-stops c.loop.invariant.1 c.requires.4 c.next.ensures d.0 (w.in_default.is ∙ ap Some d.1)
      | in_default-2 w ↦ mending-done c.loop.invariant.1 c.requires.4 c.next.ensures w.in_default.is
    ]
