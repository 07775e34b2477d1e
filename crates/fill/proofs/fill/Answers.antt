-- `fill::fill`: at each turn, what stands in the lists and what is left of the walk come to what the rules fill in.
-- Assumes nothing.
use Prim.Native.Nat.{ℕ}
use Rattle.std.specs.Prelude.{Some}
use Rattle.leaves.proofs.Walks.{no_leaf}
use mathlib.Core.Path.{◌≡◌, refl, ap, ◌∙◌}
use Rattle.fill.proofs.Copies.{roomy-kept}
use Rattle.fill.proofs.Fills.{writing_begins, writing-full, writing-done, writing-damaged, writing-reached, writing-on, writing_less, reached-inside, reached-count, reached-rises, roomy-from}
use native.Mathlib.Omega.{arith}
use Rattle.fill.proofs.fill.Goals as goal
use Rattle.fill.proofs.fill.Goals.{else-loop-filled-test, then-loop-filled-test+in_default, then-loop-filled-test+in_default-2}

pub loop-filled-init : goal.loop-filled-init
loop-filled-init c =
    let pre = c.requires in
    (refl, refl, refl, writing_begins (record { long = pre.0; bytes = c.slice_known-1.given; fit = pre.1; counter = omega (arith, c.ranges.c) }) pre.2 pre.3 pre.4 c.over-walk.result c.over-walk.ensures)

pub next-requires : goal.next-requires
next-requires c =
    let y = c.loop-filled.invariant.3.walking in
    (omega (arith, c.loop-filled.invariant.0, c.requires.0), y.ground.fit, y.kept)

pub fill_leaf_at-filled-requires : goal.fill_leaf_at-filled-requires
fill_leaf_at-filled-requires c =
    let y = c.loop-filled.invariant.3 in
    let r = writing-reached y c.in-Some-Ok.ensures c.loop-filled-test.true c.in-Some-Ok.leaf (ap Some c.in-Some-Ok.field-0-is) in
    (reached-inside r, reached-count r, reached-rises r, omega (arith, c.loop-filled-test.true), roomy-from y.roomy)

pub loop-filled-smaller : goal.loop-filled-smaller
loop-filled-smaller c = writing_less c.loop-filled.invariant.3 c.in-Some-Ok.ensures c.loop-filled-test.true c.in-Some-Ok.leaf (ap Some c.in-Some-Ok.field-0-is)

pub loop-filled-preserved : goal.loop-filled-preserved
loop-filled-preserved c =
    let y = c.loop-filled.invariant in
    let filled = c.fill_leaf_at-filled in
    (omega (arith, c.next.auto.t, y.0), omega (arith, filled.auto.keys, y.1), omega (arith, filled.auto.records, y.2), writing-on y.3 c.in-Some-Ok.ensures c.loop-filled-test.true c.in-Some-Ok.leaf (ap Some c.in-Some-Ok.field-0-is) filled.result filled.new.keys filled.new.records filled.ensures (roomy-kept y.3.roomy filled.auto.keys filled.auto.records))

pub returns : goal.returns
returns c =
    elim c.loop-filled-test.branch [
      | else-loop-filled-test w ↦ rw (w.t-is, w.walk-is) (writing-full c.loop-filled.invariant.3 (omega (arith, w.loop-filled-test.false)))
      | then-loop-filled-test+in_default w ↦ let d = no_leaf w.in_default.field-0 (λ l q. let z : ◌≡◌ {A = ℕ} 0 1 = cc in absurd (omega arith)) in absurd (writing-damaged c.loop-filled.invariant.3 w.next.ensures w.loop-filled-test.true c.requires.5 d.0 (w.in_default.is ∙ ap Some d.1))
      | then-loop-filled-test+in_default-2 w ↦ rw (w.t-is, w.walk-is) (writing-done c.loop-filled.invariant.3 w.next.ensures w.in_default.is)
    ]
