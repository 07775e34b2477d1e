-- `way::way_of`: at each turn the rules' descent from the place at hand is what is left to do.
-- Assumes nothing.
use Rattle.enter.specs.Entering.{entering}
use Prim.Native.Nat.{◌+◌, ◌-◌}
use mathlib.Core.Path.{◌≡◌, sym, ap, ◌∙◌}
use mathlib.Core.List.{List}
use Rattle.std.specs.Prelude.{Some}
use Rattle.way.specs.Ways.{above_in, went}
use Rattle.way.specs.declared.Step.{Step}
use native.Mathlib.Omega.{arith}
use Rattle.rules.specs.Report.{nothing}
use Rattle.rules.proofs.Bytes.PageZero.{has-zero}
use Rattle.way.proofs.Descent.{way-long, begins, runs_out-reported, damaged-reported, ends-reported, leads, goes_on}
use Rattle.way.proofs.way_of.Goals as goal

pub root_place-e-requires : goal.root_place-e-requires
root_place-e-requires c = has-zero c.args.n c.args.t.now c.requires.0 c.requires.1

pub loop-init : goal.loop-init
loop-init c =
    let args = c.args in
    begins args.n args.c args.key args.t.now c.root_place-e.result c.new-way.result nothing c.nothing-report.result c.requires.0 c.requires.1
    c.slice_known-1.given c.root_place-e.ensures c.new-way.ensures c.nothing-report.ensures (omega (arith, c.ranges.c))
    (omega (arith, c.ranges.key))

pub look_ahead-guess-requires : goal.look_ahead-guess-requires
look_ahead-guess-requires c = omega (arith, c.loop.invariant.ready.long, c.loop.invariant.ready.child_below)

pub enter-requires : goal.enter-requires
enter-requires c = (c.loop.invariant.ready.long, c.loop.invariant.ready.child_below)

pub shape_of-t-in_default : goal.shape_of-t-in_default
shape_of-t-in_default c = omega (arith, c.enter.auto.t, c.loop.invariant.ready.long, c.requires.0)

pub returns-in_default : goal.returns-in_default
returns-in_default c =
    damaged-reported c.loop.invariant (omega (arith, c.loop-test.true)) c.above-above.result
    (c.above-above.ensures ∙ ap above_in c.as_slice.ensures.items) c.enter.new.t (ap (entering c.enter.new.t) (sym c.in_default.is) ∙ c.enter.ensures)

pub push_front-requires : goal.push_front-requires
push_front-requires c = omega (arith, way-long c.loop.invariant, c.loop-test.true)

pub shape_of-t-then-head-eq-LEAF : goal.shape_of-t-then-head-eq-LEAF
shape_of-t-then-head-eq-LEAF c = omega (arith, c.enter.auto.t, c.loop.invariant.ready.long, c.requires.0)

pub returns-then-head-eq-LEAF : goal.returns-then-head-eq-LEAF
returns-then-head-eq-LEAF c =
    ap (λ (w : List Step). went c.enter.new.t (record { way = Some w; report = c.add-report.result })) c.push_front.ensures
    ∙ ends-reported c.loop.invariant (omega (arith, c.loop-test.true)) c.above-above.result
    (c.above-above.ensures ∙ ap above_in c.as_slice.ensures.items) c.enter.new.t c.in-Some.entered.head c.in-Some.entered.reason
    (ap (entering c.enter.new.t) (sym c.in-Some.is) ∙ c.enter.ensures) c.if-head-eq-LEAF.true c.add-report.result c.add-report.ensures

pub place_below-e-requires : goal.place_below-e-requires
place_below-e-requires c =
    let f = ap (entering c.enter.new.t) (sym c.in-Some.is) ∙ c.enter.ensures in (
      omega (arith, c.enter.auto.t, c.loop.invariant.ready.long, c.loop.invariant.ready.child_below),
      leads c.loop.invariant (omega (arith, c.loop-test.true)) c.above-above.result
          (c.above-above.ensures ∙ ap above_in c.as_slice.ensures.items) c.enter.new.t c.in-Some.entered.head c.in-Some.entered.reason f
          c.if-head-eq-LEAF.false,
    )

pub loop-preserved : goal.loop-preserved
loop-preserved c =
    let f = ap (entering c.enter.new.t) (sym c.in-Some.is) ∙ c.enter.ensures in
    let one : (3 - c.loop.counter) - 1 ≡ 3 - (c.loop.counter + 1) = omega arith in
    rw (c.push_front.ensures, ← one)
    (goes_on c.loop.invariant (omega (arith, c.loop-test.true)) c.above-above.result
    (c.above-above.ensures ∙ ap above_in c.as_slice.ensures.items) c.enter.new.t c.in-Some.entered.head c.in-Some.entered.reason f
    c.if-head-eq-LEAF.false c.place_below-e.result c.place_below-e.ensures c.add-report.result c.add-report.ensures)

pub shape_of-t : goal.shape_of-t
shape_of-t c = omega (arith, c.loop.invariant.ready.long, c.requires.0)

pub returns : goal.returns
returns c = runs_out-reported c.loop.invariant (omega (arith, c.loop-test.false))
