-- `leaves::next`: at each turn the rules' descent from the place at hand is what is left to do, and to report.
-- Assumes nothing.
use Prim.Native.Nat.{◌-◌}
use mathlib.Core.Path.{sym, ap, ◌∙◌}
use Rattle.rules.proofs.Bytes.PageZero.{has-zero}
use Rattle.enter.specs.Entering.{entering}
use Rattle.climbs.specs.Ground.{Ground}
use Rattle.way.proofs.Ending.{goes_on}
use Rattle.leaves.proofs.Climbing.{begins-lies, held-lies, held-leads, begins, runs_out, damaged, leaf_room_lem, leaf-rise, ends, leads}
use native.Mathlib.Omega.{arith}
use Rattle.leaves.proofs.next.Goals as goal

pub holding-above-requires : goal.holding-above-requires
holding-above-requires c =
    let args = c.args in
    let pre = c.requires in
    let ground : Ground args.n args.c args.t.now = record { long = pre.0; bytes = c.slice_known-1.given; fit = pre.1; counter = omega (arith, c.ranges.c) } in
    begins-lies ground args.cursor pre.2

pub place-e-requires : goal.place-e-requires
place-e-requires c =
    let args = c.args in
    let pre = c.requires in
    let holding = c.holding-above in
    let ground : Ground args.n args.c args.t.now = record { long = pre.0; bytes = c.slice_known-1.given; fit = pre.1; counter = omega (arith, c.ranges.c) } in
    (has-zero args.n args.t.now pre.0 pre.1, held-lies ground (omega (arith, c.ranges.key)) args.cursor pre.2 holding.result holding.ensures, held-leads ground (omega (arith, c.ranges.key)) args.cursor pre.2 holding.result holding.ensures)

pub loop-init : goal.loop-init
loop-init c =
    let args = c.args in
    let pre = c.requires in
    let holding = c.holding-above in
    let place = c.place-e in
    let levels = c.levels-end in
    let ground : Ground args.n args.c args.t.now = record { long = pre.0; bytes = c.slice_known-1.given; fit = pre.1; counter = omega (arith, c.ranges.c) } in
    (levels.result, omega arith, begins ground (omega (arith, c.ranges.key)) args.cursor pre.2 holding.result holding.ensures args.report place.result levels.result place.ensures levels.ensures)

pub look_ahead-guess-requires : goal.look_ahead-guess-requires
look_ahead-guess-requires c =
    let ready = c.loop.invariant.2.descent.ready in
    omega (arith, ready.long, ready.child_below)

pub enter-requires : goal.enter-requires
enter-requires c =
    let ready = c.loop.invariant.2.descent.ready in
    (ready.long, ready.child_below)

pub shape_of-t-in_default : goal.shape_of-t-in_default
shape_of-t-in_default c = omega (arith, c.enter.auto.t, c.loop.invariant.2.descent.ready.long, c.requires.0)

pub returns-in_default : goal.returns-in_default
returns-in_default c =
    let loop = c.loop in
    let enter = c.enter in
    damaged loop.invariant.2 (omega (arith, c.loop-test.true, loop.invariant.1)) c.args.upto enter.new.t (ap (entering enter.new.t) (sym c.in_default.is) ∙ enter.ensures)

pub spot_at-spot-requires : goal.spot_at-spot-requires
spot_at-spot-requires c =
    let loop = c.loop in
    let enter = c.enter in
    let ready = loop.invariant.2.descent.ready in
    let q = c.if-page-eq-LEAF.true in
    let f = ap (entering enter.new.t) (sym c.in-Some.is) ∙ enter.ensures in
    (omega (arith, enter.auto.t, ready.long, ready.child_below), leaf_room_lem loop.invariant.2 (omega (arith, c.loop-test.true, loop.invariant.1)) enter.new.t c.in-Some.entered.head c.in-Some.entered.reason f q, leaf-rise loop.invariant.2 (omega (arith, c.loop-test.true, loop.invariant.1)) enter.new.t c.in-Some.entered.head c.in-Some.entered.reason f q)

pub shape_of-t-then-page-eq-LEAF : goal.shape_of-t-then-page-eq-LEAF
shape_of-t-then-page-eq-LEAF c = omega (arith, c.enter.auto.t, c.loop.invariant.2.descent.ready.long, c.requires.0)

pub returns-then-page-eq-LEAF : goal.returns-then-page-eq-LEAF
returns-then-page-eq-LEAF c =
    let loop = c.loop in
    let enter = c.enter in
    let f = ap (entering enter.new.t) (sym c.in-Some.is) ∙ enter.ensures in
    ends loop.invariant.2 (omega (arith, c.loop-test.true, loop.invariant.1)) enter.new.t c.in-Some.entered.head c.in-Some.entered.reason f c.if-page-eq-LEAF.true c.add-report.result c.add-report.ensures c.args.upto c.spot_at-spot.result c.spot_at-spot.ensures

pub place_below-e-requires : goal.place_below-e-requires
place_below-e-requires c =
    let loop = c.loop in
    let enter = c.enter in
    let ready = loop.invariant.2.descent.ready in
    let f = ap (entering enter.new.t) (sym c.in-Some.is) ∙ enter.ensures in
    (omega (arith, enter.auto.t, ready.long, ready.child_below), leads loop.invariant.2 (omega (arith, c.loop-test.true, loop.invariant.1)) enter.new.t c.in-Some.entered.head c.in-Some.entered.reason f c.if-page-eq-LEAF.false)

pub loop-preserved : goal.loop-preserved
loop-preserved c =
    let loop = c.loop in
    let enter = c.enter in
    let f = ap (entering enter.new.t) (sym c.in-Some.is) ∙ enter.ensures in
    (loop.invariant.0 - 1, omega (arith, c.loop-test.true, loop.invariant.1), goes_on loop.invariant.2 (omega (arith, c.loop-test.true, loop.invariant.1)) enter.new.t c.in-Some.entered.head c.in-Some.entered.reason f c.add-report.result c.add-report.ensures c.if-page-eq-LEAF.false c.place_below-e.result c.place_below-e.ensures)

pub shape_of-t : goal.shape_of-t
shape_of-t c = omega (arith, c.loop.invariant.2.descent.ready.long, c.requires.0)

pub returns : goal.returns
returns c = runs_out c.loop.invariant.2 c.args.upto (omega (arith, c.loop-test.false, c.loop.invariant.1))
