-- `way::leaf_of`: beside the loop runs the whole way, of which it keeps the end.
-- Assumes nothing.
use Rattle.enter.specs.Entering.{entering}
use mathlib.Core.Path.{sym, ap, ◌∙◌}
use Rattle.rules.specs.Report.{nothing}
use Rattle.rules.proofs.Bytes.PageZero.{has-zero}
use Rattle.rules.specs.Page.{page_in}
use Rattle.rules.specs.Table.{page_at, read}
use Rattle.way.specs.Ways.{spot_at}
use Rattle.way.proofs.Leaf.{holds-room, holds-keys}
use Rattle.way.proofs.Descent.{head-here, holds, leads}
use Rattle.way.proofs.Ending.{begins, runs_out, damaged, ends, goes_on}
use native.Mathlib.Omega.{arith}
use Rattle.way.proofs.leaf_of.Goals as goal

pub root_place-e-requires : goal.root_place-e-requires
root_place-e-requires c =
    let args = c.args in
    let pre = c.requires in
    has-zero args.n args.t.now pre.0 pre.1

pub loop-level-init : goal.loop-level-init
loop-level-init c =
    let args = c.args in
    let fits = c.ranges in
    let pre = c.requires in
    let root-place = c.root_place-e in
    begins args.n args.c args.key args.t.now root-place.result nothing c.nothing-report.result pre.0 pre.1
    c.slice_known-1.given root-place.ensures c.nothing-report.ensures (omega (arith, fits.c)) (omega (arith, fits.key))

pub look_ahead-guess-requires : goal.look_ahead-guess-requires
look_ahead-guess-requires c =
    let loop = c.loop-level in
    omega (arith, loop.invariant.descent.ready.long, loop.invariant.descent.ready.child_below)

pub enter-requires : goal.enter-requires
enter-requires c =
    let loop = c.loop-level in
    (loop.invariant.descent.ready.long, loop.invariant.descent.ready.child_below)

pub shape_of-t-in_default : goal.shape_of-t-in_default
shape_of-t-in_default c =
    let pre = c.requires in
    let loop = c.loop-level in
    let enter = c.enter in
    omega (arith, enter.auto.t, loop.invariant.descent.ready.long, pre.0)

pub returns-in_default : goal.returns-in_default
returns-in_default c =
    let loop = c.loop-level in
    let loop-test = c.loop-level-test in
    let enter = c.enter in
    damaged loop.invariant loop-test.true enter.new.t
    (ap (entering enter.new.t) (sym c.in_default.is) ∙ enter.ensures)

pub overflow_sub-len : goal.overflow_sub-len
overflow_sub-len c =
    let loop = c.loop-level in
    omega (arith, loop.invariant.descent.deep)

pub spot_at-spot-requires : goal.spot_at-spot-requires
unfolding read page_in
spot_at-spot-requires c =
    let loop = c.loop-level in
    let loop-test = c.loop-level-test in
    let enter = c.enter in
    let page = c.in-Some.entered.head in
    let f = ap (entering enter.new.t) (sym c.in-Some.is) ∙ enter.ensures in
    let b = page_at enter.new.t loop.e.child in
    let h = head-here loop.invariant.descent loop-test.true loop.above loop.invariant.above enter.new.t page c.in-Some.entered.reason f in
    let l = holds loop.invariant.descent loop-test.true loop.above loop.invariant.above enter.new.t page c.in-Some.entered.reason f c.if-page-eq-LEAF.true in
    (omega (arith, enter.auto.t, loop.invariant.descent.ready.long, loop.invariant.descent.ready.child_below), holds-room b page h l, holds-keys b page h l)

pub shape_of-t-then-page-eq-LEAF : goal.shape_of-t-then-page-eq-LEAF
shape_of-t-then-page-eq-LEAF c =
    let pre = c.requires in
    let loop = c.loop-level in
    let enter = c.enter in
    omega (arith, enter.auto.t, loop.invariant.descent.ready.long, pre.0)

pub returns-then-page-eq-LEAF : goal.returns-then-page-eq-LEAF
unfolding spot_at
returns-then-page-eq-LEAF c =
    let loop = c.loop-level in
    let loop-test = c.loop-level-test in
    let enter = c.enter in
    let spot-at = c.spot_at-spot in
    ends loop.invariant loop-test.true enter.new.t c.in-Some.entered.head c.in-Some.entered.reason
    (ap (entering enter.new.t) (sym c.in-Some.is) ∙ enter.ensures) c.add-report.result
    c.add-report.ensures c.if-page-eq-LEAF.true _ (omega (arith, loop-test.true, loop.invariant.descent.deep))
    spot-at.result spot-at.ensures

pub place_below-e-requires : goal.place_below-e-requires
place_below-e-requires c =
    let loop = c.loop-level in
    let loop-test = c.loop-level-test in
    let enter = c.enter in
    let f = ap (entering enter.new.t) (sym c.in-Some.is) ∙ enter.ensures in (
      omega (arith, enter.auto.t, loop.invariant.descent.ready.long, loop.invariant.descent.ready.child_below),
      leads loop.invariant.descent loop-test.true loop.above loop.invariant.above enter.new.t
          c.in-Some.entered.head c.in-Some.entered.reason f c.if-page-eq-LEAF.false,
    )

pub loop-level-smaller : goal.loop-level-smaller
loop-level-smaller c =
    let loop-test = c.loop-level-test in
    omega (arith, loop-test.true)

pub loop-level-preserved : goal.loop-level-preserved
loop-level-preserved c =
    let loop = c.loop-level in
    let loop-test = c.loop-level-test in
    let enter = c.enter in
    let place-below = c.place_below-e in
    let f = ap (entering enter.new.t) (sym c.in-Some.is) ∙ enter.ensures in
    goes_on loop.invariant loop-test.true enter.new.t c.in-Some.entered.head c.in-Some.entered.reason f
    c.add-report.result c.add-report.ensures c.if-page-eq-LEAF.false
    place-below.result place-below.ensures

pub shape_of-t : goal.shape_of-t
shape_of-t c =
    let pre = c.requires in
    omega (arith, c.loop-level.invariant.descent.ready.long, pre.0)

pub returns : goal.returns
returns c =
    let loop = c.loop-level in
    runs_out loop.invariant (omega (arith, c.loop-level-test.false))
