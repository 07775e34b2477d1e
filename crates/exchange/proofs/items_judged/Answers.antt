-- `exchange::items_judged`: before each turn the judgement is that of the items left.
-- Assumes nothing.
use Prim.Native.Nat.{◌+◌, ◌-◌}
use mathlib.Core.Path.{◌≡◌, sym, ◌∙◌}
use Rattle.exchange.proofs.Steps.{followed, items-end, items-bare, items-cut, items_bad, items_on}
use native.Mathlib.Omega.{arith}
use Rattle.exchange.proofs.items_judged.Goals as goal

pub returns-then-f-at : goal.returns-then-f-at
returns-then-f-at c =
    let a = c.args in
    let l = c.loop in
    sym
    (l.invariant.1
    ∙ items-cut a.s a.f.now a.over _ l.at l.used l.last
    (omega (arith, c.loop-test.true))
    (omega (arith, c.if-f-at.true, c.size-width.ensures, l.invariant.0)))

pub returns-then-not-follows : goal.returns-then-not-follows
returns-then-not-follows c =
    let a = c.args in
    let l = c.loop in
    let i = c.rank_at-item in
    sym
    (l.invariant.1
    ∙ items_bad a.s a.f.now a.over _ l.at l.used l.last
    c.size-width.result i.result.place i.result.number
    c.size-width.ensures i.ensures.place i.ensures.number
    (omega (arith, c.if-f-at.false, l.invariant.0))
    (omega (arith, c.loop-test.true))
    (sym c.follows.ensures ∙ c.if-not-follows.true))

pub overflow_add-used : goal.overflow_add-used
overflow_add-used c =
    let a = c.args in
    let l = c.loop in
    let i = c.rank_at-item.result in
    omega (
      arith,
      (followed a.over l.used l.last i.place i.number (sym c.follows.ensures ∙ c.if-not-follows.false)).inside,
      c.ranges.over,
    )

pub loop-preserved : goal.loop-preserved
loop-preserved c =
    let a = c.args in
    let l = c.loop in
    let i = c.rank_at-item in
    let left : a.count - (l.counter + 1) ≡ a.count - l.counter - 1 = omega arith in (
      omega (arith, c.if-f-at.false, l.invariant.0),
      l.invariant.1 ∙ items_on a.s a.f.now a.over _ l.at l.used l.last c.size-width.result i.result.place i.result.number c.size-width.ensures i.ensures.place i.ensures.number (omega (arith, c.if-f-at.false, l.invariant.0)) (omega (arith, c.loop-test.true)) (sym c.follows.ensures ∙ c.if-not-follows.false) ∙ rw left,
    )

pub returns-then-used-over : goal.returns-then-used-over
returns-then-used-over c =
    let a = c.args in
    let l = c.loop in
    sym
    (l.invariant.1
    ∙ items-bare a.s a.f.now a.over _ l.at l.used l.last
    (omega (arith, c.loop-test.false)) c.if-used-over.true)

pub returns : goal.returns
returns c =
    let a = c.args in
    let l = c.loop in
    sym
    (l.invariant.1
    ∙ items-end a.s a.f.now a.over _ l.at l.used l.last
    (omega (arith, c.loop-test.false)) c.if-used-over.false)
