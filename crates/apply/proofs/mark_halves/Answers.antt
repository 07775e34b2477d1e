-- `apply::mark_halves`: at each turn the marks that are left make of the session at hand what they made of the first one.
-- Assumes nothing.
use Prim.Native.Nat.{◌-◌}
use mathlib.Core.Path.{refl, sym, ap, ◌∙◌}
use Rattle.apply.specs.Leads.{step_on, marks_for}
use Rattle.apply.proofs.Marks.{marks-turn, marks-none}
use native.Mathlib.Omega.{arith}
use Rattle.apply.proofs.mark_halves.Goals as goal

pub loop-i-init : goal.loop-i-init
loop-i-init c = (omega arith, refl)

pub bounds-way-i : goal.bounds-way-i
bounds-way-i c = omega (arith, c.loop-i.invariant.0, c.loop-i-test.true, c.requires.short)

pub twins-requires : goal.twins-requires
twins-requires c = (
  omega (arith, c.loop-i.invariant.0, c.loop-i-test.true, c.requires.short, c.requires.len),
  omega (arith, c.loop-i.invariant.0, c.loop-i-test.true, c.requires.enough),
)

pub mark-left-requires : goal.mark-left-requires
mark-left-requires c =
    let pre = c.requires in
    let i = c.loop-i.i in
    rw c.twins.ensures (
      pre.child (i - 1) (omega (arith, c.loop-i.invariant.0, c.loop-i-test.true)),
      pre.lower (i - 1) (omega (arith, c.loop-i.invariant.0, c.loop-i-test.true)),
      pre.upper (i - 1) (omega (arith, c.loop-i.invariant.0, c.loop-i-test.true)),
    )

pub loop-i-preserved : goal.loop-i-preserved
loop-i-preserved c =
    let args = c.args in
    let way = args.way.now in
    let pages = args.pages.now in
    let loop = c.loop-i in (
      omega (arith, loop.invariant.0),
      ap (marks_for args.session.c way pages (loop.i - 1)) (rw c.twins.ensures at c.mark-left.ensures)
          ∙ (marks-turn args.session.c way pages loop.i c.loop-i-test.true (step_on way (loop.i - 1)) refl loop.left ∙ loop.invariant.1),
    )

pub returns : goal.returns
returns c =
    let loop = c.loop-i in
    sym (marks-none c.args.session.c c.args.way.now c.args.pages.now loop.i loop.left (omega (arith, c.loop-i-test.false))) ∙ loop.invariant.1
