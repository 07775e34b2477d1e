-- `plan::entered`: the numbers of the steps passed.
use mathlib.Core.Path.{sym, ap, ◌∙◌}
use native.Mathlib.Omega.{arith}
use native.Mathlib.Numerals.{add-one}
use lib.ListN.{length, take}
use lib.Seq.{take-suc, take_all, length-take-le}
use Rattle.way.specs.Ways.{no_step}
use Rattle.plan.specs.Plan.{numbers_of}
use Rattle.plan.proofs.Heads.{length-numbers, numbers-append}
use Rattle.plan.proofs.entered.Goals as goal

pub push-requires : goal.push-requires
push-requires c =
    let way = c.args.way.now in
    let i = c.loop-step.step-index in
    (omega arith, omega (arith, ap length c.loop-step.invariant, length-numbers (take i way), length-take-le i way (omega (arith, c.loop-step-test.true)), c.loop-step-test.true, c.requires))

pub loop-step-preserved : goal.loop-step-preserved
loop-step-preserved c =
    let way = c.args.way.now in
    let i = c.loop-step.step-index in
    rw (c.push.ensures, c.loop-step.invariant, add-one i, take-suc way i no_step c.loop-step-test.true)
    (sym (numbers-append (take i way) _))

pub returns : goal.returns
returns c =
    c.loop-step.invariant ∙ ap numbers_of (take_all c.loop-step.step-index c.args.way.now (omega (arith, c.loop-step-test.false)))
