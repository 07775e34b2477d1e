-- `insert::decided`: what the plan answers.
-- Assumes nothing.
use native.Mathlib.Omega.{arith}
use Rattle.insert.proofs.Along.{leaf-within, leaf-head, leaf-holds, planning, decided_planned}
use Rattle.insert.proofs.decided.Goals as goal

pub bounds-way-0 : goal.bounds-way-0
bounds-way-0 c = omega (arith, c.requires.walked.some_page)

pub is_present-present-requires : goal.is_present-present-requires
is_present-present-requires c =
    let W = c.requires.walked in
    (leaf-within W, leaf-head W, leaf-holds W)

pub plan-requires : goal.plan-requires
plan-requires c = planning c.requires.walked c.requires.counter c.requires.chosen

pub returns : goal.returns
returns c =
    λ d. decided_planned d.walked c.is_present-present.result c.is_present-present.ensures c.plan.result (c.plan.ensures (planning d.walked d.counter d.chosen))
