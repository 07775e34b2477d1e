-- `dry::in_reach`: both ends of a range. Assumes nothing.
use Rattle.dry.proofs.Meets.{reach_behind, reach_last}
use native.Mathlib.Omega.{arith}
use Rattle.dry.proofs.in_reach.Goals as goal

pub returns-then-e-a : goal.returns-then-e-a
returns-then-e-a c =
    let args = c.args in
    reach_behind args.a args.e (omega (arith, c.if-e-a.true))

pub returns : goal.returns
returns c =
    let args = c.args in
    reach_last args.a args.e (omega (arith, c.if-e-a.false))
