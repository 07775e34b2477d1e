-- `plan::entered`: the numbers of the steps passed.
use mathlib.Core.Path.{◌≡◌}
use lib.ListN.{take}
use Rattle.plan.specs.Plan.{numbers_of}
use Rattle.plan.proofs.entered.Given as goal

abbrev pub invariant-loop-step : goal.invariant-loop-step
invariant-loop-step l = l.numbers ≡ numbers_of (take l.step-index l.way)
