-- `way::way_of`: at each turn the rules' descent from the place at hand is what is left to do.
-- Assumes nothing.
use Prim.Native.Nat.{◌-◌}
use Rattle.rules.specs.Report.{nothing}
use Rattle.way.proofs.Descent.{Descent}
use Rattle.way.proofs.way_of.Given as goal

abbrev pub invariant-loop : goal.invariant-loop
invariant-loop l = Descent l.n l.c l.key l.initial.t l.t l.way l.e (3 - l.counter) nothing l.report
