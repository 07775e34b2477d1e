-- `exchange::items_judged`: before each turn the judgement is that of the items left.
-- Assumes nothing.
use Prim.Native.Nat.{◌-◌, ◌≤◌}
use mathlib.Core.Path.{◌≡◌}
use lib.ListN.{length}
use Rattle.exchange.specs.Judged.{items_judged}
use Rattle.exchange.proofs.items_judged.Given as goal

abbrev pub invariant-loop : goal.invariant-loop
invariant-loop l = (l.at ≤ length l.f) × (items_judged l.s l.f l.over l.count l.from l.begun 0 ≡ items_judged l.s l.f l.over (l.count - l.counter) l.at l.used l.last)
