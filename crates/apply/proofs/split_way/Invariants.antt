-- `apply::split_way`: at each turn what is left to be halved makes of the table at hand what it made of the first one.
-- Assumes nothing.
use Prim.Native.Nat.{◌≤◌}
use mathlib.Core.Path.{◌≡◌}
use lib.ListN.{length}
use Rattle.rules.specs.Insert.{making}
use Rattle.rules.specs.declared.Session.{Session}
use Rattle.apply.proofs.Down.{Asks}
use Rattle.apply.proofs.Marks.{Turned}
use Rattle.apply.proofs.split_way.Given as goal

abbrev pub invariant-loop-i : goal.invariant-loop-i
invariant-loop-i l = (l.i ≤ l.many) × ((s : Session) → Asks l.c l.key l.way l.pages l.many (making l.initial.table s l.initial.at) → Turned l.c l.key l.way l.pages l.many (making l.initial.table s l.initial.at) l.i l.table l.at) × (length l.table ≡ length l.initial.table)
