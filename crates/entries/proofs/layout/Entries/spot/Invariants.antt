-- `Entries::spot`: the spot is as many entries as are passed, and the spot among the rest.
-- Assumes nothing.
use Prim.Native.Nat.{◌+◌}
use mathlib.Core.Path.{◌≡◌}
use lib.ListN.{drop}
use Rattle.entries.specs.Spot.{spot_of}
use Rattle.entries.specs.Layout.{keys_on}
use Rattle.entries.proofs.layout.Entries.spot.Given as goal

abbrev pub invariant-loop-j : goal.invariant-loop-j
invariant-loop-j l = spot_of l.key (keys_on l.self l.page) ≡ l.j + spot_of l.key (drop l.j (keys_on l.self l.page))
