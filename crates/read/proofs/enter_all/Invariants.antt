-- `read::enter_all`: at each turn the certificates left make, of what stands, what all of them make. Assumes nothing.
use Prim.Native.Nat.{◌≤◌}
use mathlib.Core.Path.{◌≡◌}
use lib.ListN.{length, drop}
use Rattle.exchange.specs.Told.{certs_in}
use Rattle.exchange.specs.ReadFile.{as_items}
use Rattle.read.specs.Readings.{running, goes}
use Rattle.read.proofs.enter_all.Given as goal

abbrev pub invariant-loop-place : goal.invariant-loop-place
invariant-loop-place l = (l.made.done ≤ l.place) × (length l.working ≡ length l.initial.working) × (goes l.stable (running l.made l.working) (drop l.place (as_items (certs_in l.file))) ≡ goes l.stable (running l.initial.made l.initial.working) (as_items (certs_in l.file)))
