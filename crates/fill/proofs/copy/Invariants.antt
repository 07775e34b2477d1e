-- `fill::copy`: so far each list is as it came, with the first j certificates pasted in behind those found.
-- Assumes nothing.
use Prim.Native.Nat.{◌≤◌}
use mathlib.Core.Path.{◌≡◌}
use lib.ListN.{length}
use lib.Seq.{paste}
use Rattle.rules.specs.Entry as entry
use Rattle.rules.specs.List.{records_of}
use Rattle.fill.specs.Fills.{certs_from}
use Rattle.fill.proofs.copy.Given as goal

abbrev pub invariant-loop-j : goal.invariant-loop-j
invariant-loop-j l = (l.j ≤ l.many) × (length l.keys ≡ length l.initial.keys) × (length l.records ≡ length l.initial.records) × (l.keys ≡ paste l.initial.keys l.filled (entry.keys (certs_from l.page l.first l.many)) l.j) × (l.records ≡ paste l.initial.records l.filled (records_of (certs_from l.page l.first l.many)) l.j)
