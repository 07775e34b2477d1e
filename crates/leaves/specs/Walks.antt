-- A walk over the leaves of a range, step by step, as the code hands it on.
use Rattle.std.specs.Prelude.{ℕ, ◌+◌, ◌-◌, true, false, List, ltb, Option, Some, None, Result, Ok, Err}
use Rattle.rules.specs.Report.{nothing}
use Rattle.rules.specs.Walk as rules
use Rattle.rules.specs.declared.Report.{Report}
use Rattle.leaves.specs.Cursors.{no_cursor, Nexting, next_of}
use Rattle.leaves.specs.declared.Leaf.{Leaf}
use Rattle.leaves.specs.declared.Leaves.{Leaves}

-- before the first step
abbrev pub walk_over : ℕ → ℕ → Leaves
walk_over low high = record { key = Some low; high = high; cursor = no_cursor; report = nothing }

-- what a step leaves and answers
pub record Stepping : Type 0 where
  pub table : List ℕ
  pub step : Option (Result Leaf Report)
  pub walk : Leaves

abbrev pub stepping : List ℕ → Option (Result Leaf Report) → Leaves → Stepping
stepping t r w = record { table = t; step = r; walk = w }

-- the key behind a leaf, while the range goes on there
unfoldable pub key_behind : ℕ → ℕ → Option ℕ
key_behind end high = elim (ltb end high) [ true ↦ Some (end + 1) | false ↦ None ]

-- damage ends the walk
unfoldable pub walk_behind : Leaves → Result Leaf Report → Leaves
walk_behind w (Ok l) = record { key = key_behind l.high w.high; high = w.high; cursor = l.behind; report = l.report }
walk_behind w (Err x) = record { key = None; high = w.high; cursor = w.cursor; report = x }

abbrev pub stepped : Leaves → Nexting → Stepping
stepped w x = stepping x.table (Some x.next) (walk_behind w x.next)

-- to the leaf of the key at which the walk goes on
unfoldable pub step_from : ℕ → ℕ → List ℕ → Leaves → Option ℕ → Stepping
step_from n c t w None = stepping t None w
step_from n c t w (Some k) = stepped w (next_of k w.high (rules.way_of n c k t) (rules.way_report n c k t w.report))

unfoldable pub step_of : ℕ → ℕ → List ℕ → Leaves → Stepping
step_of n c t w = step_from n c t w w.key

-- how many keys of the range are left
unfoldable pub keys_from : Option ℕ → ℕ → ℕ
keys_from None high = 0
keys_from (Some k) high = high + 1 - k

abbrev pub keys_left : Leaves → ℕ
keys_left w = keys_from w.key w.high
