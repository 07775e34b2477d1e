-- A chain of tests in code against the rules' `every`: one test that fails decides, and where all others pass the last
-- one or the first one decides. Assumes nothing.
use Prim.Native.Nat.{ℕ, zero, suc}
use mathlib.Core.Path.{◌≡◌}
use mathlib.Core.Bool.{Bool, true, false, and-true, and-false}
use mathlib.Core.List.{List, [], ◌∷◌, ◌++◌}
use lib.ListN.{get_or}
use Rattle.rules.specs.Test.{every}
use Rattle.rules.proofs.Entries.Tests.{Holds, every_of}

pub every_fails : (ts : List Bool) (i : ℕ) → get_or ts i true ≡ false → every ts ≡ false
unfolding every
every_fails [] i h = h
every_fails (t ∷ ts) zero h = rw h
every_fails (t ∷ ts) (suc i) h = rw (every_fails ts i h, and-false)

pub every-last : (ts : List Bool) (t : Bool) → Holds ts → every (ts ++ (t ∷ [])) ≡ t
unfolding every
every-last [] t h = and-true t
every-last (x ∷ ts) t h = rw h.0 (every-last ts t h.1)

pub every_first : (t : Bool) (ts : List Bool) → Holds ts → every (t ∷ ts) ≡ t
unfolding every
every_first t ts h = rw (every_of ts h, and-true)
