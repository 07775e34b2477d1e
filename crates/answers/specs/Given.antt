-- The table of answers: a number is given exactly when its condition holds and none above it in the table does.
use Rattle.std.specs.Prelude.{ℕ, ◌≡◌, ◌⊎◌, List, [], ◌∷◌}

-- a line of the table
pub record Cause : Type 1 where
  pub number : ℕ
  pub holds : Type 0

infix 3 ◌when◌
abbrev pub ◌when◌ : ℕ → Type 0 → Cause
k when C = record { number = k; holds = C }

-- lower number first; 0 when none below
abbrev pub Given : List Cause → ℕ → Type 0
Given [] k = k ≡ 0
Given (c ∷ cs) k = ((k ≡ c.number) × c.holds) ⊎ ((c.holds → ⊥) × Given cs k)

-- the numbers of the table, which a call can give beside 0
abbrev pub numbers_in : List Cause → List ℕ
numbers_in [] = []
numbers_in (c ∷ cs) = c.number ∷ numbers_in cs
