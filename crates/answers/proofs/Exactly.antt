-- A table of answers gives one number and no other. Assumes nothing.
use Prim.Native.Nat.{ℕ}
use mathlib.Core.Path.{◌≡◌, sym, ◌∙◌}
use mathlib.Core.Logic.{◌⊎◌, inl, inr, ◌↔◌}
use mathlib.Core.Bool.{true}
use mathlib.Core.List.{List, [], ◌∷◌}
use Rattle.rules.specs.Test.{mem}
use Rattle.rules.proofs.Entries.Tests.{mem-head, mem_tail, mem_cases}
use Rattle.answers.specs.Given.{Cause, Given, numbers_in}

-- no second number is given
pub given-one : (cs : List Cause) (j k : ℕ) → Given cs j → Given cs k → j ≡ k
given-one [] j k p q = p ∙ sym q
given-one (c ∷ cs) j k (inl p) (inl q) = p.0 ∙ sym q.0
given-one (c ∷ cs) j k (inl p) (inr q) = absurd (q.0 p.1)
given-one (c ∷ cs) j k (inr p) (inl q) = absurd (p.0 q.1)
given-one (c ∷ cs) j k (inr p) (inr q) = given-one cs j k p.1 q.1

-- an answer's number, once known to be given, is given exactly then
pub exactly : (cs : List Cause) (n k : ℕ) → Given cs n → (n ≡ k) ↔ Given cs k
exactly cs n k g = ((λ e. rw e at g), given-one cs n k g)

-- what is given is 0 or a number of the table
pub given-number : (cs : List Cause) (k : ℕ) → Given cs k → mem k (0 ∷ numbers_in cs) ≡ true
given-number [] k g = rw g (mem-head 0 [])
given-number (c ∷ cs) k (inl p) = rw p.0 (mem_tail c.number 0 (c.number ∷ numbers_in cs) (mem-head c.number (numbers_in cs)))
given-number (c ∷ cs) k (inr p) = go (mem_cases k 0 (numbers_in cs) (given-number cs k p.1))
  where
    go : (k ≡ 0) ⊎ (mem k (numbers_in cs) ≡ true) → mem k (0 ∷ c.number ∷ numbers_in cs) ≡ true
    go (inl e) = rw e (mem-head 0 (c.number ∷ numbers_in cs))
    go (inr m) = mem_tail k 0 (c.number ∷ numbers_in cs) (mem_tail k c.number (numbers_in cs) m)
