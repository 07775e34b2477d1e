-- The free numbers from a number up: at it, behind it, past the last page; and the first of them. Assumes nothing.
use Rattle.std.specs.Prelude.{Some, None}
use mathlib.Core.Path.{◌≡◌, refl, ap, sym, ◌∙◌}
use mathlib.Core.Bool.{Bool, true, false}
use mathlib.Core.List.{List, [], ◌∷◌}
use Prim.Native.Nat.{ℕ, zero, suc, ◌+◌, ◌-◌, ◌≤◌, ◌<◌}
use native.Mathlib.Numerals.{add-one}
use native.Mathlib.Omega.{arith}
use Rattle.rules.specs.Marks.{numbers_from, free_pages}
use Rattle.rules.specs.declared.Session.{Session}
use Rattle.rules.proofs.Bytes.Numbers.{numbers_from-here, numbers_from-past}
use Rattle.marks.specs.Lowest.{counts_free, free_from, first_of}

-- the first number of a list of numbers, and the numbers behind it
record First (mark : ℕ → Bool) (i k x : ℕ) : Type 0 where
  below : x < i + k
  above : i ≤ x
  list : numbers_from mark i k ≡ x ∷ numbers_from mark (x + 1) (i + k - (x + 1))

page-same : {i x : ℕ} → first_of (i ∷ []) ≡ Some x → i ≡ x
unfolding first_of
page-same e = cc

first-nothing : (xs : List ℕ) → first_of xs ≡ None → xs ≡ []
unfolding first_of
first-nothing [] e = refl
first-nothing (x ∷ xs) e = let z : ◌≡◌ {A = ℕ} 0 1 = cc in absurd (omega arith)

numbers-first : (mark : ℕ → Bool) (i k x : ℕ) → first_of (numbers_from mark i k) ≡ Some x → First mark i k x
unfolding numbers_from first_of
numbers-first mark i zero x e = let z : ◌≡◌ {A = ℕ} 0 1 = cc in absurd (omega arith)
numbers-first mark i (suc k) x e = go (mark i) refl (numbers-first mark (suc i) k x)
  where
    go : (b : Bool) → mark i ≡ b → (first_of (numbers_from mark (suc i) k) ≡ Some x → First mark (suc i) k x) → First mark i (suc k) x
    go true f ih =
        let p : i ≡ x = page-same (ap first_of (sym (numbers_from-here mark i k f)) ∙ e) in
        let q : k ≡ i + suc k - (i + 1) = omega arith in
        record {
          below = omega arith;
          above = omega arith;
          list = numbers_from-here mark i k f ∙ rw (← p, ← q, add-one);
        }
    go false f ih =
        let r : First mark (suc i) k x = ih (ap first_of (sym (numbers_from-past mark i k f)) ∙ e) in
        let q : suc i + k ≡ i + suc k = omega arith in
        record {
          below = omega (arith, r.below);
          above = omega (arith, r.above);
          list = numbers_from-past mark i k f ∙ (r.list ∙ rw q);
        }

module _ (s : Session) (entered : List ℕ) where
  pub free_pages-from : free_pages s entered ≡ free_from s entered 1
  unfolding free_pages free_from
  free_pages-from = refl

  module _ (i : ℕ) where
    pub free-here : i < s.n → counts_free s entered i ≡ true → free_from s entered i ≡ i ∷ free_from s entered (i + 1)
    unfolding free_from
    free-here h e =
        let k : s.n - i ≡ suc (s.n - (i + 1)) = omega arith in
        rw (k, numbers_from-here (counts_free s entered) i (s.n - (i + 1)) e, add-one)

    pub free-later : i < s.n → counts_free s entered i ≡ false → free_from s entered i ≡ free_from s entered (i + 1)
    unfolding free_from
    free-later h e =
        let k : s.n - i ≡ suc (s.n - (i + 1)) = omega arith in
        rw (k, numbers_from-past (counts_free s entered) i (s.n - (i + 1)) e, add-one)

    pub free-end : s.n ≤ i → free_from s entered i ≡ []
    unfolding free_from numbers_from
    free-end h =
        let k : s.n - i ≡ 0 = omega arith in
        rw k

    -- what a search that found a page has passed, and what is left behind it
    pub free-first : (x : ℕ) → first_of (free_from s entered i) ≡ Some x → (x < s.n) × (free_from s entered i ≡ x ∷ free_from s entered (x + 1))
    unfolding free_from
    free-first x e =
        let r : First (counts_free s entered) i (s.n - i) x = numbers-first (counts_free s entered) i (s.n - i) x e in
        let q : i + (s.n - i) ≡ s.n = omega (arith, r.below, r.above) in
        (omega (arith, r.below, r.above), r.list ∙ rw q)

    pub free-none : first_of (free_from s entered i) ≡ None → free_from s entered i ≡ []
    free-none e = first-nothing (free_from s entered i) e
