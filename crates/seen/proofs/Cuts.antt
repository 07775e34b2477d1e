-- A range cut of rising entries is a run of them: those from the first key at or above low up to the last one at or
-- below high. Assumes nothing.
use Rattle.std.proofs.Common.{◌≡◌, ℕ, zero, suc, ◌-◌, ◌<◌, ◌≤◌, Bool, true, false, leb, ◌⊎◌, List, [], ◌∷◌, length, take, drop, sym, refl, ap, ◌∙◌, inl, inr, arith, le-leb, leb-false, leb-true}
use borrow.Author.Tests.{lt-leb}
use Rattle.rules.specs.Test.{mem}
use Rattle.rules.specs.Entry.{Child, keys, cut, rises_from, rising}
use Rattle.rules.proofs.Entries.Tests.{between-of, between-below, between-above, mem-head, mem_tail, mem_cases}
use Rattle.rules.proofs.Entries.Rises.{rises-mem, rising-from, rising_tail}
use Rattle.rules.proofs.Entries.Entries.{cut-nil, cut_in, cut_out, cut-none}
use Rattle.seen.specs.Run.{up_to, below}

pub up_to_in : (k : ℕ) (x : Child) (xs : List Child) → x.key ≤ k → up_to k (x ∷ xs) ≡ suc (up_to k xs)
unfolding up_to
up_to_in k x xs h = rw (up_to, le-leb x.key k h)

pub up_to-out : (k : ℕ) (x : Child) (xs : List Child) → k < x.key → up_to k (x ∷ xs) ≡ 0
unfolding up_to
up_to-out k x xs h = rw (up_to, lt-leb x.key k h)

pub up_to-nil : (k : ℕ) → up_to k [] ≡ 0
unfolding up_to
up_to-nil k = refl

pub up_to-length : (k : ℕ) (xs : List Child) → up_to k xs ≤ length xs
up_to-length k [] = omega (arith, up_to-nil k)
up_to-length k (x ∷ xs) = go (leb x.key k) refl (up_to-length k xs)
  where
    go : (b : Bool) → leb x.key k ≡ b → up_to k xs ≤ length xs → up_to k (x ∷ xs) ≤ suc (length xs)
    go true e ih = omega (arith, up_to_in k x xs (leb-true x.key k e))
    go false e ih = omega (arith, up_to-out k x xs (leb-false x.key k e))

pub below-some : (low : ℕ) (xs : List Child) → (low ≡ 0 → ⊥) → below low xs ≡ up_to (low - 1) xs
unfolding below
below-some zero xs h = absurd (h refl)
below-some (suc k) xs h = ap (λ (j : ℕ). up_to j xs) (omega arith)

pub below_none : (low : ℕ) (xs : List Child) → low ≡ 0 → below low xs ≡ 0
unfolding below
below_none zero xs h = refl
below_none (suc k) xs h = absurd (omega arith)

pub below_length : (low : ℕ) (xs : List Child) → below low xs ≤ length xs
unfolding below
below_length zero xs = omega arith
below_length (suc k) xs = up_to-length k xs

-- behind a key above high nothing is left
none_above : (low high k : ℕ) (xs : List Child) → high < k → rises_from k (keys xs) ≡ true → cut low high xs ≡ []
none_above low high k xs h r = cut-none low high xs (λ j m. between-above low high j (omega (arith, rises-mem k j (keys xs) r m)))

-- where every key is at or above low
from_low : (low high : ℕ) (xs : List Child) → rising (keys xs) ≡ true → ((k : ℕ) → mem k (keys xs) ≡ true → low ≤ k)
    → cut low high xs ≡ take (up_to high xs) xs
unfolding keys mem
from_low low high [] r f = cut-nil low high ∙ sym (ap (λ (i : ℕ). take {A = Child} i []) (up_to-nil high))
from_low low high (x ∷ xs) r f =
    go (leb x.key high) refl
    (from_low low high xs (rising_tail x.key (keys xs) r) (λ k m. f k (mem_tail k x.key (keys xs) m)))
  where
    go : (b : Bool) → leb x.key high ≡ b → cut low high xs ≡ take (up_to high xs) xs
        → cut low high (x ∷ xs) ≡ take (up_to high (x ∷ xs)) (x ∷ xs)
    go true e ih =
        let h = leb-true x.key high e in
        cut_in low high x xs (between-of low high x.key (f x.key (mem-head x.key (keys xs))) h)
        ∙ ap (λ (l : List Child). x ∷ l) ih
        ∙ sym (ap (λ (i : ℕ). take i (x ∷ xs)) (up_to_in high x xs h))
    go false e ih =
        let h = leb-false x.key high e in
        cut_out low high x xs (between-above low high x.key h)
        ∙ none_above low high x.key xs h (rising-from x.key (keys xs) r)
        ∙ sym (ap (λ (i : ℕ). take i (x ∷ xs)) (up_to-out high x xs h))

abbrev pub run_in_lem : ℕ → ℕ → List Child → List Child
run_in_lem high first xs = take (up_to high (drop first xs)) (drop first xs)

pub cut_runs : (low high : ℕ) (xs : List Child) → rising (keys xs) ≡ true → cut low high xs ≡ run_in_lem high (below low xs) xs
unfolding below keys
cut_runs zero high xs r = from_low 0 high xs r (λ k m. omega arith)
cut_runs (suc k) high [] r = cut-nil (suc k) high ∙ sym (ap (λ (i : ℕ). run_in_lem high i []) (up_to-nil k) ∙ ap (λ (i : ℕ). take {A = Child} i []) (up_to-nil high))
cut_runs (suc k) high (x ∷ xs) r =
    go (leb x.key k) refl (cut_runs (suc k) high xs (rising_tail x.key (keys xs) r))
  where
    go : (b : Bool) → leb x.key k ≡ b → cut (suc k) high xs ≡ run_in_lem high (up_to k xs) xs
        → cut (suc k) high (x ∷ xs) ≡ run_in_lem high (up_to k (x ∷ xs)) (x ∷ xs)
    go true e ih =
        let h = leb-true x.key k e in
        cut_out (suc k) high x xs (between-below (suc k) high x.key (omega arith))
        ∙ ih
        ∙ sym (ap (λ (i : ℕ). run_in_lem high i (x ∷ xs)) (up_to_in k x xs h))
    go false e ih =
        let h = leb-false x.key k e in
        from_low (suc k) high (x ∷ xs) r (λ j m. above j h (mem_cases j x.key (keys xs) m))
        ∙ sym (ap (λ (i : ℕ). run_in_lem high i (x ∷ xs)) (up_to-out k x xs h))
      where
        above : (j : ℕ) → k < x.key → (j ≡ x.key) ⊎ (mem j (keys xs) ≡ true) → suc k ≤ j
        above j h (inl p) = omega arith
        above j h (inr m) = omega (arith, rises-mem x.key j (keys xs) (rising-from x.key (keys xs) r) m)
