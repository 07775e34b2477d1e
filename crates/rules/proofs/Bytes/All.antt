-- A fact of each element of a list, as one pair after another, and what is kept of it by the ways in which the rules make
-- a list from others. Assumes nothing.
use Rattle.std.proofs.Common.{ℕ, zero, suc, ◌<◌, Bool, true, false, eqb, ltb, List, [], ◌∷◌, ◌++◌, length, get_or, take, drop, arith}
use Rattle.rules.specs.Test.{between}
use Rattle.rules.specs.Entry.{Entry, cut, put, without}

pub data All {A : Type 0} (P : A → Type 0) : List A → Type 0 where
  nil : All P []
  cons : {x : A} {xs : List A} → P x → All P xs → All P (x ∷ xs)

module _ {A : Type 0} {P : A → Type 0} where
  pub all_head : {x : A} {xs : List A} → All P (x ∷ xs) → P x
  all_head (cons h k) = h

  pub all_tail : {x : A} {xs : List A} → All P (x ∷ xs) → All P xs
  all_tail (cons h k) = k

  pub all_append : {xs ys : List A} → All P xs → All P ys → All P (xs ++ ys)
  all_append nil k = k
  all_append (cons h m) k = cons h (all_append m k)

  pub all_take : (n : ℕ) {xs : List A} → All P xs → All P (take n xs)
  all_take zero h = nil
  all_take (suc n) nil = nil
  all_take (suc n) (cons h k) = cons h (all_take n k)

  pub all_drop : (n : ℕ) {xs : List A} → All P xs → All P (drop n xs)
  all_drop zero h = h
  all_drop (suc n) nil = nil
  all_drop (suc n) (cons h k) = all_drop n k

  -- by index
  pub all-at : {xs : List A} → All P xs → (i : ℕ) (d : A) → i < length xs → P (get_or xs i d)
  all-at nil i d b = absurd (omega arith)
  all-at (cons h k) zero d b = h
  all-at (cons h k) (suc i) d b = all-at k i d (omega arith)

pub all_map : {A : Type 0} {P Q : A → Type 0} {xs : List A} → ((x : A) → P x → Q x) → All P xs → All Q xs
all_map f nil = nil
all_map f (cons {x = x} h k) = cons (f x h) (all_map f k)

-- ── Entries cut to a range, an entry put among others, one taken out ───────────────────────────────────────────

module _ {B : Type 0} {P : Entry B → Type 0} where
  pub all-cut : (low high : ℕ) {xs : List (Entry B)} → All P xs → All P (cut low high xs)
  unfolding cut
  all-cut low high nil = nil
  all-cut low high (cons {x = x} {xs = xs} h k) = go (between low high x.key) (all-cut low high k)
    where
      go : (t : Bool) → All P (cut low high xs) → All P (elim t [ true ↦ x ∷ cut low high xs | false ↦ cut low high xs ])
      go true m = cons h m
      go false m = m

  pub all-put : (x : Entry B) {xs : List (Entry B)} → P x → All P xs → All P (put x xs)
  unfolding put
  all-put x h nil = cons h nil
  all-put x h (cons {x = y} {xs = ys} k ks) = go (ltb x.key y.key) (eqb x.key y.key) (all-put x h ks)
    where
      go : (t u : Bool) → All P (put x ys) → All P (elim t [ true ↦ x ∷ (y ∷ ys) | false ↦ elim u [ true ↦ x ∷ ys | false ↦ y ∷ put x ys ] ])
      go true u m = cons h (cons k ks)
      go false true m = cons h ks
      go false false m = cons k m

  pub all_without : (k : ℕ) {xs : List (Entry B)} → All P xs → All P (without k xs)
  unfolding without
  all_without k nil = nil
  all_without k (cons {x = x} {xs = xs} h m) = go (eqb k x.key) (all_without k m)
    where
      go : (t : Bool) → All P (without k xs) → All P (elim t [ true ↦ xs | false ↦ x ∷ without k xs ])
      go true ih = m
      go false ih = cons h ih
