-- What marks say of the lists of numbers that they were made from: which numbers are members, that none came twice, and
-- that two lists share none. Assumes nothing.
use Rattle.std.proofs.Common.{◌≡◌, ℕ, zero, suc, ◌<◌, ◌≤◌, Bool, true, false, not, ◌&&◌, ◌||◌, eqb, ltb, ◌≢◌, ◌⊎◌, List, [], ◌∷◌, length, get_or, set, replicate, sym, refl, ap, ◌∙◌, inl, inr, arith, length-set, get_or-set_other, get_or-set_same, ltb-false, ltb-true, eqb-true}
use mathlib.Core.Bool.{or-false}
use lib.ListN.{length-replicate}
use borrow.Author.Tests.{eqb-false, not-true}
use Rattle.rules.specs.Test.{all, mem, distinct}
use Rattle.rules.proofs.Entries.Tests.{and_left, and_right, and_of, fails, not_both, same_test, mem-nil, mem-head, mem_tail, mem_cases, all-mem, all_of-mem, distinct_nil, distinct_head, distinct_tail, distinct_cons}
use Rattle.seen.specs.Note.{mark, unmarked, apart}
use Rattle.seen.proofs.Beyond.{marked_beyond}

-- ── Members ─────────────────────────────────────────────────────────────────────────────────────────────────────

or_assoc : (a b c : Bool) → ((a || b) || c) ≡ (a || (b || c))
or_assoc true b c = refl
or_assoc false b c = refl

or_on : (a : Bool) → (a || true) ≡ true
or_on true = refl
or_on false = refl

pub length-mark : (m : List Bool) (xs : List ℕ) → length (mark m xs) ≡ length m
unfolding mark
length-mark m [] = refl
length-mark m (x ∷ xs) = length-mark (set m x true) xs ∙ length-set m x true

-- one more mark
set_at : (m : List Bool) (x i : ℕ) → i < length m → get_or (set m x true) i false ≡ (get_or m i false || eqb i x)
set_at m x i h = go (eqb i x) refl
  where
    go : (b : Bool) → eqb i x ≡ b → get_or (set m x true) i false ≡ (get_or m i false || eqb i x)
    go true e =
        ap (λ (j : ℕ). get_or (set m j true) i false) (sym (eqb-true i x e))
        ∙ get_or-set_same m i true false h
        ∙ sym (ap (λ (b : Bool). get_or m i false || b) e ∙ or_on (get_or m i false))
    go false e =
        get_or-set_other m x i true false (eqb-false i x e) ∙ sym (ap (λ (b : Bool). get_or m i false || b) e ∙ or-false (get_or m i false))

pub mark-at : (m : List Bool) (xs : List ℕ) (i : ℕ) → i < length m → get_or (mark m xs) i false ≡ (get_or m i false || mem i xs)
unfolding mark mem
mark-at m [] i h = sym (or-false (get_or m i false))
mark-at m (x ∷ xs) i h =
    let l : i < length (set m x true) = omega (arith, length-set m x true) in
    mark-at (set m x true) xs i l
    ∙ ap (λ (b : Bool). b || mem i xs) (set_at m x i h)
    ∙ or_assoc (get_or m i false) (eqb i x) (mem i xs)

-- ── None twice ──────────────────────────────────────────────────────────────────────────────────────────────────

unmarked-head : (m : List Bool) (x : ℕ) (xs : List ℕ) → unmarked m (x ∷ xs) ≡ true → get_or m x false ≡ false
unfolding unmarked
unmarked-head m x xs h = not-true (get_or m x false) (and_left (not (get_or m x false)) (unmarked (set m x true) xs) h)

unmarked_tail : (m : List Bool) (x : ℕ) (xs : List ℕ) → unmarked m (x ∷ xs) ≡ true → unmarked (set m x true) xs ≡ true
unfolding unmarked
unmarked_tail m x xs h = and_right (not (get_or m x false)) (unmarked (set m x true) xs) h

unmarked-cons : (m : List Bool) (x : ℕ) (xs : List ℕ) → get_or m x false ≡ false → unmarked (set m x true) xs ≡ true → unmarked m (x ∷ xs) ≡ true
unfolding unmarked
unmarked-cons m x xs h k = and_of (ap not h) k

-- a member of a list that was unmarked had no mark
unmarked-mem : (m : List Bool) (xs : List ℕ) → unmarked m xs ≡ true → (i : ℕ) → mem i xs ≡ true → get_or m i false ≡ false
unmarked-mem m [] h i p = absurd (mem-nil i p)
unmarked-mem m (x ∷ xs) h i p =
    go (mem_cases i x xs p) (eqb i x) refl (unmarked-mem (set m x true) xs (unmarked_tail m x xs h) i)
  where
    go : (i ≡ x) ⊎ (mem i xs ≡ true) → (b : Bool) → eqb i x ≡ b → (mem i xs ≡ true → get_or (set m x true) i false ≡ false) → get_or m i false ≡ false
    go (inl e) b q ih = ap (λ (j : ℕ). get_or m j false) e ∙ unmarked-head m x xs h
    go (inr k) true q ih = ap (λ (j : ℕ). get_or m j false) (eqb-true i x q) ∙ unmarked-head m x xs h
    go (inr k) false q ih = sym (get_or-set_other m x i true false (eqb-false i x q)) ∙ ih k

pub unmarked-distinct : (m : List Bool) (xs : List ℕ) → ((i : ℕ) → mem i xs ≡ true → i < length m) → unmarked m xs ≡ true → distinct xs ≡ true
unmarked-distinct m [] r h = distinct_nil
unmarked-distinct m (x ∷ xs) r h =
    distinct_cons x xs
    (fails (mem x xs)
    (λ p. not_both (get_or-set_same m x true false (r x (mem-head x xs))) (unmarked-mem (set m x true) xs (unmarked_tail m x xs h) x p)))
    (unmarked-distinct (set m x true) xs (λ i p. omega (arith, r i (mem_tail i x xs p), length-set m x true)) (unmarked_tail m x xs h))

pub distinct-unmarked : (m : List Bool) (xs : List ℕ) → ((i : ℕ) → mem i xs ≡ true → get_or m i false ≡ false) → distinct xs ≡ true → unmarked m xs ≡ true
unfolding unmarked
distinct-unmarked m [] r h = refl
distinct-unmarked m (x ∷ xs) r h =
    unmarked-cons m x xs (r x (mem-head x xs))
    (distinct-unmarked (set m x true) xs
    (λ i p. get_or-set_other m x i true false (other i p) ∙ r i (mem_tail i x xs p)) (distinct_tail x xs h))
  where
    other : (i : ℕ) → mem i xs ≡ true → i ≢ x
    other i p e = not_both (ap (λ (j : ℕ). mem j xs) (sym e) ∙ p) (distinct_head x xs h)

-- ── None in both ────────────────────────────────────────────────────────────────────────────────────────────────

off : (b : Bool) → (b && false) ≡ false
off true = refl
off false = refl

apart-at : (xs ys : List Bool) → apart xs ys ≡ true → (i : ℕ) → (get_or xs i false && get_or ys i false) ≡ false
unfolding apart
apart-at [] ys h i = refl
apart-at (x ∷ xs) [] h i = off (get_or (x ∷ xs) i false)
apart-at (x ∷ xs) (y ∷ ys) h zero = not-true (x && y) (and_left (not (x && y)) (apart xs ys) h)
apart-at (x ∷ xs) (y ∷ ys) h (suc i) = apart-at xs ys (and_right (not (x && y)) (apart xs ys) h) i

apart_of : (xs ys : List Bool) → ((i : ℕ) → (get_or xs i false && get_or ys i false) ≡ false) → apart xs ys ≡ true
unfolding apart
apart_of [] ys f = refl
apart_of (x ∷ xs) [] f = refl
apart_of (x ∷ xs) (y ∷ ys) f = and_of (ap not (f zero)) (apart_of xs ys (λ i. f (suc i)))

-- ── From no marks on ────────────────────────────────────────────────────────────────────────────────────────────

-- fresh marks mark nothing
pub none-at : (size i : ℕ) → get_or (replicate size false) i false ≡ false
none-at zero i = refl
none-at (suc k) zero = refl
none-at (suc k) (suc i) = none-at k i

module _ (size : ℕ) where
  abbrev fresh : List ℕ → List Bool
  fresh xs = mark (replicate size false) xs

  pub fresh_at : (xs : List ℕ) (i : ℕ) → i < size → get_or (fresh xs) i false ≡ mem i xs
  fresh_at xs i h =
      mark-at (replicate size false) xs i (omega (arith, length-replicate size false))
      ∙ ap (λ (b : Bool). b || mem i xs) (none-at size i)

  pub fresh-distinct : (xs : List ℕ) → ((i : ℕ) → mem i xs ≡ true → i < size) → unmarked (replicate size false) xs ≡ distinct xs
  fresh-distinct xs r =
      same_test (unmarked (replicate size false) xs) (distinct xs)
      (unmarked-distinct (replicate size false) xs (λ i p. omega (arith, r i p, length-replicate size false)))
      (distinct-unmarked (replicate size false) xs (λ i p. none-at size i))

  pub fresh-apart : (xs ys : List ℕ) → ((i : ℕ) → mem i xs ≡ true → i < size) → ((i : ℕ) → mem i ys ≡ true → i < size)
      → apart (fresh xs) (fresh ys) ≡ all (λ i. not (mem i xs)) ys
  fresh-apart xs ys r q = same_test (apart (fresh xs) (fresh ys)) (all (λ i. not (mem i xs)) ys) there back
    where
      there : apart (fresh xs) (fresh ys) ≡ true → all (λ i. not (mem i xs)) ys ≡ true
      there h =
          all_of-mem (λ i. not (mem i xs)) ys
          (λ i p. no (mem i xs) (mem i ys)
          (sym (ap (λ (b : Bool). b && mem i ys) (fresh_at xs i (q i p))) ∙ sym (ap (λ (b : Bool). get_or (fresh xs) i false && b) (fresh_at ys i (q i p))) ∙ apart-at (fresh xs) (fresh ys) h i) p)
        where
          no : (a b : Bool) → (a && b) ≡ false → b ≡ true → not a ≡ true
          no true b e p = absurd (not_both p e)
          no false b e p = refl

      back : all (λ i. not (mem i xs)) ys ≡ true → apart (fresh xs) (fresh ys) ≡ true
      back h = apart_of (fresh xs) (fresh ys) (λ i. one i (ltb i size) refl)
        where
          neither : (i : ℕ) (b : Bool) → mem i ys ≡ b → (mem i xs && b) ≡ false
          neither i true p = ap (λ (a : Bool). a && true) (not-true (mem i xs) (all-mem (λ j. not (mem j xs)) i ys h p))
          neither i false p = off (mem i xs)

          one : (i : ℕ) (b : Bool) → ltb i size ≡ b → (get_or (fresh xs) i false && get_or (fresh ys) i false) ≡ false
          one i true e =
              let l = ltb-true i size e in
              ap (λ (b : Bool). b && get_or (fresh ys) i false) (fresh_at xs i l)
              ∙ ap (λ (b : Bool). mem i xs && b) (fresh_at ys i l)
              ∙ neither i (mem i ys) refl
          one i false e =
              let l = ltb-false i size e in
              let k : length (fresh xs) ≤ i = omega (arith, length-mark (replicate size false) xs, length-replicate size false) in
              ap (λ (b : Bool). b && get_or (fresh ys) i false) (sym (marked_beyond (fresh xs) i k))
