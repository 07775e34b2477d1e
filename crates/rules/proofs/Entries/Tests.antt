-- What the tests of the rules tell: each reflected once into facts, and back. Assumes nothing.
use Rattle.std.proofs.Common.{◌≡◌, ℕ, zero, suc, ◌<◌, ◌≤◌, Bool, true, false, not, ◌&&◌, ◌||◌, eqb, leb, ◌⊎◌, List, [], ◌∷◌, ◌++◌, length, get_or, take, drop, sym, refl, ap, ◌∙◌, inl, inr, true≢false, le_of_suc-le-suc, not-suc-le-zero, arith, eq-eqb, eqb-true, le-leb, leb-false, leb-true}
use mathlib.Core.Bool.{false≢true}
use Rattle.rules.specs.Test.{between, every, all, mem, distinct}

-- ── Two tests joined ────────────────────────────────────────────────────────────────────────────────────────────

pub and_left : (a b : Bool) → (a && b) ≡ true → a ≡ true
and_left true b h = refl
and_left false b h = h

pub and_right : (a b : Bool) → (a && b) ≡ true → b ≡ true
and_right true b h = h
and_right false b h = absurd (false≢true h)

pub and_of : {a b : Bool} → a ≡ true → b ≡ true → (a && b) ≡ true
and_of p q = rw (p, q)

pub or_cases : (a b : Bool) → (a || b) ≡ true → (a ≡ true) ⊎ (b ≡ true)
or_cases true b h = inl refl
or_cases false b h = inr h

pub or_left : {a : Bool} (b : Bool) → a ≡ true → (a || b) ≡ true
or_left b p = rw p

pub or_right : (a : Bool) {b : Bool} → b ≡ true → (a || b) ≡ true
or_right true p = refl
or_right false p = p

pub either : (t : Bool) → (t ≡ true) ⊎ (t ≡ false)
either true = inl refl
either false = inr refl

-- a test that can't pass fails
pub fails : (t : Bool) → (t ≡ true → ⊥) → t ≡ false
fails true h = absurd (h refl)
fails false h = refl

pub not_both : {t : Bool} → t ≡ true → t ≡ false → ⊥
not_both p q = true≢false (sym p ∙ q)

-- what one of the two tells of the other
pub or_other : (a b : Bool) → (a || b) ≡ true → a ≡ false → b ≡ true
or_other true b h e = absurd (not_both refl e)
or_other false b h e = h

pub or_of : (a b : Bool) → (a ≡ false → b ≡ true) → (a || b) ≡ true
or_of true b h = refl
or_of false b h = h refl

pub or_none : (a b : Bool) → (a || b) ≡ false → (a ≡ false) × (b ≡ false)
or_none true b h = absurd (not_both refl h)
or_none false b h = (refl, h)

pub and_other : (a b : Bool) → (a && b) ≡ false → a ≡ true → b ≡ false
and_other true b h p = h
and_other false b h p = absurd (not_both p refl)

-- two tests that tell the same are the same
pub same_test : (a b : Bool) → (a ≡ true → b ≡ true) → (b ≡ true → a ≡ true) → a ≡ b
same_test true b f g = sym (f refl)
same_test false true f g = g refl
same_test false false f g = refl

-- ── Each of some tests ──────────────────────────────────────────────────────────────────────────────────────────

abbrev pub Holds : List Bool → Type 0
Holds [] = Unit {0}
Holds (t ∷ ts) = (t ≡ true) × Holds ts

pub every_true : (ts : List Bool) → every ts ≡ true → Holds ts
unfolding every
every_true [] h = tt
every_true (t ∷ ts) h = (and_left t (every ts) h, every_true ts (and_right t (every ts) h))

pub every_of : (ts : List Bool) → Holds ts → every ts ≡ true
unfolding every
every_of [] h = refl
every_of (t ∷ ts) h = and_of h.0 (every_of ts h.1)

-- ── A range ─────────────────────────────────────────────────────────────────────────────────────────────────────

pub between-low : (low high k : ℕ) → between low high k ≡ true → low ≤ k
unfolding between
between-low low high k h = leb-true low k (and_left (leb low k) (leb k high) h)

pub between-high : (low high k : ℕ) → between low high k ≡ true → k ≤ high
unfolding between
between-high low high k h = leb-true k high (and_right (leb low k) (leb k high) h)

pub between-of : (low high k : ℕ) → low ≤ k → k ≤ high → between low high k ≡ true
unfolding between
between-of low high k p q = and_of (le-leb low k p) (le-leb k high q)

pub between-below : (low high k : ℕ) → k < low → between low high k ≡ false
between-below low high k h = fails (between low high k) (λ b. omega (arith, between-low low high k b))

pub between-above : (low high k : ℕ) → high < k → between low high k ≡ false
between-above low high k h = fails (between low high k) (λ b. omega (arith, between-high low high k b))

pub between_cases : (low high k : ℕ) → between low high k ≡ false → (k < low) ⊎ (high < k)
unfolding between
between_cases low high k h = go (leb low k) refl h
  where
    go : (b : Bool) → leb low k ≡ b → (b && leb k high) ≡ false → (k < low) ⊎ (high < k)
    go true e f = inr (leb-false k high f)
    go false e f = inl (leb-false low k e)

-- a range within another
pub between_wider : (low high l h k : ℕ) → l ≤ low → high ≤ h → between low high k ≡ true → between l h k ≡ true
between_wider low high l h k p q b =
    between-of l h k (omega (arith, between-low low high k b)) (omega (arith, between-high low high k b))

-- ── Each element of a list ──────────────────────────────────────────────────────────────────────────────────────

module _ {A : Type 0} where
  pub all_head : (p : A → Bool) (x : A) (xs : List A) → all p (x ∷ xs) ≡ true → p x ≡ true
  unfolding all
  all_head p x xs h = and_left (p x) (all p xs) h

  pub all_tail : (p : A → Bool) (x : A) (xs : List A) → all p (x ∷ xs) ≡ true → all p xs ≡ true
  unfolding all
  all_tail p x xs h = and_right (p x) (all p xs) h

  pub all_nil : (p : A → Bool) → all p [] ≡ true
  unfolding all
  all_nil p = refl

  pub all_cons : (p : A → Bool) (x : A) (xs : List A) → p x ≡ true → all p xs ≡ true → all p (x ∷ xs) ≡ true
  unfolding all
  all_cons p x xs h k = and_of h k

  pub all-at : (p : A → Bool) (xs : List A) (i : ℕ) (d : A) → all p xs ≡ true → i < length xs → p (get_or xs i d) ≡ true
  all-at p [] i d h k = absurd (not-suc-le-zero k)
  all-at p (x ∷ xs) zero d h k = all_head p x xs h
  all-at p (x ∷ xs) (suc i) d h k = all-at p xs i d (all_tail p x xs h) (le_of_suc-le-suc k)

  -- a test that follows from another one
  pub all_imp : (p q : A → Bool) → ((x : A) → p x ≡ true → q x ≡ true) → (xs : List A) → all p xs ≡ true → all q xs ≡ true
  all_imp p q f [] h = all_nil q
  all_imp p q f (x ∷ xs) h = all_cons q x xs (f x (all_head p x xs h)) (all_imp p q f xs (all_tail p x xs h))

  pub all_append : (p : A → Bool) (xs ys : List A) → all p xs ≡ true → all p ys ≡ true → all p (xs ++ ys) ≡ true
  all_append p [] ys h k = k
  all_append p (x ∷ xs) ys h k =
      all_cons p x (xs ++ ys) (all_head p x xs h) (all_append p xs ys (all_tail p x xs h) k)

  pub all_take : (p : A → Bool) (n : ℕ) (xs : List A) → all p xs ≡ true → all p (take n xs) ≡ true
  all_take p zero xs h = all_nil p
  all_take p (suc n) [] h = all_nil p
  all_take p (suc n) (x ∷ xs) h =
      all_cons p x (take n xs) (all_head p x xs h) (all_take p n xs (all_tail p x xs h))

  pub all_drop : (p : A → Bool) (n : ℕ) (xs : List A) → all p xs ≡ true → all p (drop n xs) ≡ true
  all_drop p zero xs h = h
  all_drop p (suc n) [] h = all_nil p
  all_drop p (suc n) (x ∷ xs) h = all_drop p n xs (all_tail p x xs h)

-- ── A number in a list ──────────────────────────────────────────────────────────────────────────────────────────

pub mem-nil : (i : ℕ) → mem i [] ≡ true → ⊥
unfolding mem
mem-nil i h = false≢true h

pub mem-head : (i : ℕ) (xs : List ℕ) → mem i (i ∷ xs) ≡ true
unfolding mem
mem-head i xs = or_left (mem i xs) (eq-eqb i i refl)

pub mem_tail : (i x : ℕ) (xs : List ℕ) → mem i xs ≡ true → mem i (x ∷ xs) ≡ true
unfolding mem
mem_tail i x xs h = or_right (eqb i x) h

pub mem_cases : (i x : ℕ) (xs : List ℕ) → mem i (x ∷ xs) ≡ true → (i ≡ x) ⊎ (mem i xs ≡ true)
unfolding mem
mem_cases i x xs h = go (eqb i x) refl h
  where
    go : (b : Bool) → eqb i x ≡ b → (b || mem i xs) ≡ true → (i ≡ x) ⊎ (mem i xs ≡ true)
    go true e f = inl (eqb-true i x e)
    go false e f = inr f

pub mem-append : (i : ℕ) (xs ys : List ℕ) → mem i (xs ++ ys) ≡ (mem i xs || mem i ys)
unfolding mem
mem-append i [] ys = refl
mem-append i (x ∷ xs) ys = go (eqb i x) (mem-append i xs ys)
  where
    go : (b : Bool) → mem i (xs ++ ys) ≡ (mem i xs || mem i ys) → (b || mem i (xs ++ ys)) ≡ (b || mem i xs || mem i ys)
    go true ih = refl
    go false ih = ih

pub mem-left : (i : ℕ) (xs ys : List ℕ) → mem i xs ≡ true → mem i (xs ++ ys) ≡ true
mem-left i xs ys h = rw mem-append (or_left (mem i ys) h)

pub mem_right : (i : ℕ) (xs ys : List ℕ) → mem i ys ≡ true → mem i (xs ++ ys) ≡ true
mem_right i xs ys h = rw mem-append (or_right (mem i xs) h)

pub mem-append_cases : (i : ℕ) (xs ys : List ℕ) → mem i (xs ++ ys) ≡ true → (mem i xs ≡ true) ⊎ (mem i ys ≡ true)
mem-append_cases i xs ys h = or_cases (mem i xs) (mem i ys) (rw mem-append at h)

pub mem-at : (xs : List ℕ) (j d : ℕ) → j < length xs → mem (get_or xs j d) xs ≡ true
mem-at [] j d h = absurd (not-suc-le-zero h)
mem-at (x ∷ xs) zero d h = mem-head x xs
mem-at (x ∷ xs) (suc j) d h = mem_tail (get_or xs j d) x xs (mem-at xs j d (le_of_suc-le-suc h))

pub mem_index : (i : ℕ) (xs : List ℕ) (d : ℕ) → mem i xs ≡ true → (j : ℕ) × (j < length xs) × (get_or xs j d ≡ i)
mem_index i [] d h = absurd (mem-nil i h)
mem_index i (x ∷ xs) d h = go (mem_cases i x xs h) (mem_index i xs d)
  where
    go : (i ≡ x) ⊎ (mem i xs ≡ true) → (mem i xs ≡ true → (j : ℕ) × (j < length xs) × (get_or xs j d ≡ i))
        → (j : ℕ) × (j < length (x ∷ xs)) × (get_or (x ∷ xs) j d ≡ i)
    go (inl e) ih = (zero, omega arith, sym e)
    go (inr m) ih = let r = ih m in (suc r.0, omega (arith, r.1), r.2)

-- what each element passes, a member passes; and back
pub all-mem : (p : ℕ → Bool) (i : ℕ) (xs : List ℕ) → all p xs ≡ true → mem i xs ≡ true → p i ≡ true
all-mem p i [] h m = absurd (mem-nil i m)
all-mem p i (x ∷ xs) h m = go (mem_cases i x xs m) (all-mem p i xs (all_tail p x xs h))
  where
    go : (i ≡ x) ⊎ (mem i xs ≡ true) → (mem i xs ≡ true → p i ≡ true) → p i ≡ true
    go (inl e) ih = ap p e ∙ all_head p x xs h
    go (inr k) ih = ih k

pub all_of-mem : (p : ℕ → Bool) (xs : List ℕ) → ((i : ℕ) → mem i xs ≡ true → p i ≡ true) → all p xs ≡ true
all_of-mem p [] h = all_nil p
all_of-mem p (x ∷ xs) h =
    all_cons p x xs (h x (mem-head x xs)) (all_of-mem p xs (λ i m. h i (mem_tail i x xs m)))

-- ── No number twice ─────────────────────────────────────────────────────────────────────────────────────────────

pub distinct_nil : distinct [] ≡ true
unfolding distinct
distinct_nil = refl

pub distinct_head : (x : ℕ) (xs : List ℕ) → distinct (x ∷ xs) ≡ true → mem x xs ≡ false
unfolding distinct
distinct_head x xs h = go (mem x xs) (and_left (not (mem x xs)) (distinct xs) h)
  where
    go : (b : Bool) → not b ≡ true → b ≡ false
    go true e = sym e
    go false e = refl

pub distinct_tail : (x : ℕ) (xs : List ℕ) → distinct (x ∷ xs) ≡ true → distinct xs ≡ true
unfolding distinct
distinct_tail x xs h = and_right (not (mem x xs)) (distinct xs) h

pub distinct_cons : (x : ℕ) (xs : List ℕ) → mem x xs ≡ false → distinct xs ≡ true → distinct (x ∷ xs) ≡ true
unfolding distinct
distinct_cons x xs h k = and_of (ap not h) k

pub distinct-left : (xs ys : List ℕ) → distinct (xs ++ ys) ≡ true → distinct xs ≡ true
distinct-left [] ys h = distinct_nil
distinct-left (x ∷ xs) ys h =
    distinct_cons x xs
    (fails (mem x xs) (λ m. not_both (mem-left x xs ys m) (distinct_head x (xs ++ ys) h)))
    (distinct-left xs ys (distinct_tail x (xs ++ ys) h))

pub distinct_right : (xs ys : List ℕ) → distinct (xs ++ ys) ≡ true → distinct ys ≡ true
distinct_right [] ys h = h
distinct_right (x ∷ xs) ys h = distinct_right xs ys (distinct_tail x (xs ++ ys) h)

-- no number stands in both
pub distinct_apart : (i : ℕ) (xs ys : List ℕ) → distinct (xs ++ ys) ≡ true → mem i xs ≡ true → mem i ys ≡ true → ⊥
distinct_apart i [] ys h m k = mem-nil i m
distinct_apart i (x ∷ xs) ys h m k =
    go (mem_cases i x xs m) (λ q. distinct_apart i xs ys (distinct_tail x (xs ++ ys) h) q k)
  where
    go : (i ≡ x) ⊎ (mem i xs ≡ true) → (mem i xs ≡ true → ⊥) → ⊥
    go (inl e) ih = not_both (mem_right x xs ys (ap (λ (j : ℕ). mem j ys) (sym e) ∙ k)) (distinct_head x (xs ++ ys) h)
    go (inr q) ih = ih q

pub distinct_append : (xs ys : List ℕ) → distinct xs ≡ true → distinct ys ≡ true
    → ((i : ℕ) → mem i xs ≡ true → mem i ys ≡ true → ⊥) → distinct (xs ++ ys) ≡ true
distinct_append [] ys h k apart = k
distinct_append (x ∷ xs) ys h k apart =
    distinct_cons x (xs ++ ys) (fails (mem x (xs ++ ys)) (λ m. go (mem-append_cases x xs ys m)))
    (distinct_append xs ys (distinct_tail x xs h) k (λ i m. apart i (mem_tail i x xs m)))
  where
    go : (mem x xs ≡ true) ⊎ (mem x ys ≡ true) → ⊥
    go (inl m) = not_both m (distinct_head x xs h)
    go (inr m) = apart x (mem-head x xs) m
