-- Keys in order: what strictly rising tells of members, places, joins and parts, and the keys of a list of entries.
-- Assumes nothing.
use Rattle.std.proofs.Common.{◌≡◌, ℕ, zero, suc, ◌+◌, ◌<◌, ◌≤◌, Bool, true, false, ◌&&◌, eqb, ltb, ◌⊎◌, List, [], ◌∷◌, ◌++◌, length, get_or, take, drop, refl, ap, inl, inr, le_of_suc-le-suc, not-suc-le-zero, arith, length-drop, take-append-drop, length-take, get_or-drop, get_or-take, ltb-false, ltb-true, lt-ltb, eqb-true}
use borrow.Author.Tests.{eqb-false}
use Rattle.rules.specs.Test.{all, mem, distinct}
use Rattle.rules.specs.Entry.{Entry, keys, rises_from, rising}
use Rattle.rules.proofs.Entries.Tests.{mem_index, and_left, and_right, and_of, fails, mem-nil, mem-head, mem_tail, mem_cases, mem-at, distinct_nil, distinct_cons}

-- ── Rising from a number ────────────────────────────────────────────────────────────────────────────────────────

pub rises-nil : (k : ℕ) → rises_from k [] ≡ true
unfolding rises_from
rises-nil k = refl

pub rises-head : (k x : ℕ) (xs : List ℕ) → rises_from k (x ∷ xs) ≡ true → k < x
unfolding rises_from
rises-head k x xs h = ltb-true k x (and_left (ltb k x) (rises_from x xs) h)

pub rises_tail : (k x : ℕ) (xs : List ℕ) → rises_from k (x ∷ xs) ≡ true → rises_from x xs ≡ true
unfolding rises_from
rises_tail k x xs h = and_right (ltb k x) (rises_from x xs) h

pub rises-cons : (k x : ℕ) (xs : List ℕ) → k < x → rises_from x xs ≡ true → rises_from k (x ∷ xs) ≡ true
unfolding rises_from
rises-cons k x xs p h = and_of (lt-ltb k x p) h

-- from a lower number too
pub rises-lower : (j k : ℕ) (xs : List ℕ) → j ≤ k → rises_from k xs ≡ true → rises_from j xs ≡ true
rises-lower j k [] p h = rises-nil j
rises-lower j k (x ∷ xs) p h = rises-cons j x xs (omega (arith, rises-head k x xs h)) (rises_tail k x xs h)

pub rises-mem : (k j : ℕ) (xs : List ℕ) → rises_from k xs ≡ true → mem j xs ≡ true → k < j
rises-mem k j [] h m = absurd (mem-nil j m)
rises-mem k j (x ∷ xs) h m =
    go (mem_cases j x xs m) (rises-mem k j xs (rises-lower k x xs (omega (arith, rises-head k x xs h)) (rises_tail k x xs h)))
  where
    go : (j ≡ x) ⊎ (mem j xs ≡ true) → (mem j xs ≡ true → k < j) → k < j
    go (inl e) ih = omega (arith, rises-head k x xs h)
    go (inr q) ih = ih q

-- ── Rising ──────────────────────────────────────────────────────────────────────────────────────────────────────

pub rising-nil : rising [] ≡ true
unfolding rising
rising-nil = refl

pub rising-from : (x : ℕ) (xs : List ℕ) → rising (x ∷ xs) ≡ true → rises_from x xs ≡ true
unfolding rising
rising-from x xs h = h

pub rising-of-from : (x : ℕ) (xs : List ℕ) → rises_from x xs ≡ true → rising (x ∷ xs) ≡ true
unfolding rising
rising-of-from x xs h = h

pub rising-of-rises : (k : ℕ) (xs : List ℕ) → rises_from k xs ≡ true → rising xs ≡ true
rising-of-rises k [] h = rising-nil
rising-of-rises k (x ∷ xs) h = rising-of-from x xs (rises_tail k x xs h)

pub rising_tail : (x : ℕ) (xs : List ℕ) → rising (x ∷ xs) ≡ true → rising xs ≡ true
rising_tail x xs h = rising-of-rises x xs (rising-from x xs h)

-- rising, and each above a number
pub rises-of : (k : ℕ) (xs : List ℕ) → rising xs ≡ true → ((j : ℕ) → mem j xs ≡ true → k < j) → rises_from k xs ≡ true
rises-of k [] h f = rises-nil k
rises-of k (x ∷ xs) h f = rises-cons k x xs (f x (mem-head x xs)) (rising-from x xs h)

pub rising-distinct : (xs : List ℕ) → rising xs ≡ true → distinct xs ≡ true
rising-distinct [] h = distinct_nil
rising-distinct (x ∷ xs) h =
    distinct_cons x xs
    (fails (mem x xs) (λ m. omega (arith, rises-mem x x xs (rising-from x xs h) m)))
    (rising-distinct xs (rising_tail x xs h))

-- ── Joins and parts ─────────────────────────────────────────────────────────────────────────────────────────────

pub rises-append-left : (k : ℕ) (xs ys : List ℕ) → rises_from k (xs ++ ys) ≡ true → rises_from k xs ≡ true
rises-append-left k [] ys h = rises-nil k
rises-append-left k (x ∷ xs) ys h =
    rises-cons k x xs (rises-head k x (xs ++ ys) h) (rises-append-left x xs ys (rises_tail k x (xs ++ ys) h))

pub rising-append-left : (xs ys : List ℕ) → rising (xs ++ ys) ≡ true → rising xs ≡ true
rising-append-left [] ys h = rising-nil
rising-append-left (x ∷ xs) ys h = rising-of-from x xs (rises-append-left x xs ys (rising-from x (xs ++ ys) h))

pub rises-append : (k : ℕ) (xs ys : List ℕ) → rises_from k xs ≡ true → rises_from k ys ≡ true
    → ((i j : ℕ) → mem i xs ≡ true → mem j ys ≡ true → i < j) → rises_from k (xs ++ ys) ≡ true
rises-append k [] ys h g f = g
rises-append k (x ∷ xs) ys h g f =
    rises-cons k x (xs ++ ys) (rises-head k x xs h)
    (rises-append x xs ys (rises_tail k x xs h)
    (rises-of x ys (rising-of-rises k ys g) (λ j m. f x j (mem-head x xs) m))
    (λ i j m. f i j (mem_tail i x xs m)))

pub rising-append : (xs ys : List ℕ) → rising xs ≡ true → rising ys ≡ true
    → ((i j : ℕ) → mem i xs ≡ true → mem j ys ≡ true → i < j) → rising (xs ++ ys) ≡ true
rising-append [] ys h g f = g
rising-append (x ∷ xs) ys h g f =
    rising-of-from x (xs ++ ys)
    (rises-append x xs ys (rising-from x xs h) (rises-of x ys g (λ j m. f x j (mem-head x xs) m))
    (λ i j m. f i j (mem_tail i x xs m)))

pub rising-take : (n : ℕ) (xs : List ℕ) → rising xs ≡ true → rising (take n xs) ≡ true
rising-take n xs h = rising-append-left (take n xs) (drop n xs) (rw take-append-drop h)

-- ── By places ───────────────────────────────────────────────────────────────────────────────────────────────────

pub rising-at : (xs : List ℕ) (i j d : ℕ) → rising xs ≡ true → i < j → j < length xs → get_or xs i d < get_or xs j d
rising-at [] i j d h p q = absurd (not-suc-le-zero q)
rising-at (x ∷ xs) i zero d h p q = absurd (not-suc-le-zero p)
rising-at (x ∷ xs) zero (suc j) d h p q =
    rises-mem x (get_or xs j d) xs (rising-from x xs h) (mem-at xs j d (le_of_suc-le-suc q))
rising-at (x ∷ xs) (suc i) (suc j) d h p q =
    rising-at xs i j d (rising_tail x xs h) (le_of_suc-le-suc p) (le_of_suc-le-suc q)

pub rising-at-le : (xs : List ℕ) (i j d : ℕ) → rising xs ≡ true → i ≤ j → j < length xs → get_or xs i d ≤ get_or xs j d
rising-at-le xs i j d h p q = go (ltb i j) refl
  where
    go : (b : Bool) → ltb i j ≡ b → get_or xs i d ≤ get_or xs j d
    go true e = omega (arith, rising-at xs i j d h (ltb-true i j e) q)
    go false e =
        let s : i ≡ j = omega (arith, ltb-false i j e) in
        omega (arith, ap (λ (k : ℕ). get_or xs k d) s)

-- what stands before a place is below what stands there, and what stands from there on is not
pub rising-before : (xs : List ℕ) (i j d : ℕ) → rising xs ≡ true → i < length xs → mem j (take i xs) ≡ true → j < get_or xs i d
rising-before xs i j d h p m =
    let r = mem_index j (take i xs) d m in
    let a : r.0 < i = omega (arith, r.1, length-take i xs) in
    omega (arith, rising-at xs r.0 i d h a p, r.2, get_or-take i xs r.0 d a)

pub rising-behind : (xs : List ℕ) (i j d : ℕ) → rising xs ≡ true → mem j (drop i xs) ≡ true → get_or xs i d ≤ j
rising-behind xs i j d h m =
    let r = mem_index j (drop i xs) d m in
    omega (arith, rising-at-le xs i (i + r.0) d h (omega arith) (omega (arith, r.1, length-drop i xs)), r.2, get_or-drop i xs r.0 d)

-- what rises is no longer than what rises too and has all of it
pub length_among : (xs ys : List ℕ) → rising xs ≡ true → rising ys ≡ true → ((k : ℕ) → mem k xs ≡ true → mem k ys ≡ true)
    → length xs ≤ length ys
length_among [] ys a b f = omega arith
length_among (x ∷ xs) [] a b f = absurd (mem-nil x (f x (mem-head x xs)))
length_among (x ∷ xs) (y ∷ ys) a b f =
    go (eqb x y) refl (length_among xs ys (rising_tail x xs a) (rising_tail y ys b))
    (length_among (x ∷ xs) ys a (rising_tail y ys b))
  where
    behind : (k : ℕ) → y < k → mem k (y ∷ ys) ≡ true → mem k ys ≡ true
    behind k h m = pass (mem_cases k y ys m)
      where
        pass : (k ≡ y) ⊎ (mem k ys ≡ true) → mem k ys ≡ true
        pass (inl e) = absurd (omega (arith, e))
        pass (inr n) = n

    above : (x ≡ y → ⊥) → (x ≡ y) ⊎ (mem x ys ≡ true) → y < x
    above d (inl e) = absurd (d e)
    above d (inr m) = rises-mem y x ys (rising-from y ys b) m

    later : y < x → (k : ℕ) → (k ≡ x) ⊎ (mem k xs ≡ true) → y < k
    later h k (inl e) = omega (arith, e)
    later h k (inr m) = omega (arith, rises-mem x k xs (rising-from x xs a) m)

    go : (t : Bool) → eqb x y ≡ t → (((k : ℕ) → mem k xs ≡ true → mem k ys ≡ true) → length xs ≤ length ys)
        → (((k : ℕ) → mem k (x ∷ xs) ≡ true → mem k ys ≡ true) → suc (length xs) ≤ length ys) → suc (length xs) ≤ suc (length ys)
    go true e both rest =
        let q = eqb-true x y e in
        omega (
          arith,
          both (λ k m.
              behind k (omega (arith, q, rises-mem x k xs (rising-from x xs a) m)) (f k (mem_tail k x xs m))),
        )
    go false e both rest =
        let h = above (eqb-false x y e) (mem_cases x y ys (f x (mem-head x xs))) in
        omega (arith, rest (λ k m. behind k (later h k (mem_cases k x xs m)) (f k m)))

-- ── The keys of entries ─────────────────────────────────────────────────────────────────────────────────────────

module _ {B : Type 0} where
  pub length-keys : (xs : List (Entry B)) → length (keys xs) ≡ length xs
  unfolding keys
  length-keys [] = refl
  length-keys (x ∷ xs) = ap suc (length-keys xs)

  pub get_d_keys : (xs : List (Entry B)) (i : ℕ) (d : Entry B) → get_or (keys xs) i d.key ≡ (get_or xs i d).key
  unfolding keys
  get_d_keys [] i d = refl
  get_d_keys (x ∷ xs) zero d = refl
  get_d_keys (x ∷ xs) (suc i) d = get_d_keys xs i d

  pub keys-append : (xs ys : List (Entry B)) → keys (xs ++ ys) ≡ keys xs ++ keys ys
  unfolding keys
  keys-append [] ys = refl
  keys-append (x ∷ xs) ys = ap (λ (ks : List ℕ). x.key ∷ ks) (keys-append xs ys)

  pub keys-take : (n : ℕ) (xs : List (Entry B)) → keys (take n xs) ≡ take n (keys xs)
  unfolding keys
  keys-take zero xs = refl
  keys-take (suc n) [] = refl
  keys-take (suc n) (x ∷ xs) = ap (λ (ks : List ℕ). x.key ∷ ks) (keys-take n xs)

  pub keys-drop : (n : ℕ) (xs : List (Entry B)) → keys (drop n xs) ≡ drop n (keys xs)
  unfolding keys
  keys-drop zero xs = refl
  keys-drop (suc n) [] = refl
  keys-drop (suc n) (x ∷ xs) = keys-drop n xs

  -- a test of the keys is a test of the entries
  pub all-keys : (p : ℕ → Bool) (xs : List (Entry B)) → all p (keys xs) ≡ all (λ x. p x.key) xs
  unfolding keys all
  all-keys p [] = refl
  all-keys p (x ∷ xs) = ap (λ (b : Bool). p x.key && b) (all-keys p xs)
