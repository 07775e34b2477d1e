-- Where an entry is put among others, at the spot of its key, or over the one of the same key; and where one is taken out.
-- Assumes nothing.
use mathlib.Core.Path.{◌≡◌, refl}
use mathlib.Core.Bool.{Bool, true, false}
use mathlib.Core.List.{List, [], ◌∷◌, ◌++◌}
use Prim.Native.Nat.{ℕ, suc, ◌-◌, ◌≤◌, ◌<◌}
use native.Mathlib.Omega.{arith}
use borrow.Author.Tests.{ltb-true, ltb-false, eqb-true, eqb-false, le-ltb}
use lib.Dec.{ltb, eqb}
use lib.ListN.{length, take, drop}
use Rattle.rules.specs.Test.{mem}
use Rattle.rules.specs.Entry.{Entry, keys, put, without, rises_from, rising}
use Rattle.entries.specs.Spot.{spot_of}
use Rattle.rules.proofs.Entries.Rises.{rises-head, rises-mem, rising-from, rising-of-rises}
use Rattle.rules.proofs.Entries.Tests.{or_none}
use Rattle.rules.proofs.Entries.Withouts.{without-head, without_tail}
use Rattle.entries.proofs.Cut.{spot-cons, spot-first}

spot-above : (k : ℕ) (xs : List ℕ) → rises_from k xs ≡ true → spot_of k xs ≡ 0
unfolding spot_of
spot-above k [] r = refl
spot-above k (x ∷ xs) r = spot-first k x xs (rises-head k x xs r)

-- a key among rising ones is the last one that is not above it
pub spot-present : (k : ℕ) (xs : List ℕ) → mem k xs ≡ true → rising xs ≡ true → 0 < spot_of k xs
unfolding mem
spot-present k [] m r = absurd (let z : ◌≡◌ {A = ℕ} 0 1 = cc in omega arith)
spot-present k (x ∷ xs) m r = go (eqb k x) refl
  where
    go : (t : Bool) → eqb k x ≡ t → 0 < spot_of k (x ∷ xs)
    go true e = omega (arith, spot-cons k x xs (omega (arith, eqb-true k x e)))
    go false e = omega (arith, spot-cons k x xs (omega (arith, rises-mem x k xs (rising-from x xs r) (rw (mem, e) at m))))

module _ {B : Type 0} (x : Entry B) where
  pub put-absent : (ys : List (Entry B)) → mem x.key (keys ys) ≡ false
      → put x ys ≡ take (spot_of x.key (keys ys)) ys ++ (x ∷ drop (spot_of x.key (keys ys)) ys)
  unfolding put keys mem spot_of
  put-absent [] h = refl
  put-absent (y ∷ ys) h = go (ltb x.key y.key) refl (put-absent ys (or_none (eqb x.key y.key) (mem x.key (keys ys)) h).1)
    where
      go : (t : Bool) → ltb x.key y.key ≡ t
          → put x ys ≡ take (spot_of x.key (keys ys)) ys ++ (x ∷ drop (spot_of x.key (keys ys)) ys)
          → put x (y ∷ ys) ≡ take (spot_of x.key (keys (y ∷ ys))) (y ∷ ys) ++ (x ∷ drop (spot_of x.key (keys (y ∷ ys))) (y ∷ ys))
      go true e ih = rw (put, e, spot-first x.key y.key (keys ys) (ltb-true x.key y.key e))
      go false e ih =
          rw (put, e, (or_none (eqb x.key y.key) (mem x.key (keys ys)) h).0, spot-cons x.key y.key (keys ys) (ltb-false x.key y.key e), ih)

  -- over an entry of the same key
  pub put-present : (ys : List (Entry B)) → mem x.key (keys ys) ≡ true → rising (keys ys) ≡ true
      → put x ys ≡ take (spot_of x.key (keys ys) - 1) ys ++ (x ∷ drop (spot_of x.key (keys ys)) ys)
  unfolding put keys mem
  put-present [] m r = absurd (let z : ◌≡◌ {A = ℕ} 0 1 = cc in omega arith)
  put-present (y ∷ ys) m r = go (eqb x.key y.key) refl (put-present ys)
    where
      rises : rises_from y.key (keys ys) ≡ true
      rises = rising-from y.key (keys ys) r

      go : (t : Bool) → eqb x.key y.key ≡ t
          → (mem x.key (keys ys) ≡ true → rising (keys ys) ≡ true → put x ys ≡ take (spot_of x.key (keys ys) - 1) ys ++ (x ∷ drop (spot_of x.key (keys ys)) ys))
          → put x (y ∷ ys) ≡ take (spot_of x.key (y.key ∷ keys ys) - 1) (y ∷ ys) ++ (x ∷ drop (spot_of x.key (y.key ∷ keys ys)) (y ∷ ys))
      go true e ih =
          let f = eqb-true x.key y.key e in
          let s : spot_of x.key (y.key ∷ keys ys) ≡ 1 = omega (arith, spot-cons x.key y.key (keys ys) (omega arith), spot-above x.key (keys ys) (rw f rises)) in
          rw (put, le-ltb x.key y.key (omega arith), e, s)
      go false e ih =
          let n : mem x.key (keys ys) ≡ true = rw (mem, e) at m in
          let q = rising-of-rises y.key (keys ys) rises in
          let a = rises-mem y.key x.key (keys ys) rises n in
          let p : spot_of x.key (keys ys) ≡ suc (spot_of x.key (keys ys) - 1) = omega (arith, spot-present x.key (keys ys) n q) in
          let s : spot_of x.key (y.key ∷ keys ys) - 1 ≡ suc (spot_of x.key (keys ys) - 1) = omega (arith, spot-cons x.key y.key (keys ys) (omega arith)) in
          rw (put, le-ltb x.key y.key (omega arith), e, s, spot-cons x.key y.key (keys ys) (omega arith), ih n q)

  -- it gives way: the keys stay
  pub keys-present : (ys : List (Entry B)) → mem x.key (keys ys) ≡ true → rising (keys ys) ≡ true → keys (put x ys) ≡ keys ys
  unfolding put keys mem
  keys-present [] m r = absurd (let z : ◌≡◌ {A = ℕ} 0 1 = cc in omega arith)
  keys-present (y ∷ ys) m r = go (eqb x.key y.key) refl (keys-present ys)
    where
      rises : rises_from y.key (keys ys) ≡ true
      rises = rising-from y.key (keys ys) r

      go : (t : Bool) → eqb x.key y.key ≡ t
          → (mem x.key (keys ys) ≡ true → rising (keys ys) ≡ true → keys (put x ys) ≡ keys ys)
          → keys (put x (y ∷ ys)) ≡ keys (y ∷ ys)
      go true e ih =
          let f = eqb-true x.key y.key e in
          rw (put, le-ltb x.key y.key (omega arith), e, f)
      go false e ih =
          let n : mem x.key (keys ys) ≡ true = rw (mem, e) at m in
          let a = rises-mem y.key x.key (keys ys) rises n in
          rw (put, le-ltb x.key y.key (omega arith), e, ih n (rising-of-rises y.key (keys ys) rises))

  -- an entry put among others takes none of them away but one of its own key
  pub length-put : (ys : List (Entry B)) → length ys ≤ length (put x ys)
  unfolding put
  length-put [] = omega arith
  length-put (y ∷ ys) = go (ltb x.key y.key) (eqb x.key y.key) (length-put ys)
    where
      go : (t u : Bool) → length ys ≤ length (put x ys)
          → suc (length ys) ≤ length {A = Entry B} (elim t [ true ↦ x ∷ (y ∷ ys) | false ↦ elim u [ true ↦ x ∷ ys | false ↦ y ∷ put x ys ] ])
      go true u h = omega arith
      go false true h = omega arith
      go false false h = omega arith

-- the entry of a key is the one before the key's spot
pub without-present : {B : Type 0} (k : ℕ) (ys : List (Entry B)) → mem k (keys ys) ≡ true → rising (keys ys) ≡ true
    → without k ys ≡ take (spot_of k (keys ys) - 1) ys ++ drop (spot_of k (keys ys)) ys
unfolding keys mem
without-present k [] m r = absurd (let z : ◌≡◌ {A = ℕ} 0 1 = cc in omega arith)
without-present {B} k (y ∷ ys) m r = go (eqb k y.key) refl (without-present k ys)
  where
    rises : rises_from y.key (keys ys) ≡ true
    rises = rising-from y.key (keys ys) r

    go : (t : Bool) → eqb k y.key ≡ t
        → (mem k (keys ys) ≡ true → rising (keys ys) ≡ true → without k ys ≡ take (spot_of k (keys ys) - 1) ys ++ drop (spot_of k (keys ys)) ys)
        → without k (y ∷ ys) ≡ take (spot_of k (y.key ∷ keys ys) - 1) (y ∷ ys) ++ drop (spot_of k (y.key ∷ keys ys)) (y ∷ ys)
    go true e ih =
        let f = eqb-true k y.key e in
        let s : spot_of k (y.key ∷ keys ys) ≡ 1 = omega (arith, spot-cons k y.key (keys ys) (omega arith), spot-above k (keys ys) (rw f rises)) in
        rw (without-head k y ys f, s)
    go false e ih =
        let n : mem k (keys ys) ≡ true = rw (mem, e) at m in
        let q = rising-of-rises y.key (keys ys) rises in
        let a = rises-mem y.key k (keys ys) rises n in
        let p : spot_of k (keys ys) ≡ suc (spot_of k (keys ys) - 1) = omega (arith, spot-present k (keys ys) n q) in
        let s : spot_of k (y.key ∷ keys ys) - 1 ≡ suc (spot_of k (keys ys) - 1) = omega (arith, spot-cons k y.key (keys ys) (omega arith)) in
        rw (without_tail k y ys (eqb-false k y.key e), s, spot-cons k y.key (keys ys) (omega arith), ih n q)
