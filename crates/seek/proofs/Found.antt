-- What the spot of a key finds: in a leaf the entry before it, if it has the key; in an inner page the place that the
-- entry before it asks for. Assumes nothing.
use mathlib.Core.Path.{◌≡◌, refl, sym, ap, ◌∙◌}
use mathlib.Core.Bool.{Bool, true, false}
use mathlib.Core.List.{List, [], ◌∷◌}
use mathlib.Core.Option.{some, none}
use Prim.Native.Nat.{ℕ, zero, suc, ◌-◌, ◌≤◌, ◌<◌}
use native.Mathlib.Omega.{arith}
use borrow.Author.Tests.{leb-true, leb-false}
use lib.Dec.{leb}
use lib.ListN.{get_or}
use Rattle.rules.specs.Test.{between}
use Rattle.rules.specs.Entry.{Entry, Child, keys, find, rising}
use Rattle.rules.specs.Place.{high_before, place_of, places_in, pick}
use Rattle.rules.specs.declared.Place.{Place}
use Rattle.rules.proofs.Entries.Rises.{rises-head, rising-from, rising_tail, length-keys}
use Rattle.rules.proofs.Entries.Entries.{find_tail, find-below, find_at}
use Rattle.rules.proofs.Entries.Tests.{between-above}
use Rattle.rules.proofs.Entries.Picks.{pick-here, pick-later}
use Rattle.entries.specs.Spot.{spot_of}
use Rattle.entries.proofs.Cut.{spot-cons, spot-first}
use Rattle.entries.proofs.KeysIn.{spot-bound}

-- ── The spot among one entry and others ─────────────────────────────────────────────────────────────────────────

spot-zero : (k x : ℕ) (xs : List ℕ) → spot_of k (x ∷ xs) ≡ 0 → k < x
spot-zero k x xs h = go (leb x k) refl
  where
    go : (t : Bool) → leb x k ≡ t → k < x
    go true e = absurd (omega (arith, h, spot-cons k x xs (leb-true x k e)))
    go false e = leb-false x k e

spot-suc : (k x j : ℕ) (xs : List ℕ) → spot_of k (x ∷ xs) ≡ suc j → (x ≤ k) × (spot_of k xs ≡ j)
spot-suc k x j xs h = go (leb x k) refl
  where
    go : (t : Bool) → leb x k ≡ t → (x ≤ k) × (spot_of k xs ≡ j)
    go true e = (leb-true x k e, omega (arith, h, spot-cons k x xs (leb-true x k e)))
    go false e = absurd (omega (arith, h, spot-first k x xs (leb-false x k e)))

spot-nil : (k : ℕ) → spot_of k [] ≡ 0
unfolding spot_of
spot-nil k = refl

-- ── In a leaf ───────────────────────────────────────────────────────────────────────────────────────────────────

module _ {B : Type 0} where
  find-nil : (k : ℕ) → find {B = B} k [] ≡ none
  unfolding find
  find-nil k = refl

  -- before the first entry stands nothing
  pub find-before : (k : ℕ) (xs : List (Entry B)) → rising (keys xs) ≡ true → spot_of k (keys xs) ≡ 0 → find k xs ≡ none
  unfolding keys
  find-before k [] r h = find-nil k
  find-before k (x ∷ xs) r h =
      let l = spot-zero k x.key (keys xs) h in
      find_tail k x xs (λ e. omega (arith, l)) ∙ find-below x.key k xs (rising-from x.key (keys xs) r) (omega arith)

  -- the entry before the spot has the key
  pub find-spot : (k j : ℕ) (xs : List (Entry B)) (d : Entry B) → rising (keys xs) ≡ true → spot_of k (keys xs) ≡ suc j
      → (get_or xs j d).key ≡ k → find k xs ≡ some (get_or xs j d).value
  find-spot k j xs d r h e =
      ap (λ (i : ℕ). find i xs) (sym e) ∙ find_at xs j d r (omega (arith, h, spot-bound k (keys xs), length-keys xs))

  -- or no entry has it
  pub find_absent : (k j : ℕ) (xs : List (Entry B)) (d : Entry B) → rising (keys xs) ≡ true → spot_of k (keys xs) ≡ suc j
      → ((get_or xs j d).key ≡ k → ⊥) → find k xs ≡ none
  unfolding keys
  find_absent k j [] d r h o = find-nil k
  find_absent k zero (x ∷ xs) d r h o =
      let s = spot-suc k x.key zero (keys xs) h in
      find_tail k x xs (λ e. o (sym e)) ∙ find-before k xs (rising_tail x.key (keys xs) r) s.1
  find_absent k (suc j) (x ∷ xs) d r h o =
      let s = spot-suc k x.key (suc j) (keys xs) h in
      find_tail k x xs (other xs r s.1) ∙ find_absent k j xs d (rising_tail x.key (keys xs) r) s.1 o
    where
      other : (ys : List (Entry B)) → rising (x.key ∷ keys ys) ≡ true → spot_of k (keys ys) ≡ suc j → k ≡ x.key → ⊥
      other [] r s e = omega (arith, s, spot-nil k)
      other (y ∷ ys) r s e =
          let up = rises-head x.key y.key (keys ys) (rising-from x.key (y.key ∷ keys ys) r) in
          omega (arith, up, e, (spot-suc k y.key j (keys ys) s).0)

-- ── In an inner page ────────────────────────────────────────────────────────────────────────────────────────────

-- the place that the entry before the spot asks for
pub pick-spot : (want high k j : ℕ) (xs : List Child) (d : Place) → rising (keys xs) ≡ true → k ≤ high
    → spot_of k (keys xs) ≡ suc j → pick k (places_in want high xs) ≡ some (get_or (places_in want high xs) j d)
unfolding places_in keys place_of high_before
pick-spot want high k j [] d r q h = absurd (omega (arith, h, spot-nil k))
pick-spot want high k zero (x ∷ xs) d r q h =
    let s = spot-suc k x.key zero (keys xs) h in
    pick-here k (place_of want (high_before high xs) x) (places_in want high xs) s.0 (last xs s.1)
  where
    last : (ys : List Child) → spot_of k (keys ys) ≡ 0 → k ≤ high_before high ys
    last [] s = q
    last (y ∷ ys) s = omega (arith, spot-zero k y.key (keys ys) s)
pick-spot want high k (suc j) (x ∷ xs) d r q h =
    let s = spot-suc k x.key (suc j) (keys xs) h in
    pick-later k (place_of want (high_before high xs) x) (places_in want high xs) (past xs r s.1)
    ∙ pick-spot want high k j xs d (rising_tail x.key (keys xs) r) q s.1
  where
    past : (ys : List Child) → rising (x.key ∷ keys ys) ≡ true → spot_of k (keys ys) ≡ suc j
        → between x.key (high_before high ys) k ≡ false
    past [] r s = absurd (omega (arith, s, spot-nil k))
    past (y ∷ ys) r s =
        let up = rises-head x.key y.key (keys ys) (rising-from x.key (y.key ∷ keys ys) r) in
        between-above x.key (y.key - 1) k (omega (arith, up, (spot-suc k y.key j (keys ys) s).0))

-- the same, told by the spot itself
pub pick_at : (want high k s : ℕ) (xs : List Child) (d : Place) → rising (keys xs) ≡ true → k ≤ high → 1 ≤ s
    → spot_of k (keys xs) ≡ s → pick k (places_in want high xs) ≡ some (get_or (places_in want high xs) (s - 1) d)
pick_at want high k zero xs d r q o h = absurd (omega arith)
pick_at want high k (suc j) xs d r q o h = let e : suc j - 1 ≡ j = omega arith in rw e (pick-spot want high k j xs d r q h)
