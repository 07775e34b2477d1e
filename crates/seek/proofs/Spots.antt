-- One comparison with a key bounds the spot: from below where keys rise, from above always. Assumes nothing.
use mathlib.Core.Path.{◌≡◌, refl, sym, ◌∙◌}
use mathlib.Core.Bool.{Bool, true, false}
use mathlib.Core.List.{List, [], ◌∷◌}
use Prim.Native.Nat.{ℕ, zero, suc, ◌-◌, ◌≤◌, ◌<◌}
use native.Mathlib.Omega.{arith}
use borrow.Author.Tests.{leb-true, leb-false, le-leb, lt-leb, ltb-true, ltb-false, eq-eqb, ne_eqb}
use lib.Dec.{leb, ltb, eqb}
use lib.ListN.{length, get_or}
use Rattle.rules.specs.Entry.{rising}
use Rattle.rules.proofs.Entries.Rises.{rising_tail, rising-at-le}
use Rattle.entries.specs.Spot.{spot_of}
use Rattle.entries.proofs.Cut.{spot-cons, spot-first}
use Rattle.entries.proofs.KeysIn.{spot-bound}

-- a key that is not above k, with all before it
pub spot-above : (k j : ℕ) (ks : List ℕ) → rising ks ≡ true → j < length ks → get_or ks j 0 ≤ k → j < spot_of k ks
spot-above k j [] r h l = absurd (omega arith)
spot-above k zero (x ∷ xs) r h l = rw (spot-cons k x xs l) (omega arith)
spot-above k (suc j) (x ∷ xs) r h l =
    let first : x ≤ get_or (x ∷ xs) (suc j) 0 = rising-at-le (x ∷ xs) zero (suc j) 0 r (omega arith) h in
    let rest = spot-above k j xs (rising_tail x xs r) (omega arith) l in
    rw (spot-cons k x xs (omega arith)) (omega arith)

-- a key above k ends the count
pub spot-below : (k j : ℕ) (ks : List ℕ) → j < length ks → k < get_or ks j 0 → spot_of k ks ≤ j
spot-below k j [] h l = absurd (omega arith)
spot-below k zero (x ∷ xs) h l = rw (spot-first k x xs l) (omega arith)
spot-below k (suc j) (x ∷ xs) h l = go (leb x k) refl (spot-below k j xs (omega arith) l)
  where
    go : (t : Bool) → leb x k ≡ t → spot_of k xs ≤ j → spot_of k (x ∷ xs) ≤ suc j
    go true e ih = rw (spot-cons k x xs (leb-true x k e)) (omega arith)
    go false e ih = rw (spot-first k x xs (leb-false x k e)) (omega arith)

-- ── A number of entries beside the spot ─────────────────────────────────────────────────────────────────────────

module _ (k s : ℕ) (ks : List ℕ) where
  pub beyond_all : length ks < s → false ≡ eqb s (spot_of k ks)
  beyond_all h = sym (ne_eqb s (spot_of k ks) (λ q. omega (arith, q, spot-bound k ks)))

  -- no entry is always passed
  pub reached-none : s ≡ 0 → true ≡ leb s (spot_of k ks)
  reached-none z = sym (le-leb s (spot_of k ks) (omega arith))

  pub reached-last : rising ks ≡ true → s ≤ length ks → (s ≡ 0 → ⊥) → leb (get_or ks (s - 1) 0) k ≡ leb s (spot_of k ks)
  reached-last r h o = go (leb (get_or ks (s - 1) 0) k) refl
    where
      go : (t : Bool) → leb (get_or ks (s - 1) 0) k ≡ t → leb (get_or ks (s - 1) 0) k ≡ leb s (spot_of k ks)
      go true q =
          let up = spot-above k (s - 1) ks r (omega arith) (leb-true (get_or ks (s - 1) 0) k q) in
          q ∙ sym (le-leb s (spot_of k ks) (omega (arith, up)))
      go false q =
          let down = spot-below k (s - 1) ks (omega arith) (leb-false (get_or ks (s - 1) 0) k q) in
          q ∙ sym (lt-leb s (spot_of k ks) (omega (arith, down)))

  pub not_reached : leb s (spot_of k ks) ≡ false → false ≡ eqb s (spot_of k ks)
  not_reached f = sym (ne_eqb s (spot_of k ks) (λ q. omega (arith, q, leb-false s (spot_of k ks) f)))

  module _ (f : leb s (spot_of k ks) ≡ true) where
    least : s ≤ spot_of k ks
    least = leb-true s (spot_of k ks) f

    pub reached-all : s ≡ length ks → true ≡ eqb s (spot_of k ks)
    reached-all q = sym (eq-eqb s (spot_of k ks) (omega (arith, least, spot-bound k ks)))

    -- the next entry decides
    pub reached-next : rising ks ≡ true → s < length ks → ltb k (get_or ks s 0) ≡ eqb s (spot_of k ks)
    reached-next r h = go (ltb k (get_or ks s 0)) refl
      where
        go : (t : Bool) → ltb k (get_or ks s 0) ≡ t → ltb k (get_or ks s 0) ≡ eqb s (spot_of k ks)
        go true q =
            let down = spot-below k s ks h (ltb-true k (get_or ks s 0) q) in
            q ∙ sym (eq-eqb s (spot_of k ks) (omega (arith, least, down)))
        go false q =
            let up = spot-above k s ks r h (ltb-false k (get_or ks s 0) q) in
            q ∙ sym (ne_eqb s (spot_of k ks) (λ z. omega (arith, z, up)))
