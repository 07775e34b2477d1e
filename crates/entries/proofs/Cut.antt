-- The entries with keys in a range are a range by index, where keys rise.
-- Assumes nothing.
use mathlib.Core.Path.{◌≡◌, refl, sym, ap}
use mathlib.Core.Bool.{Bool, true, false}
use mathlib.Core.List.{List, [], ◌∷◌}
use Prim.Native.Nat.{ℕ, zero, suc, ◌-◌, ◌≤◌, ◌<◌}
use native.Mathlib.Nat.{zero-sub, sub-zero, suc-sub-suc}
use native.Mathlib.Omega.{arith}
use borrow.Author.Tests.{le-leb, lt-leb, leb-true, leb-false}
use lib.Dec.{leb}
use lib.ListN.{take, drop}
use lib.Seq.{take-nil, drop-nil}
use Rattle.rules.specs.Entry.{Entry, keys, cut, rises_from, rising}
use Rattle.rules.proofs.Entries.Tests.{between-of, between-above, between-below}
use Rattle.rules.proofs.Entries.Rises.{rises-head, rises_tail, rising-from, rising-of-rises}
use Rattle.entries.specs.Spot.{spot_of, start_of}

-- ── A key passed, or not ────────────────────────────────────────────────────────────────────────────────────────

pub spot-cons : (k x : ℕ) (xs : List ℕ) → x ≤ k → spot_of k (x ∷ xs) ≡ suc (spot_of k xs)
unfolding spot_of
spot-cons k x xs h = rw (spot_of, le-leb x k h) (omega arith)

pub spot-first : (k x : ℕ) (xs : List ℕ) → k < x → spot_of k (x ∷ xs) ≡ 0
unfolding spot_of
spot-first k x xs h = rw (spot_of, lt-leb x k h)

pub start-spot : (low : ℕ) (ks : List ℕ) → 0 < low → start_of low ks ≡ spot_of (low - 1) ks
unfolding start_of
start-spot zero ks h = absurd (omega arith)
start-spot (suc l) ks h = ap (λ (n : ℕ). spot_of n ks) (omega arith)

pub start-cons : (low x : ℕ) (xs : List ℕ) → x < low → start_of low (x ∷ xs) ≡ suc (start_of low xs)
unfolding start_of
start-cons zero x xs h = absurd (omega arith)
start-cons (suc l) x xs h = spot-cons l x xs (omega arith)

pub start_first : (low x : ℕ) (xs : List ℕ) → low ≤ x → start_of low (x ∷ xs) ≡ 0
unfolding start_of
start_first zero x xs h = refl
start_first (suc l) x xs h = spot-first l x xs (omega arith)

start-nil : (low : ℕ) → start_of low [] ≡ 0
unfolding start_of spot_of
start-nil zero = refl
start-nil (suc l) = refl

-- keys above a number that is not below low are none of those before low
start-above : (low k : ℕ) (xs : List ℕ) → low ≤ k → rises_from k xs ≡ true → start_of low xs ≡ 0
start-above low k [] h r = start-nil low
start-above low k (x ∷ xs) h r = start_first low x xs (omega (arith, rises-head k x xs r))

-- ── An entry in the range, or not ───────────────────────────────────────────────────────────────────────────────

module _ {B : Type 0} where
  cut-above : (low high k : ℕ) (xs : List (Entry B)) → high ≤ k → rises_from k (keys xs) ≡ true → cut low high xs ≡ []
  unfolding cut keys
  cut-above low high k [] h r = refl
  cut-above low high k (x ∷ xs) h r =
      let above = rises-head k x.key (keys xs) r in
      rw (cut, between-above low high x.key (omega arith)) (cut-above low high x.key xs (omega arith) (rises_tail k x.key (keys xs) r))

  pub cut_range : (low high : ℕ) (xs : List (Entry B)) → rising (keys xs) ≡ true
      → cut low high xs ≡ take (spot_of high (keys xs) - start_of low (keys xs)) (drop (start_of low (keys xs)) xs)
  unfolding cut keys
  cut_range low high [] r = rw (drop-nil {A = Entry B} (start_of low [])) (sym (take-nil {A = Entry B} (spot_of high [] - start_of low [])))
  cut_range low high (x ∷ xs) r = go (leb x.key high) refl (leb low x.key) refl (cut_range low high xs (rising-of-rises x.key (keys xs) (rising-from x.key (keys xs) r)))
    where
      go : (t : Bool) → leb x.key high ≡ t → (u : Bool) → leb low x.key ≡ u
          → cut low high xs ≡ take (spot_of high (keys xs) - start_of low (keys xs)) (drop (start_of low (keys xs)) xs)
          → cut low high (x ∷ xs) ≡ take (spot_of high (x.key ∷ keys xs) - start_of low (x.key ∷ keys xs)) (drop (start_of low (x.key ∷ keys xs)) (x ∷ xs))
      go false e u f ih =
          rw (cut, between-above low high x.key (leb-false x.key high e), spot-first high x.key (keys xs) (leb-false x.key high e), zero-sub)
          (cut-above low high x.key xs (omega (arith, leb-false x.key high e)) (rising-from x.key (keys xs) r))
      go true e true f ih =
          rw (cut, between-of low high x.key (leb-true low x.key f) (leb-true x.key high e), spot-cons high x.key (keys xs) (leb-true x.key high e), start_first low x.key (keys xs) (leb-true low x.key f), sub-zero, ih, start-above low x.key (keys xs) (leb-true low x.key f) (rising-from x.key (keys xs) r), sub-zero)
      go true e false f ih =
          rw (cut, between-below low high x.key (leb-false low x.key f), spot-cons high x.key (keys xs) (leb-true x.key high e), start-cons low x.key (keys xs) (leb-false low x.key f), suc-sub-suc, ih)
