-- What keys stand under, and places in it. Assumes nothing.
use mathlib.Core.Path.{◌≡◌, refl, sym, ◌∙◌}
use mathlib.Core.Bool.{Bool, true, false}
use mathlib.Core.List.{List, [], ◌∷◌}
use Prim.Native.Nat.{ℕ, zero, suc, ◌+◌, ◌/◌, ◌%◌, ◌≤◌, ◌<◌}
use native.Mathlib.Nat.{div-add-mod', mod-lt, not-suc-le-zero, le_of_suc-le-suc}
use native.Mathlib.Omega.{arith}
use borrow.Author.Tests.{ltb-true, leb-true, leb-false, eqb-true, eqb-false, eq-eqb, ne_eqb}
use lib.Arith.{digits_lt}
use lib.Dec.{leb, ltb, eqb}
use lib.ListN.{length, get_or}
use Rattle.rules.specs.Test.{all}
use Rattle.rules.specs.Entry.{rising, rises_from}
use Rattle.rules.proofs.Entries.Tests.{all_head, all_tail, all_nil, all_cons, mem-at}
use Rattle.rules.proofs.Entries.Rises.{rises-nil, rises-head, rises_tail, rises-cons, rises-mem, rising-from, rising_tail}
use Rattle.exchange.specs.Written.{over_from, place_in, roof}

-- ── Quotients ───────────────────────────────────────────────────────────────────────────────────────────────────

pub div_le : (b j k : ℕ) → 0 < b → j ≤ k → j / b ≤ k / b
div_le b j k p h = go (leb (j / b) (k / b)) refl
  where
    go : (t : Bool) → leb (j / b) (k / b) ≡ t → j / b ≤ k / b
    go true e = leb-true (j / b) (k / b) e
    go false e =
        absurd (omega (arith, digits_lt {q = k / b} {m = j / b} {r = k % b} {c = b} (leb-false (j / b) (k / b) e) (mod-lt k p), div-add-mod' k b, div-add-mod' j b))

-- ── Places ──────────────────────────────────────────────────────────────────────────────────────────────────────

-- each stands first at its own place
abbrev pub Placed : List ℕ → Type 0
Placed ps = (i : ℕ) → i < length ps → place_in (get_or ps i 0) ps ≡ i

pub placed_rising : (ps : List ℕ) → rising ps ≡ true → Placed ps
unfolding place_in
placed_rising [] h i p = absurd (not-suc-le-zero p)
placed_rising (y ∷ ys) h zero p = rw (place_in, eq-eqb y y refl)
placed_rising (y ∷ ys) h (suc i) p =
    let q = le_of_suc-le-suc p in
    let m = rises-mem y (get_or ys i 0) ys (rising-from y ys h) (mem-at ys i 0 q) in
    rw (place_in, ne_eqb (get_or ys i 0) y (λ e. omega arith), placed_rising ys (rising_tail y ys h) i q)

pub placed_roof : Placed roof
unfolding roof place_in
placed_roof zero p = refl
placed_roof (suc i) p = absurd (not-suc-le-zero (le_of_suc-le-suc p))

-- ── What keys stand under ───────────────────────────────────────────────────────────────────────────────────────

module _ (b : ℕ) where
  pub over-same : (last k : ℕ) (ks : List ℕ) → last ≡ k / b → over_from b last (k ∷ ks) ≡ over_from b last ks
  unfolding over_from
  over-same last k ks e = rw (over_from, eq-eqb last (k / b) e)

  pub over-next : (last k : ℕ) (ks : List ℕ) → (last ≡ k / b → ⊥) → over_from b last (k ∷ ks) ≡ k / b ∷ over_from b (k / b) ks
  unfolding over_from
  over-next last k ks e = rw (over_from, ne_eqb last (k / b) e)

  pub over-nil : (last : ℕ) → over_from b last [] ≡ []
  unfolding over_from
  over-nil last = refl

  pub over-rises : (k : ℕ) (ks : List ℕ) → 0 < b → rises_from k ks ≡ true → rises_from (k / b) (over_from b (k / b) ks) ≡ true
  over-rises k [] p h = rw over-nil (rises-nil (k / b))
  over-rises k (j ∷ ks) p h = go (eqb (k / b) (j / b)) refl (over-rises j ks p (rises_tail k j ks h))
    where
      go : (t : Bool) → eqb (k / b) (j / b) ≡ t → rises_from (j / b) (over_from b (j / b) ks) ≡ true → rises_from (k / b) (over_from b (k / b) (j ∷ ks)) ≡ true
      go true e ih =
          let q = eqb-true (k / b) (j / b) e in
          rw (over-same (k / b) j ks q, q) ih
      go false e ih =
          let q = eqb-false (k / b) (j / b) e in
          let l = div_le b k j p (omega (arith, rises-head k j ks h)) in
          rw (over-next (k / b) j ks q) (rises-cons (k / b) (j / b) (over_from b (j / b) ks) (omega (arith, l, q)) ih)

  -- what holds of all that keys stand under
  pub over-all : (q : ℕ → Bool) (last : ℕ) (ks : List ℕ) → all (λ (k : ℕ). q (k / b)) ks ≡ true → all q (over_from b last ks) ≡ true
  over-all q last [] h = rw over-nil (all_nil q)
  over-all q last (k ∷ ks) h =
      go (eqb last (k / b)) refl (over-all q last ks (all_tail (λ (k : ℕ). q (k / b)) k ks h)) (over-all q (k / b) ks (all_tail (λ (k : ℕ). q (k / b)) k ks h))
    where
      go : (t : Bool) → eqb last (k / b) ≡ t → all q (over_from b last ks) ≡ true → all q (over_from b (k / b) ks) ≡ true → all q (over_from b last (k ∷ ks)) ≡ true
      go true e same next = rw (over-same last k ks (eqb-true last (k / b) e)) same
      go false e same next =
          rw (over-next last k ks (eqb-false last (k / b) e))
          (all_cons q (k / b) (over_from b (k / b) ks) (all_head (λ (k : ℕ). q (k / b)) k ks h) next)

  -- keys that all stand under 0
  pub over_none : (ks : List ℕ) → all (λ (k : ℕ). eqb (k / b) 0) ks ≡ true → over_from b 0 ks ≡ []
  over_none [] h = over-nil 0
  over_none (k ∷ ks) h =
      over-same 0 k ks (sym (eqb-true (k / b) 0 (all_head (λ (k : ℕ). eqb (k / b) 0) k ks h)))
      ∙ over_none ks (all_tail (λ (k : ℕ). eqb (k / b) 0) k ks h)

  pub over-length : (last : ℕ) (ks : List ℕ) → length (over_from b last ks) ≤ length ks
  over-length last [] = rw over-nil (omega arith)
  over-length last (k ∷ ks) = go (eqb last (k / b)) refl (over-length last ks) (over-length (k / b) ks)
    where
      go : (t : Bool) → eqb last (k / b) ≡ t → length (over_from b last ks) ≤ length ks → length (over_from b (k / b) ks) ≤ length ks → length (over_from b last (k ∷ ks)) ≤ suc (length ks)
      go true e same next = rw (over-same last k ks (eqb-true last (k / b) e)) (omega arith)
      go false e same next = rw (over-next last k ks (eqb-false last (k / b) e)) (omega arith)

-- numbers that rise below a bound are no more than it allows
pub rises-room : (k m : ℕ) (ks : List ℕ) → k < m → rises_from k ks ≡ true → all (λ (x : ℕ). ltb x m) ks ≡ true → k + length ks < m
rises-room k m [] p h a = omega arith
rises-room k m (x ∷ ks) p h a =
    let q = ltb-true x m (all_head (λ (x : ℕ). ltb x m) x ks a) in
    omega (arith, rises-head k x ks h, rises-room x m ks q (rises_tail k x ks h) (all_tail (λ (x : ℕ). ltb x m) x ks a))
