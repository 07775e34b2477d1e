-- A list of certificates that is filled from others, in a range and while there is room: what a walk over a range does.
use Rattle.std.proofs.Common.{◌≡◌, ℕ, zero, suc, ◌-◌, ◌<◌, ◌≤◌, Bool, true, false, ltb, leb, ◌⊎◌, List, [], ◌∷◌, ◌++◌, length, take, refl, ap, inl, inr, append_assoc, append-nil, arith, length-append, length-take, ltb-false, leb-false}
use lib.Seq.{take-nil}
use Rattle.rules.specs.Test.{between, every, all}
use Rattle.rules.specs.Entry.{Cert, keys, cut}
use Rattle.rules.specs.Walk.{Walked, enters}
use Rattle.rules.specs.declared.Asked.{Asked}
use Rattle.rules.specs.declared.Place.{Place}
use Rattle.rules.proofs.Entries.Tests.{not_both, all-mem, between-low, between-high, between-below, between-above}
use Rattle.rules.proofs.Entries.Entries.{cut-nil, cut-none, cut-append}

-- ── Lists filled until there is no room ─────────────────────────────────────────────────────────────────────────

take-append : (m : ℕ) (xs ys : List Cert) → take m (xs ++ ys) ≡ take m xs ++ take (m - length xs) ys
take-append m [] ys = let q : m - 0 ≡ m = omega arith in rw (take-nil {A = Cert} m, q)
take-append zero (x ∷ xs) ys = let q : 0 - length (x ∷ xs) ≡ 0 = omega arith in rw q
take-append (suc m) (x ∷ xs) ys =
    let q : suc m - length (x ∷ xs) ≡ m - length xs = omega arith in
    rw q (ap (λ (zs : List Cert). x ∷ zs) (take-append m xs ys))

-- what is found after some certificates, of some others in the range, while there is room
abbrev pub gather : Asked → List Cert → List Cert → List Cert
gather a xs ys = xs ++ take (a.room - length xs) (cut a.low a.high ys)

module _ (a : Asked) (xs : List Cert) where
  pub gather_nil : gather a xs [] ≡ xs
  gather_nil = rw (cut-nil {B = ℕ} a.low a.high, take-nil {A = Cert} (a.room - length xs)) (append-nil xs)

  pub gather_append : (ys zs : List Cert) → gather a (gather a xs ys) zs ≡ gather a xs (ys ++ zs)
  gather_append ys zs =
      let A = cut a.low a.high ys in
      let B = cut a.low a.high zs in
      let m = a.room - length xs in
      let q : a.room - length (xs ++ take m A) ≡ m - length A = simp (length-append, length-take) (omega arith) in
      rw (cut-append a.low a.high ys zs, take-append m A B, q) (append_assoc xs (take m A) (take (m - length A) B))

  -- nothing is found where there is no room, or beside the range
  pub gather_full : (ys : List Cert) → a.room ≤ length xs → gather a xs ys ≡ xs
  gather_full ys h = let q : a.room - length xs ≡ 0 = omega arith in rw q (append-nil xs)

  pub gather_beside : (low high : ℕ) (ys : List Cert) → all (between low high) (keys ys) ≡ true → (a.high < low) ⊎ (high < a.low) → gather a xs ys ≡ xs
  gather_beside low high ys w o =
      rw (cut-none a.low a.high ys (λ k m. out k (all-mem (between low high) k (keys ys) w m) o), take-nil {A = Cert} (a.room - length xs)) (append-nil xs)
    where
      out : (k : ℕ) → between low high k ≡ true → (a.high < low) ⊎ (high < a.low) → between a.low a.high k ≡ false
      out k b (inl h) = between-above a.low a.high k (omega (arith, between-low low high k b))
      out k b (inr h) = between-below a.low a.high k (omega (arith, between-high low high k b))

-- ── One step of the rules' walk ─────────────────────────────────────────────────────────────────────────────────

-- a place that is not entered, though no damage was met
pub data Past (a : Asked) (e : Place) (xs : List Cert) : Type 0 where
  no_room_lem : a.room ≤ length xs → Past a e xs
  beside : (a.high < e.low) ⊎ (e.high < a.low) → Past a e xs

pub past : (a : Asked) (e : Place) (w : Walked) → w.whole ≡ true → enters a e w ≡ false → Past a e w.found
unfolding enters every
past a e w h f =
    go (ltb (length w.found) a.room) refl (leb e.low a.high) refl (leb a.low e.high) refl
  where
    go : (x : Bool) → ltb (length w.found) a.room ≡ x → (y : Bool) → leb e.low a.high ≡ y → (z : Bool) → leb a.low e.high ≡ z
        → Past a e w.found
    go false p y q z r = no_room_lem (ltb-false (length w.found) a.room p)
    go true p false q z r = beside (inl (leb-false e.low a.high q))
    go true p true q false r = beside (inr (leb-false a.low e.high r))
    go true p true q true r = absurd (not_both (rw (h, p, q, r)) f)
