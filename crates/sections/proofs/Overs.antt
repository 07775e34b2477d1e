-- The tally counts what the file's sections hold, and the last model and meter counted are those of the last certificate.
-- Assumes nothing.
use Prim.Native.Nat.{ℕ, ◌+◌, ◌-◌, ◌/◌, ◌<◌}
use native.Mathlib.Omega.{arith}
use mathlib.Core.Path.{◌≡◌, refl, sym, ap, ◌∙◌}
use mathlib.Core.Logic.{◌⊎◌, inl, inr}
use mathlib.Core.Bool.{Bool, true, false}
use mathlib.Core.List.{List, [], ◌∷◌, ◌++◌, append_assoc}
use lib.Dec.{eqb}
use lib.ListN.{length, length-append, get_or}
use lib.Seq.{get_or-append_seam}
use borrow.Author.Tests.{eqb-true, eqb-false}
use Rattle.rules.specs.Entry.{Cert, keys, rising}
use Rattle.exchange.specs.Item.{span}
use Rattle.exchange.specs.Written.{over_from, place_in, meters_of, models_of}
use Rattle.exchange.proofs.Overs.{placed_rising, over-same, over-next, over-nil}
use Rattle.counts.specs.Tally.{no_tally, counted, counted_all}
use Rattle.counts.specs.declared.Tally.{Tally}
use Rattle.counts.proofs.Tallies.{more_same, more-other}

-- ── What keys stand under, certificate by certificate ───────────────────────────────────────────────────────────

-- behind the certificates that a tally counts
abbrev pub under_by : ℕ → Tally → List Cert → List ℕ
under_by by c xs = over_from by (c.last / by) (keys xs)

module _ (by : ℕ) where
  pub under_none : (c : Tally) → under_by by c [] ≡ []
  unfolding keys
  under_none c = over-nil by (c.last / by)

  pub under-old : (c : Tally) (x : Cert) (xs : List Cert) → c.last / by ≡ x.key / by → under_by by c (x ∷ xs) ≡ under_by by (counted c x.key) xs
  unfolding keys counted
  under-old c x xs e = over-same by (c.last / by) x.key (keys xs) e ∙ ap (λ (m : ℕ). over_from by m (keys xs)) e

  pub under-new : (c : Tally) (x : Cert) (xs : List Cert) → (c.last / by ≡ x.key / by → ⊥)
      → under_by by c (x ∷ xs) ≡ x.key / by ∷ under_by by (counted c x.key) xs
  unfolding keys counted
  under-new c x xs e = over-next by (c.last / by) x.key (keys xs) e

  pub under-append : (c : Tally) (xs ys : List Cert) → under_by by c (xs ++ ys) ≡ under_by by c xs ++ under_by by (counted_all c xs) ys
  unfolding counted_all
  under-append c [] ys = ap (λ (l : List ℕ). l ++ under_by by c ys) (sym (under_none c))
  under-append c (x ∷ xs) ys = go (eqb (c.last / by) (x.key / by)) refl (under-append (counted c x.key) xs ys)
    where
      go : (b : Bool) → eqb (c.last / by) (x.key / by) ≡ b → under_by by (counted c x.key) (xs ++ ys) ≡ under_by by (counted c x.key) xs ++ under_by by (counted_all (counted c x.key) xs) ys
          → under_by by c (x ∷ (xs ++ ys)) ≡ under_by by c (x ∷ xs) ++ under_by by (counted_all (counted c x.key) xs) ys
      go true e ih =
          let q = eqb-true (c.last / by) (x.key / by) e in
          under-old c x (xs ++ ys) q ∙ ih ∙ ap (λ (l : List ℕ). l ++ under_by by (counted_all (counted c x.key) xs) ys) (sym (under-old c x xs q))
      go false e ih =
          let q = eqb-false (c.last / by) (x.key / by) e in
          under-new c x (xs ++ ys) q
          ∙ ap (λ (l : List ℕ). x.key / by ∷ l) ih
          ∙ ap (λ (l : List ℕ). l ++ under_by by (counted_all (counted c x.key) xs) ys) (sym (under-new c x xs q))

  -- the last of them is the last key's
  abbrev Ends : Tally → List Cert → Type 0
  Ends c xs =
      (((counted_all c xs).last / by ≡ c.last / by) × (under_by by c xs ≡ []))
      ⊎ ((qs : List ℕ) × (under_by by c xs ≡ qs ++ ((counted_all c xs).last / by ∷ [])))

  ends : (c : Tally) (xs : List Cert) → Ends c xs
  unfolding counted_all counted
  ends c [] = inl (refl, under_none c)
  ends c (x ∷ xs) = go (eqb (c.last / by) (x.key / by)) refl (ends (counted c x.key) xs)
    where
      go : (b : Bool) → eqb (c.last / by) (x.key / by) ≡ b → Ends (counted c x.key) xs → Ends c (x ∷ xs)
      go true e (inl h) =
          let q = eqb-true (c.last / by) (x.key / by) e in
          inl (h.0 ∙ sym q, under-old c x xs q ∙ h.1)
      go true e (inr h) = inr (h.0, under-old c x xs (eqb-true (c.last / by) (x.key / by) e) ∙ h.1)
      go false e (inl h) =
          inr ([], under-new c x xs (eqb-false (c.last / by) (x.key / by) e) ∙ (ap (λ (l : List ℕ). x.key / by ∷ l) h.1 ∙ ap (λ (m : ℕ). m ∷ []) (sym h.0)))
      go false e (inr h) =
          inr (x.key / by ∷ h.0, under-new c x xs (eqb-false (c.last / by) (x.key / by) e) ∙ ap (λ (l : List ℕ). x.key / by ∷ l) h.1)

  -- so it stands at the last place of those counted, among all
  module _ (c : Tally) (start : c.last / by ≡ 0) (xs ys : List Cert) where
    abbrev all : List ℕ
    all = under_by by c (xs ++ ys)

    pub last-place : (0 < (counted_all c xs).last / by) → rising all ≡ true → place_in ((counted_all c xs).last / by) all ≡ length (under_by by c xs) - 1
    last-place real rise = go (ends c xs)
      where
        go : Ends c xs → place_in ((counted_all c xs).last / by) all ≡ length (under_by by c xs) - 1
        go (inl h) = absurd (omega (arith, h.0, start, real))
        go (inr h) =
            let last = (counted_all c xs).last / by in
            let qs = h.0 in
            let rs = under_by by (counted_all c xs) ys in
            let are : all ≡ qs ++ (last ∷ rs) = under-append c xs ys ∙ (ap (λ (l : List ℕ). l ++ rs) h.1 ∙ append_assoc qs (last ∷ []) rs) in
            let there : get_or all (length qs) 0 ≡ last = ap (λ (l : List ℕ). get_or l (length qs) 0) are ∙ get_or-append_seam qs last rs 0 in
            let inside : length qs < length all = omega (arith, ap length are, length-append qs (last ∷ rs)) in
            let many : length (under_by by c xs) ≡ length qs + 1 = ap length h.1 ∙ length-append qs (last ∷ []) in
            ap (λ (m : ℕ). place_in m all) (sym there) ∙ (placed_rising all rise (length qs) inside ∙ omega (arith, many))

-- ── The numbers of a tally ──────────────────────────────────────────────────────────────────────────────────────

pub tally-meters : (c : Tally) (xs : List Cert) → (counted_all c xs).meters ≡ c.meters + length (under_by 65536 c xs)
unfolding counted_all counted
tally-meters c [] = omega (arith, ap length (under_none 65536 c))
tally-meters c (x ∷ xs) = go (eqb (c.last / 65536) (x.key / 65536)) refl (tally-meters (counted c x.key) xs)
  where
    go : (b : Bool) → eqb (c.last / 65536) (x.key / 65536) ≡ b → (counted_all (counted c x.key) xs).meters ≡ (counted c x.key).meters + length (under_by 65536 (counted c x.key) xs)
        → (counted_all (counted c x.key) xs).meters ≡ c.meters + length (under_by 65536 c (x ∷ xs))
    go true e ih =
        let q = eqb-true (c.last / 65536) (x.key / 65536) e in
        omega (arith, ih, more_same 65536 c.last x.key c.meters q, ap length (under-old 65536 c x xs q))
    go false e ih =
        let q = eqb-false (c.last / 65536) (x.key / 65536) e in
        omega (arith, ih, more-other 65536 c.last x.key c.meters q, ap length (under-new 65536 c x xs q))

pub tally-models : (c : Tally) (xs : List Cert) → (counted_all c xs).models ≡ c.models + length (under_by 281474976710656 c xs)
unfolding counted_all counted
tally-models c [] = omega (arith, ap length (under_none 281474976710656 c))
tally-models c (x ∷ xs) = go (eqb (c.last / 281474976710656) (x.key / 281474976710656)) refl (tally-models (counted c x.key) xs)
  where
    go : (b : Bool) → eqb (c.last / 281474976710656) (x.key / 281474976710656) ≡ b → (counted_all (counted c x.key) xs).models ≡ (counted c x.key).models + length (under_by 281474976710656 (counted c x.key) xs)
        → (counted_all (counted c x.key) xs).models ≡ c.models + length (under_by 281474976710656 c (x ∷ xs))
    go true e ih =
        let q = eqb-true (c.last / 281474976710656) (x.key / 281474976710656) e in
        omega (arith, ih, more_same 281474976710656 c.last x.key c.models q, ap length (under-old 281474976710656 c x xs q))
    go false e ih =
        let q = eqb-false (c.last / 281474976710656) (x.key / 281474976710656) e in
        omega (arith, ih, more-other 281474976710656 c.last x.key c.models q, ap length (under-new 281474976710656 c x xs q))

-- the models of the meters are those of the certificates
over-over : (l : ℕ) (ks : List ℕ) → over_from 4294967296 (l / 4294967296) (over_from 65536 l ks) ≡ over_from 281474976710656 (l / 4294967296) ks
over-over l [] = ap (over_from 4294967296 (l / 4294967296)) (over-nil 65536 l) ∙ (over-nil 4294967296 (l / 4294967296) ∙ sym (over-nil 281474976710656 (l / 4294967296)))
over-over l (k ∷ ks) =
    go (eqb l (k / 65536)) refl (eqb (l / 4294967296) (k / 65536 / 4294967296)) refl (over-over l ks) (over-over (k / 65536) ks)
  where
    twice : k / 65536 / 4294967296 ≡ k / 281474976710656
    twice = omega arith

    go : (a : Bool) → eqb l (k / 65536) ≡ a → (b : Bool) → eqb (l / 4294967296) (k / 65536 / 4294967296) ≡ b
        → over_from 4294967296 (l / 4294967296) (over_from 65536 l ks) ≡ over_from 281474976710656 (l / 4294967296) ks
        → over_from 4294967296 (k / 65536 / 4294967296) (over_from 65536 (k / 65536) ks) ≡ over_from 281474976710656 (k / 65536 / 4294967296) ks
        → over_from 4294967296 (l / 4294967296) (over_from 65536 l (k ∷ ks)) ≡ over_from 281474976710656 (l / 4294967296) (k ∷ ks)
    go true e b f same next =
        let q = eqb-true l (k / 65536) e in
        ap (over_from 4294967296 (l / 4294967296)) (over-same 65536 l k ks q)
        ∙ same
        ∙ sym (over-same 281474976710656 (l / 4294967296) k ks (ap (λ (i : ℕ). i / 4294967296) q ∙ twice))
    go false e true f same next =
        let q = eqb-true (l / 4294967296) (k / 65536 / 4294967296) f in
        ap (over_from 4294967296 (l / 4294967296)) (over-next 65536 l k ks (eqb-false l (k / 65536) e))
        ∙ over-same 4294967296 (l / 4294967296) (k / 65536) (over_from 65536 (k / 65536) ks) q
        ∙ ap (λ (i : ℕ). over_from 4294967296 i (over_from 65536 (k / 65536) ks)) q
        ∙ next
        ∙ ap (λ (i : ℕ). over_from 281474976710656 i ks) (sym q)
        ∙ sym (over-same 281474976710656 (l / 4294967296) k ks (q ∙ twice))
    go false e false f same next =
        let q = eqb-false (l / 4294967296) (k / 65536 / 4294967296) f in
        ap (over_from 4294967296 (l / 4294967296)) (over-next 65536 l k ks (eqb-false l (k / 65536) e))
        ∙ over-next 4294967296 (l / 4294967296) (k / 65536) (over_from 65536 (k / 65536) ks) q
        ∙ ap (λ (r : List ℕ). k / 65536 / 4294967296 ∷ r) next
        ∙ ap (λ (i : ℕ). i ∷ over_from 281474976710656 i ks) twice
        ∙ sym (over-next 281474976710656 (l / 4294967296) k ks (λ z. q (z ∙ sym twice)))

pub meters-are : (xs : List Cert) → meters_of xs ≡ under_by 65536 no_tally xs
unfolding meters_of span no_tally
meters-are xs = refl

pub models-are : (xs : List Cert) → models_of (meters_of xs) ≡ under_by 281474976710656 no_tally xs
unfolding models_of meters_of span no_tally
models-are xs = over-over 0 (keys xs)
