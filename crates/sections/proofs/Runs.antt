-- Three runs of bytes written side by side over an output, each growing behind what stands in it. Assumes nothing.
use Prim.Native.Nat.{ℕ, zero, suc, ◌+◌, ◌≤◌, ◌<◌}
use native.Mathlib.Omega.{arith}
use native.Mathlib.Nat.{not-suc-le-zero, le_of_suc-le-suc}
use mathlib.Core.Path.{◌≡◌, refl, sym, ap, ◌∙◌}
use mathlib.Core.List.{List, [], ◌∷◌, ◌++◌}
use lib.ListN.{length, drop, set}
use lib.Seq.{sets, sets-eq}
use Rattle.fields.proofs.Run.{sets_append}
use Rattle.rules.specs.Page.{over}

-- ── Apart from each other ───────────────────────────────────────────────────────────────────────────────────────

set_apart : (l : List ℕ) (i j a b : ℕ) → i < j → set (set l j b) i a ≡ set (set l i a) j b
set_apart [] i j a b h = refl
set_apart (x ∷ xs) i zero a b h = absurd (not-suc-le-zero h)
set_apart (x ∷ xs) zero (suc j) a b h = refl
set_apart (x ∷ xs) (suc i) (suc j) a b h = ap (λ (r : List ℕ). x ∷ r) (set_apart xs i j a b (le_of_suc-le-suc h))

set_before : (l : List ℕ) (i j a : ℕ) (ys : List ℕ) → i < j → set (sets l j ys) i a ≡ sets (set l i a) j ys
set_before l i j a [] h = refl
set_before l i j a (y ∷ ys) h =
    set_before (set l j y) i (suc j) a ys (omega arith) ∙ ap (λ (r : List ℕ). sets r (suc j) ys) (set_apart l i j a y h)

pub sets_before : (l : List ℕ) (i j : ℕ) (xs ys : List ℕ) → i + length xs ≤ j → sets (sets l j ys) i xs ≡ sets (sets l i xs) j ys
sets_before l i j [] ys h = refl
sets_before l i j (x ∷ xs) ys h =
    ap (λ (r : List ℕ). sets r (suc i) xs) (set_before l i j x ys (omega arith)) ∙ sets_before (set l i x) (suc i) j xs ys (omega arith)

-- ── Side by side ────────────────────────────────────────────────────────────────────────────────────────────────

-- a run over the start, one from b on, one from e on
abbrev pub three : List ℕ → ℕ → ℕ → List ℕ → List ℕ → List ℕ → List ℕ
three out b e xs ys zs = sets (sets (sets out 0 xs) b ys) e zs

module _ (out : List ℕ) (b e : ℕ) (xs ys zs : List ℕ) where
  pub third-more : (vs : List ℕ) (at : ℕ) → at ≡ e + length zs → sets (three out b e xs ys zs) at vs ≡ three out b e xs ys (zs ++ vs)
  third-more vs at q = ap (λ (i : ℕ). sets (three out b e xs ys zs) i vs) q ∙ sym (sets_append zs vs (sets (sets out 0 xs) b ys) e)

  pub second_more : (vs : List ℕ) (at : ℕ) → at ≡ b + length ys → at + length vs ≤ e
      → sets (three out b e xs ys zs) at vs ≡ three out b e xs (ys ++ vs) zs
  second_more vs at q h =
      sets_before (sets (sets out 0 xs) b ys) at e vs zs h
      ∙ ap (λ (i : ℕ). sets (sets (sets (sets out 0 xs) b ys) i vs) e zs) q
      ∙ ap (λ (r : List ℕ). sets r e zs) (sym (sets_append ys vs (sets out 0 xs) b))

  pub first_more : (vs : List ℕ) (at : ℕ) → at ≡ length xs → at + length vs ≤ b → b ≤ e
      → sets (three out b e xs ys zs) at vs ≡ three out b e (xs ++ vs) ys zs
  first_more vs at q h l =
      let i : at ≡ 0 + length xs = q ∙ omega arith in
      sets_before (sets (sets out 0 xs) b ys) at e vs zs (omega arith)
      ∙ ap (λ (r : List ℕ). sets r e zs) (sets_before (sets out 0 xs) at b vs ys h)
      ∙ ap (λ (i : ℕ). sets (sets (sets (sets out 0 xs) i vs) b ys) e zs) i
      ∙ ap (λ (r : List ℕ). sets (sets r b ys) e zs) (sym (sets_append xs vs out 0))

  -- end to end, they are one run over the start
  pub three_over : b ≡ length xs → e ≡ length xs + length ys → length (xs ++ (ys ++ zs)) ≤ length out
      → three out b e xs ys zs ≡ over (xs ++ (ys ++ zs)) out
  unfolding over
  three_over p q h =
      let all = xs ++ (ys ++ zs) in
      let i : b ≡ 0 + length xs = p ∙ omega arith in
      let j : e ≡ b + length ys = omega (arith, p, q) in
      ap (λ (k : ℕ). sets (sets (sets out 0 xs) b ys) k zs) j
      ∙ sym (sets_append ys zs (sets out 0 xs) b)
      ∙ ap (λ (k : ℕ). sets (sets out 0 xs) k (ys ++ zs)) i
      ∙ sym (sets_append xs (ys ++ zs) out 0)
      ∙ sets-eq all out 0 (omega (arith, h))
      ∙ ap (λ (k : ℕ). all ++ drop k out) zero-length
    where
      zero-length : 0 + length (xs ++ (ys ++ zs)) ≡ length (xs ++ (ys ++ zs))
      zero-length = omega arith
