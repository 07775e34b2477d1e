-- The four ways to a source, and that the place shows its source's entries, cut to its range. Assumes nothing.
use Prim.Native.Nat.{ℕ}
use native.Mathlib.Omega.{arith}
use mathlib.Core.Path.{◌≡◌, refl, sym, subst, ◌∙◌}
use mathlib.Core.Bool.{Bool, true, false, not, ◌||◌}
use mathlib.Core.List.{List, [], ◌∷◌}
use mathlib.Core.Option.{some, none}
use lib.Dec.{eqb}
use lib.ListN.{set}
use borrow.Author.Tests.{eq-eqb, ne_eqb}
use Rattle.std.specs.Prelude.{Some, None}
use Rattle.rules.specs.Test.{mem}
use Rattle.rules.specs.Table.{read}
use Rattle.rules.specs.Place.{fits, mendable, cut_view}
use Rattle.rules.specs.declared.Place.{Place}
use Rattle.rules.proofs.Entries.Tests.{and_right}
use Rattle.rules.proofs.Entries.Sounds.{sound-cut-all}
use Rattle.rules.proofs.Entries.Places.{fits_true, mendable_true}
use Rattle.dry.specs.Walk.{marked, keeps, helps, sight_of, sight_mended, sight}
use Rattle.dry.specs.Source.{source_lost, source, marked_by}

pub above_parent : (i parent top : ℕ) → i ≡ parent → true ≡ mem i (parent ∷ top ∷ [])
unfolding mem
above_parent i parent top h = sym (rw (eq-eqb i parent h))

pub above-top : (i parent top : ℕ) → (i ≡ parent → ⊥) → eqb i top ≡ mem i (parent ∷ top ∷ [])
unfolding mem
above-top i parent top h = sym (rw (ne_eqb i parent h) (last (eqb i top)))
  where
    last : (b : Bool) → (b || false) ≡ b
    last true = refl
    last false = refl

-- a child that is its own source stays, another one is marked
pub marked-own : (i : ℕ) (e : Place) (m : List Bool) → i ≡ e.child → m ≡ marked_by i e m
unfolding marked_by
marked-own i e m h = rw (marked_by, eq-eqb i e.child h)

pub marked_other : (i : ℕ) (e : Place) (m : List Bool) → (i ≡ e.child → ⊥) → set m e.child true ≡ marked_by i e m
unfolding marked_by
marked_other i e m h = rw (marked_by, ne_eqb i e.child h)

module _ (n : ℕ) (above t : List ℕ) (m : List Bool) (e : Place) where
  pub source-above : mem e.child above ≡ true → None ≡ source n above t m e
  unfolding source
  source-above h = rw (source, h)

  pub source-child : mem e.child above ≡ false → keeps n t m e ≡ true → Some e.child ≡ source n above t m e
  unfolding source
  source-child h k = rw (source, h, k)

  pub source-previous : mem e.child above ≡ false → keeps n t m e ≡ false → helps n t m e ≡ true
      → Some e.previous ≡ source n above t m e
  unfolding source source_lost
  source-previous h k l = rw (source, h, k, source_lost, l)

  pub source-none : mem e.child above ≡ false → keeps n t m e ≡ false → helps n t m e ≡ false
      → None ≡ source n above t m e
  unfolding source source_lost
  source-none h k l = rw (source, h, k, source_lost, l)

  -- ── What the place shows ────────────────────────────────────────────────────────────────────────────────────────

  pub same-page : (i j : ℕ) → Some i ≡ Some j → i ≡ j
  same-page i j h = cc

  pub never : (i : ℕ) → None ≡ Some i → ⊥
  never i h = let z : ◌≡◌ {A = ℕ} 0 1 = cc in omega arith

  abbrev shown_by : ℕ → Type 0
  shown_by i = sight n above t m e ≡ some (sight_of (cut_view e.low e.high (read t i).view) (marked_by i e m))

  pub keeps-fits : keeps n t m e ≡ true → fits n e (read t e.child) ≡ true
  unfolding keeps
  keeps-fits k = and_right (not (marked m e.child)) (fits n e (read t e.child)) k

  pub helps-mendable : helps n t m e ≡ true → mendable n e (read t e.previous) ≡ true
  unfolding helps
  helps-mendable l = and_right (not (marked m e.previous)) (mendable n e (read t e.previous)) l

  shown-child : mem e.child above ≡ false → keeps n t m e ≡ true → shown_by e.child
  unfolding sight marked_by
  shown-child h k =
      let f = fits_true n e (read t e.child) (keeps-fits k) in
      rw (sight, h, k, marked_by, eq-eqb e.child e.child refl, sound-cut-all f.sound)

  shown-previous : mem e.child above ≡ false → keeps n t m e ≡ false → helps n t m e ≡ true → shown_by e.previous
  unfolding sight sight_mended marked_by
  shown-previous h k l =
      let f = mendable_true n e (read t e.previous) (helps-mendable l) in
      rw (sight, h, k, sight_mended, l, marked_by, ne_eqb e.previous e.child f.other)

  pub sight-source : (i : ℕ) → source n above t m e ≡ Some i → shown_by i
  sight-source i s = go (mem e.child above) refl (keeps n t m e) refl (helps n t m e) refl
    where
      go : (a : Bool) → mem e.child above ≡ a → (b : Bool) → keeps n t m e ≡ b → (d : Bool) → helps n t m e ≡ d → shown_by i
      go true p b q d r = absurd (never i (source-above p ∙ s))
      go false p true q d r = subst (λ (j : ℕ). shown_by j) (same-page e.child i (source-child p q ∙ s)) (shown-child p q)
      go false p false q true r =
          subst (λ (j : ℕ). shown_by j) (same-page e.previous i (source-previous p q r ∙ s)) (shown-previous p q r)
      go false p false q false r = absurd (never i (source-none p q r ∙ s))

  -- a child that is its own source fits
  pub source_fits : source n above t m e ≡ Some e.child → fits n e (read t e.child) ≡ true
  source_fits s = go (mem e.child above) refl (keeps n t m e) refl (helps n t m e) refl
    where
      go : (a : Bool) → mem e.child above ≡ a → (b : Bool) → keeps n t m e ≡ b → (d : Bool) → helps n t m e ≡ d
          → fits n e (read t e.child) ≡ true
      go true p b q d r = absurd (never e.child (source-above p ∙ s))
      go false p true q d r = keeps-fits q
      go false p false q true r =
          absurd
          ((mendable_true n e (read t e.previous) (helps-mendable r)).other
          (same-page e.previous e.child (source-previous p q r ∙ s)))
      go false p false q false r = absurd (never e.child (source-none p q r ∙ s))

  pub sight-damaged : source n above t m e ≡ None → sight n above t m e ≡ none
  unfolding sight sight_mended
  sight-damaged s = go (mem e.child above) refl (keeps n t m e) refl (helps n t m e) refl
    where
      go : (a : Bool) → mem e.child above ≡ a → (b : Bool) → keeps n t m e ≡ b → (d : Bool) → helps n t m e ≡ d
          → sight n above t m e ≡ none
      go true p b q d r = rw (sight, p)
      go false p true q d r = absurd (never e.child (sym (source-child p q ∙ s)))
      go false p false q true r = absurd (never e.previous (sym (source-previous p q r ∙ s)))
      go false p false q false r = rw (sight, p, q, sight_mended, r)
