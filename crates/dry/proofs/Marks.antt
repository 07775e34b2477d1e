-- One mark, and the two tests that it decides; whether any is set. Assumes nothing.
use Prim.Native.Nat.{ℕ, zero, suc}
use mathlib.Core.Path.{◌≡◌, refl, ap, sym, ◌∙◌}
use mathlib.Core.Bool.{Bool, true, false, not, ◌&&◌, ◌||◌}
use mathlib.Core.List.{List, [], ◌∷◌, ◌++◌}
use borrow.Author.Tests.{not-true}
use Rattle.rules.specs.Table.{read}
use Rattle.rules.specs.Place.{fits, mendable}
use Rattle.rules.specs.declared.Place.{Place}
use Rattle.rules.proofs.Entries.Tests.{and_left, and_right}
use Rattle.dry.specs.Walk.{marked, keeps, helps, none_marked}

module _ (n : ℕ) (t : List ℕ) (m : List Bool) (e : Place) where
  pub keeps-marked : marked m e.child ≡ true → false ≡ keeps n t m e
  unfolding keeps
  keeps-marked h = rw (h, keeps)

  pub keeps-lies : marked m e.child ≡ false → fits n e (read t e.child) ≡ keeps n t m e
  unfolding keeps
  keeps-lies h = rw (h, keeps)

  pub helps-marked : marked m e.previous ≡ true → false ≡ helps n t m e
  unfolding helps
  helps-marked h = rw (h, helps)

  pub helps-lies : marked m e.previous ≡ false → mendable n e (read t e.previous) ≡ helps n t m e
  unfolding helps
  helps-lies h = rw (h, helps)

-- ── All of them ─────────────────────────────────────────────────────────────────────────────────────────────────

-- none is marked, with one more at the end
push : (m : List Bool) (x : Bool) → none_marked (m ++ (x ∷ [])) ≡ (none_marked m && not x)
unfolding none_marked
push [] true = refl
push [] false = refl
push (true ∷ m) x = refl
push (false ∷ m) x = push m x

-- and whether some is
pub none_marked-more : (a : Bool) (m : List Bool) (x : Bool) → not a ≡ none_marked m → not (a || x) ≡ none_marked (m ++ (x ∷ []))
none_marked-more true m x e = ap (λ (b : Bool). b && not x) e ∙ sym (push m x)
none_marked-more false m x e = ap (λ (b : Bool). b && not x) e ∙ sym (push m x)

pub none_marked_lem : (m : List Bool) → none_marked m ≡ true → (i : ℕ) → marked m i ≡ false
unfolding none_marked marked
none_marked_lem [] h i = refl
none_marked_lem (x ∷ m) h zero = not-true x (and_left (not x) (none_marked m) h)
none_marked_lem (x ∷ m) h (suc i) = none_marked_lem m (and_right (not x) (none_marked m) h) i
