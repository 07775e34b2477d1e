-- Marks compared number by number. Assumes nothing.
use Rattle.std.proofs.Common.{◌≡◌, Bool, true, false, ◌&&◌, List, [], ◌∷◌, length, sym, refl, ap, ◌∙◌, arith}
use mathlib.Core.Bool.{and-true, and-false}
use Rattle.seen.specs.declared.Seen.{Seen}
use Rattle.seen.specs.Note.{apart, good_marks}

module _ (s : Seen) where
  -- none so far has both marks: those ahead decide
  abbrev pub Ahead : List Bool → List Bool → Type 0
  Ahead xs ys = apart s.children s.spared ≡ apart xs ys

  module _ (xs ys : List Bool) (e : Ahead xs ys) where
    module _ (x y : Bool) (us vs : List Bool) (p : xs ≡ x ∷ us) (q : ys ≡ y ∷ vs) where
      pub both-marked : (x && y) ≡ true → false ≡ good_marks s
      unfolding good_marks apart
      both-marked h = sym (ap (λ (b : Bool). s.whole && b) (e ∙ rw (p, q, h)) ∙ and-false s.whole)

      pub one_at_most : (x && y) ≡ false → Ahead us vs
      unfolding apart
      one_at_most h = e ∙ rw (p, q, h)

    ends : apart xs ys ≡ true → s.whole ≡ good_marks s
    unfolding good_marks
    ends h = sym (ap (λ (b : Bool). s.whole && b) (e ∙ h) ∙ and-true s.whole)

    pub no_child : length xs ≡ 0 → s.whole ≡ good_marks s
    unfolding apart
    no_child h = ends (none xs h)
      where
        none : (xs : List Bool) → length xs ≡ 0 → apart xs ys ≡ true
        none [] h = refl
        none (x ∷ xs) h = absurd (omega arith)

    pub no_spared : length ys ≡ 0 → s.whole ≡ good_marks s
    unfolding apart
    no_spared h = ends (none xs ys h)
      where
        none : (xs ys : List Bool) → length ys ≡ 0 → apart xs ys ≡ true
        none [] ys h = refl
        none (x ∷ xs) [] h = refl
        none (x ∷ xs) (y ∷ ys) h = absurd (omega arith)
