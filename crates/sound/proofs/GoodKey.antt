-- The parts of a key as code tests them. Assumes nothing.
use Rattle.std.proofs.Common.{◌≡◌, ℕ, ◌/◌, ◌%◌, ◌^◌, ◌<◌, ◌≤◌, Bool, true, false, not, eqb, ltb, List, [], ◌∷◌, sym, refl, ◌∙◌, arith, le-ltb, lt-ltb, eqb-true}
use borrow.Author.Tests.{eqb-false}
use Rattle.rules.specs.Test.{every}
use Rattle.rules.specs.Key.{good_key, good_parts, model_of, serial_of, issue_of}
use Rattle.head.proofs.Chain.{every_fails, every-last}

-- more than zero, as code asks it
pub some_not_zero : (x : ℕ) → ltb 0 x ≡ not (eqb x 0)
some_not_zero x = go (eqb x 0) refl
  where
    go : (t : Bool) → eqb x 0 ≡ t → ltb 0 x ≡ not t
    go true e = le-ltb 0 x (omega (arith, eqb-true x 0 e))
    go false e = lt-ltb 0 x (positive x (eqb-false x 0 e))
      where
        positive : (y : ℕ) → (y ≡ 0 → ⊥) → 0 < y
        positive y h = omega arith

module _ (k : ℕ) where
  abbrev parts : List Bool
  parts = ltb 0 (k / 2 ^ 48) ∷ ltb 0 (k / 2 ^ 16 % 2 ^ 32) ∷ ltb 0 (k % 2 ^ 16) ∷ []

  good_parts_lem : every parts ≡ good_key k
  unfolding good_key good_parts model_of serial_of issue_of
  good_parts_lem = refl

  pub no_model : k < 2 ^ 48 → false ≡ good_key k
  no_model h = sym (every_fails parts 0 (le-ltb 0 (k / 2 ^ 48) (omega arith))) ∙ good_parts_lem

  pub no_serial : k / 2 ^ 16 % 2 ^ 32 ≡ 0 → false ≡ good_key k
  no_serial h = sym (every_fails parts 1 (le-ltb 0 (k / 2 ^ 16 % 2 ^ 32) (omega arith))) ∙ good_parts_lem

  pub by_issue : 2 ^ 48 ≤ k → (k / 2 ^ 16 % 2 ^ 32 ≡ 0 → ⊥) → not (eqb (k % 2 ^ 16) 0) ≡ good_key k
  by_issue m s =
      sym (some_not_zero (k % 2 ^ 16))
      ∙ sym
      (every-last (ltb 0 (k / 2 ^ 48) ∷ ltb 0 (k / 2 ^ 16 % 2 ^ 32) ∷ []) (ltb 0 (k % 2 ^ 16))
      (lt-ltb 0 (k / 2 ^ 48) (omega arith), (lt-ltb 0 (k / 2 ^ 16 % 2 ^ 32) (omega arith), tt)))
      ∙ good_parts_lem
