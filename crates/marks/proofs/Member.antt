-- Whether a list has a number, as the rules and as the slice's method ask it. Assumes nothing.
use mathlib.Core.Path.{◌≡◌, refl, sym, ◌∙◌}
use mathlib.Core.Bool.{Bool, true, false}
use borrow.Author.Tests.{eqb-true, eqb-false, eq-eqb, ne_eqb}
use mathlib.Core.List.{List, [], ◌∷◌}
use Prim.Native.Nat.{ℕ}
use Rattle.std.specs.Prelude.{nat_eq}
use Rattle.std.specs.List.{list_any}
use Rattle.rules.specs.Test.{mem}

same_either_way : (a b : ℕ) → nat_eq a b ≡ nat_eq b a
same_either_way a b = go (nat_eq a b) refl
  where
    go : (t : Bool) → nat_eq a b ≡ t → nat_eq a b ≡ nat_eq b a
    go true e = e ∙ sym (eq-eqb b a (sym (eqb-true a b e)))
    go false e = e ∙ sym (ne_eqb b a (λ p. eqb-false a b e (sym p)))

pub mem-any : (i : ℕ) (xs : List ℕ) → list_any (λ y. nat_eq y i) xs ≡ mem i xs
unfolding mem
mem-any i [] = refl
mem-any i (x ∷ xs) = rw (same_either_way x i, mem-any i xs)
