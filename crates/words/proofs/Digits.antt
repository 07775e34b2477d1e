-- The digits that the library writes of a number are document 01's. Assumes nothing.
use Rattle.std.proofs.Common.{◌≡◌, refl, ap, ◌∙◌, ℕ, zero, suc, ◌/◌, ◌%◌, ◌^◌, ◌<◌, ◌≤◌, Bool, true, false, ltb, List, [], ◌∷◌, ◌++◌, arith}
use borrow.Author.Tests.{lt-ltb, ltb-true, ltb-false}
use Rattle.std.specs.Fmt as std
use Rattle.std.proofs.lemmas.Fmt.{decimal_digit, decimal_step}
use Rattle.words.specs.Words.{digit, digits_of, decimal}

-- as many digits as there are places for, or fewer
places-enough : (places n : ℕ) → n < 2 ^ 64 → n < 10 ^ suc places → std.decimal n ≡ digits_of (suc places) n
unfolding digits_of
places-enough zero n w h = rw (lt-ltb n 10 h, digits_of) (decimal_digit n h)
places-enough (suc places) n w h = go (ltb n 10) refl (places-enough places (n / 10))
  where
    go : (b : Bool) → ltb n 10 ≡ b
        → (n / 10 < 2 ^ 64 → n / 10 < 10 ^ suc places → std.decimal (n / 10) ≡ digits_of (suc places) (n / 10))
        → std.decimal n ≡ elim b [ true ↦ digit n ∷ [] | false ↦ digits_of (suc places) (n / 10) ++ (digit (n % 10) ∷ []) ]
    go true e ih = decimal_digit n (ltb-true n 10 e)
    go false e ih =
        let l : 10 ≤ n = ltb-false n 10 e in
        decimal_step n l w ∙ ap (λ (ds : List ℕ). ds ++ (digit (n % 10) ∷ [])) (ih (omega arith) (omega arith))

-- a record has ten digits at most
pub record_digits : (x : ℕ) → x < 2 ^ 32 → std.decimal x ≡ decimal x
record_digits x h = places-enough 9 x (omega arith) (omega arith)
