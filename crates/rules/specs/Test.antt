-- Tests on numbers and lists that compute.
use Rattle.std.specs.Prelude.{ℕ, Bool, true, false, not, ◌&&◌, ◌||◌, List, [], ◌∷◌, ◌==◌, nat_le}

-- low ≤ k ≤ high
unfoldable pub between : ℕ → ℕ → ℕ → Bool
between low high k = nat_le low k && nat_le k high

-- each of some tests passes
unfoldable pub every : List Bool → Bool
every [] = true
every (b ∷ bs) = b && every bs

-- each element of a list passes a test
unfoldable pub all : {A : Type 0} → (A → Bool) → List A → Bool
all p [] = true
all p (x ∷ xs) = p x && all p xs

-- a number stands in a list
unfoldable pub mem : ℕ → List ℕ → Bool
mem i [] = false
mem i (x ∷ xs) = i == x || mem i xs

-- no number stands in a list twice
unfoldable pub distinct : List ℕ → Bool
distinct [] = true
distinct (x ∷ xs) = not (mem x xs) && distinct xs
