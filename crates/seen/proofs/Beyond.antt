-- A number beyond a list of marks has none. Assumes nothing.
use Rattle.std.proofs.Common.{◌≡◌, ℕ, zero, suc, ◌≤◌, Bool, false, List, [], ◌∷◌, length, get_or, refl, arith}

pub marked_beyond : (m : List Bool) (i : ℕ) → length m ≤ i → false ≡ get_or m i false
marked_beyond [] i h = refl
marked_beyond (x ∷ xs) zero h = absurd (omega arith)
marked_beyond (x ∷ xs) (suc i) h = marked_beyond xs i (omega arith)
