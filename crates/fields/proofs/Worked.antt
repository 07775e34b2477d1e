-- Worked cases: which byte comes first, and a header of three fields that is read back in one line, whether it was put
-- field by field or written piece by piece. Assumes nothing.
use mathlib.Core.Path.{◌≡◌, refl}
use mathlib.Core.List.{List, [], ◌∷◌, ◌++◌}
use Prim.Native.Nat.{ℕ, ◌^◌, ◌<◌}
use lib.ListN.{length}
use Rattle.fields.specs.Field.{number, le, le_at, put_at}
use Rattle.fields.proofs.Field.{after_Puts, in_pieces}

least_first : number (0x34 ∷ 0x12 ∷ []) ≡ 0x1234
unfolding number
least_first = refl

module _ (b : List ℕ) (k n t : ℕ) (hk : k < 256 ^ 2) (hn : n < 256 ^ 2) (ht : t < 256 ^ 4) where
  put-then-read : length b ≡ 512 → le_at (put_at (put_at (put_at b 0 2 k) 2 2 n) 4 4 t) 2 2 ≡ n
  put-then-read e = simp (after_Puts, e)

  written-then-read : le_at (le 2 k ++ (le 2 n ++ (le 4 t ++ b))) 4 4 ≡ t
  written-then-read = simp in_pieces
