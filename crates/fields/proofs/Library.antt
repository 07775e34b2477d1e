-- What the library calls a number's bytes, and how it reads and writes them, in the words of a field. Assumes nothing.
use mathlib.Core.Path.{◌≡◌, refl, ap, ◌∙◌}
use mathlib.Core.List.{List, [], ◌∷◌}
use Prim.Native.Nat.{ℕ, zero, suc, ◌+◌, ◌-◌, ◌/◌, ◌%◌, ◌^◌, ◌≤◌}
use native.Mathlib.Nat.{add-zero, mul-zero, mul_comm, pow-zero, pow-suc, div-one, div-div-eq-div-mul, add-sub_cancel_left}
use native.Mathlib.Numerals.{add-one}
use native.Mathlib.Omega.{arith}
use borrow.Rule.Slice.PartMut.{put_mid}
use lib.ListN.{length, get_or, take, drop}
use lib.Seq.{get_or-drop, take-take}
use Rattle.std.specs.Int.{sum_through, byte_worth, byte_at, bytes_low_first}
use Rattle.fields.specs.Field.{number, le, le_at, put_at}
use Rattle.fields.proofs.Number.{length-le, number-take-add}
use Rattle.fields.proofs.Run.{put_mid-sets}

-- one byte is its own number
number_first : (xs : List ℕ) → get_or xs 0 0 ≡ number (take 1 xs)
unfolding number
number_first [] = refl
number_first (x ∷ xs) = rw (mul-zero, add-zero)

from_bytes : (k : ℕ) (xs : List ℕ) → sum_through (λ i. byte_worth i (get_or xs i 0)) k ≡ number (take (suc k) xs)
from_bytes zero xs = number_first xs
from_bytes (suc k) xs =
    rw (from_bytes k xs, ← add-one (suc k), number-take-add (suc k) 1 xs, ← number_first (drop (suc k) xs), get_or-drop, add-zero, mul_comm)

to_bytes : (k i v : ℕ) → bytes_low_first i k v ≡ le k (v / 256 ^ i)
unfolding le
to_bytes zero i v = refl
to_bytes (suc k) i v = rw (to_bytes k (suc i) v, pow-suc, ← div-div-eq-div-mul) (ap (λ (n : ℕ). n ∷ le k (v / 256 ^ i / 256)) (first i))
  where
    first : (j : ℕ) → byte_at j v ≡ v / 256 ^ j % 256
    first zero = rw (pow-zero, div-one)
    first (suc j) = refl

-- `from_le_bytes` of a field's bytes
pub le_at_bytes : (k : ℕ) (b xs : List ℕ) (at : ℕ) → xs ≡ take (suc k) (drop at b)
    → sum_through (λ i. byte_worth i (get_or xs i 0)) k ≡ le_at b at (suc k)
unfolding le_at
le_at_bytes k b xs at e = from_bytes k xs ∙ rw (e, take-take (suc k) (suc k) (drop at b) (omega arith))

-- `to_le_bytes`, written over a field
pub put_at_bytes : (b ys : List ℕ) (at w v : ℕ) → ys ≡ bytes_low_first 0 w v → at + w ≤ length b
    → put_mid at (at + w - at) b ys ≡ put_at b at w v
unfolding put_at
put_at_bytes b ys at w v e h =
    let f : ys ≡ le w v = e ∙ to_bytes w 0 v ∙ rw (pow-zero, div-one) in
    rw (add-sub_cancel_left, put_mid-sets b ys at w (rw (f, length-le)) h, f)
