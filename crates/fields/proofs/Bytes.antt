-- What is made of bytes is bytes: the writing of a number, a join, a part, a store. Assumes nothing.
use mathlib.Core.List.{List, [], ◌∷◌, ◌++◌}
use Prim.Native.Nat.{ℕ, zero, suc, ◌+◌, ◌/◌}
use native.Mathlib.Omega.{arith}
use lib.ListN.{set, take, drop}
use lib.Seq.{sets, get_or-drop}
use mir.Facts.{Fits-lit}
use mir.Syntax.{w8}
use mir.Val.{Fits}
use Rattle.fields.specs.Field.{le, Bytes}

pub bytes-nil : Bytes []
bytes-nil i = Fits-lit tt

pub bytes-cons : (x : ℕ) (xs : List ℕ) → Fits w8 x → Bytes xs → Bytes (x ∷ xs)
bytes-cons x xs h k zero = h
bytes-cons x xs h k (suc i) = k i

pub bytes_le : (w v : ℕ) → Bytes (le w v)
unfolding le
bytes_le zero v i = bytes-nil i
bytes_le (suc w) v zero = omega arith
bytes_le (suc w) v (suc i) = bytes_le w (v / 256) i

pub bytes-append : (xs ys : List ℕ) → Bytes xs → Bytes ys → Bytes (xs ++ ys)
bytes-append [] ys h k = k
bytes-append (x ∷ xs) ys h k = bytes-cons x (xs ++ ys) (h zero) (bytes-append xs ys (λ i. h (suc i)) k)

pub bytes_take : (n : ℕ) (xs : List ℕ) → Bytes xs → Bytes (take n xs)
bytes_take zero xs h = bytes-nil
bytes_take (suc n) [] h = bytes-nil
bytes_take (suc n) (x ∷ xs) h = bytes-cons x (take n xs) (h zero) (bytes_take n xs (λ i. h (suc i)))

pub bytes_drop : (n : ℕ) (xs : List ℕ) → Bytes xs → Bytes (drop n xs)
bytes_drop n xs h i = rw get_or-drop (h (n + i))

pub bytes-set : (xs : List ℕ) (i x : ℕ) → Bytes xs → Fits w8 x → Bytes (set xs i x)
bytes-set [] i x h k = h
bytes-set (y ∷ xs) zero x h k = bytes-cons x xs k (λ i. h (suc i))
bytes-set (y ∷ xs) (suc i) x h k = bytes-cons y (set xs i x) (h zero) (bytes-set xs i x (λ j. h (suc j)) k)

pub bytes_sets : (vs b : List ℕ) (i : ℕ) → Bytes b → Bytes vs → Bytes (sets b i vs)
bytes_sets [] b i h k = h
bytes_sets (v ∷ vs) b i h k = bytes_sets vs (set b i v) (suc i) (bytes-set b i v h (k zero)) (λ j. k (suc j))
