-- Numbers and their bytes, at every width: each determines the other, and a run of bytes may be cut anywhere.
-- Assumes nothing.
use mathlib.Core.Path.{◌≡◌, refl, ap, ◌∙◌}
use mathlib.Core.List.{List, [], ◌∷◌, ◌++◌}
use Prim.Native.Nat.{ℕ, zero, suc, ◌+◌, ◌*◌, ◌/◌, ◌%◌, ◌^◌, ◌<◌}
use native.Mathlib.Nat.{zero-add, suc-add, mul-zero, one-mul, mul_assoc, pow-zero, pow-suc, pow-succ', one-le-pow, mod-lt, mod-eq_of_lt, mod-add-div, div-one, div-eq_of_lt, div-lt_iff_lt-mul, div-div-eq-div-mul, add-mul-div_left, add-mul-mod_self_left}
use native.Mathlib.Omega.{arith}
use lib.Arith.{mod-mul, digits_mod, digits_div}
use lib.Dec.{lit<}
use lib.ListN.{length, take, drop}
use lib.Seq.{take-nil}
use Rattle.fields.specs.Field.{number, le, Bytes}

-- ── A number as bytes, and back ─────────────────────────────────────────────────────────────────────────────────

pub length-le : (w v : ℕ) → length (le w v) ≡ w
unfolding le
length-le zero v = refl
length-le (suc w) v = ap suc (length-le w (v / 256))

pub number-le : (w v : ℕ) → v < 256 ^ w → number (le w v) ≡ v
unfolding le number
number-le zero v h = omega (arith, pow-zero 256)
number-le (suc w) v h =
    ap (λ (n : ℕ). v % 256 + 256 * n) (number-le w (v / 256) ((div-lt_iff_lt-mul (lit< tt)).1 (rw pow-suc at h)))
    ∙ mod-add-div v 256

pub le-number : (xs : List ℕ) → Bytes xs → le (length xs) (number xs) ≡ xs
unfolding le number
le-number [] h = refl
le-number (x ∷ xs) h =
    rw (add-mul-mod_self_left, mod-eq_of_lt (h zero).fits, add-mul-div_left x (number xs) (lit< tt), div-eq_of_lt (h zero).fits, zero-add, le-number xs (λ i. h (suc i)))

-- what `w` bytes do not hold makes no difference to them
pub le_mod : (w v : ℕ) → le w (v % 256 ^ w) ≡ le w v
unfolding le
le_mod zero v = refl
le_mod (suc w) v =
    rw (pow-suc, mod-mul v (one-le-pow w 256 (lit< tt)) (lit< tt), digits_mod (v / 256 % 256 ^ w) (mod-lt v (lit< tt)), digits_div (v / 256 % 256 ^ w) (mod-lt v (lit< tt)), le_mod w (v / 256))

-- ── Cutting ─────────────────────────────────────────────────────────────────────────────────────────────────────

pub number-take-add : (u w : ℕ) (xs : List ℕ) → number (take (u + w) xs) ≡ number (take u xs) + 256 ^ u * number (take w (drop u xs))
unfolding number
number-take-add zero w xs = simp (zero-add, pow-zero, one-mul)
number-take-add (suc u) w [] = simp (take-nil, mul-zero)
number-take-add (suc u) w (x ∷ xs) = rw (suc-add, number-take-add u w xs, pow-succ', mul_assoc) (omega arith)

pub le-add : (u w v : ℕ) → le (u + w) v ≡ le u v ++ le w (v / 256 ^ u)
unfolding le
le-add zero w v = rw (zero-add, pow-zero, div-one)
le-add (suc u) w v = rw (suc-add, le-add u w (v / 256), pow-succ', div-div-eq-div-mul)

-- ── Bounds ──────────────────────────────────────────────────────────────────────────────────────────────────────

pub number-take-bound : (w : ℕ) (xs : List ℕ) → Bytes xs → number (take w xs) < 256 ^ w
unfolding number
number-take-bound zero xs h = rw pow-zero (lit< tt)
number-take-bound (suc w) [] h = one-le-pow (suc w) 256 (lit< tt)
number-take-bound (suc w) (x ∷ xs) h =
    rw pow-suc (omega (arith, h zero, number-take-bound w xs (λ i. h (suc i))))
