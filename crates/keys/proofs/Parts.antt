-- The parts of a key, tested one after the other. Assumes nothing.
use mathlib.Core.Path.{◌≡◌, refl}
use mathlib.Core.Bool.{Bool, true, false, not, ◌&&◌}
use Prim.Native.Nat.{ℕ, ◌<◌}
use native.Mathlib.Omega.{arith}
use borrow.Author.Tests.{lt-ltb, le-ltb, eqb-true, eqb-false}
use lib.Dec.{ltb, eqb}
use Rattle.rules.specs.Test.{every}
use Rattle.rules.specs.Key.{good_parts}

module _ (m s i : ℕ) where
  pub no_model : m ≡ 0 → false ≡ good_parts m s i
  unfolding good_parts every
  no_model h = rw (le-ltb 0 m (omega arith))

  module _ (o : m ≡ 0 → ⊥) where
    above : 0 < m
    above = go (eqb m 0) refl
      where
        go : (b : Bool) → eqb m 0 ≡ b → 0 < m
        go true e = absurd (o (eqb-true m 0 e))
        go false e = let q = eqb-false m 0 e in omega arith

    pub no_serial : s ≡ 0 → false ≡ good_parts m s i
    unfolding good_parts every
    no_serial h = rw (lt-ltb 0 m above, le-ltb 0 s (omega arith))

    pub only-issue : (s ≡ 0 → ⊥) → not (eqb i 0) ≡ good_parts m s i
    unfolding good_parts every
    only-issue p = rw (lt-ltb 0 m above, lt-ltb 0 s serial) (go (eqb i 0) refl)
      where
        serial : 0 < s
        serial = omega arith

        go : (b : Bool) → eqb i 0 ≡ b → not (eqb i 0) ≡ (ltb 0 i && true)
        go true e = rw (e, le-ltb 0 i (omega (arith, eqb-true i 0 e)))
        go false e = let q = eqb-false i 0 e in let l : 0 < i = omega arith in rw (e, lt-ltb 0 i l)
