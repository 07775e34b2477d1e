-- What the chosen numbers say to who needs them: whether there are enough, and which number is which. Assumes nothing.
use mathlib.Core.Path.{◌≡◌, refl, ap}
use mathlib.Core.Bool.{Bool, true, false}
use mathlib.Core.List.{List}
use Prim.Native.Nat.{ℕ, ◌≤◌, ◌<◌}
use native.Mathlib.Omega.{arith}
use borrow.Author.Tests.{lt-ltb, le-ltb, ltb-true, ltb-false}
use lib.Dec.{ltb}
use lib.ListN.{length, get_or, take}
use lib.Seq.{take_all, length-take-le, get_or-take}

module _ (need : ℕ) (free : List ℕ) where
  -- fewer were chosen than are needed exactly when fewer are free
  pub lowest_fewer : ltb (length (take need free)) need ≡ ltb (length free) need
  lowest_fewer = go (ltb (length free) need) refl
    where
      go : (b : Bool) → ltb (length free) need ≡ b → ltb (length (take need free)) need ≡ b
      go true e =
          let l : length free < need = ltb-true (length free) need e in
          lt-ltb (length (take need free)) need (omega (arith, ap length (take_all need free (omega arith))))
      go false e =
          let l : need ≤ length free = ltb-false (length free) need e in
          le-ltb (length (take need free)) need (omega (arith, length-take-le need free l))

  -- each chosen number is the free number of its place; where there is none, both are 0
  pub lowest-at : (j : ℕ) → j < need → get_or (take need free) j 0 ≡ get_or free j 0
  lowest-at j h = get_or-take need free j 0 h
