-- Which numbers are pages, as code tests it. Assumes nothing.
use mathlib.Core.Path.{◌≡◌, refl}
use mathlib.Core.Bool.{Bool, true, false}
use Prim.Native.Nat.{ℕ, ◌-◌, ◌≤◌, ◌<◌}
use native.Mathlib.Omega.{arith}
use borrow.Author.Tests.{le-leb, lt-leb, ltb-true, ltb-false}
use lib.Dec.{leb, ltb}
use Rattle.rules.specs.Test.{between}
use Rattle.rules.specs.Marks.{is_page}

pub no_page : (n i : ℕ) → i < 1 → is_page n i ≡ false
unfolding is_page between
no_page n i h = rw (lt-leb 1 i h)

pub page-below : (n i : ℕ) → 1 ≤ i → is_page n i ≡ ltb i n
unfolding is_page between
page-below n i h = rw (le-leb 1 i h) (go (ltb i n) refl)
  where
    go : (b : Bool) → ltb i n ≡ b → leb i (n - 1) ≡ b
    go true e = le-leb i (n - 1) (omega (arith, ltb-true i n e))
    go false e = lt-leb i (n - 1) (omega (arith, ltb-false i n e))
