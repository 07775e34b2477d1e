-- A loop over a page's entries, of either kind: those that are left from an index on. All of them at the start, one less
-- after each turn, none at the end. Assumes nothing.
use Prim.Native.Nat.{ℕ, suc, ◌+◌, ◌-◌, ◌*◌, ◌≤◌, ◌<◌}
use mathlib.Core.Path.{◌≡◌}
use mathlib.Core.List.{List, [], ◌∷◌}
use native.Mathlib.Nat.{mul-suc, mul-zero, add-zero, add_assoc, sub-zero}
use native.Mathlib.Numerals.{add-one}
use native.Mathlib.Omega.{arith}
use lib.ListN.{drop}
use lib.Seq.{drop-drop}
use Rattle.rules.specs.Page.{read_each}

module _ {A : Type 0} (read : List ℕ → A) (header size : ℕ) (b : List ℕ) (count : ℕ) where
  -- the entry at an index, and those from an index on
  abbrev pub entry : ℕ → A
  entry j = read (drop (header + size * j) b)

  abbrev pub left : ℕ → List A
  left j = read_each read size (count - j) (drop (header + size * j) b)

  pub left-all : read_each read size count (drop header b) ≡ left 0
  left-all = rw (mul-zero, add-zero, sub-zero)

  pub left-more : (j : ℕ) → j < count → left j ≡ entry j ∷ left (j + 1)
  unfolding read_each
  left-more j h =
      let e : count - j ≡ suc (count - (j + 1)) = omega arith in
      rw (e, read_each, drop-drop, add-one j, mul-suc, add_assoc)

  pub left-none : (j : ℕ) → count ≤ j → left j ≡ []
  unfolding read_each
  left-none j h =
      let e : count - j ≡ 0 = omega arith in
      rw (e, read_each)
