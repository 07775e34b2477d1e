-- The first of a page's entries: it decides, or what is left to test is what `risen` says of the entries behind it.
-- Assumes nothing.
use Rattle.std.proofs.Common.{◌≡◌, ℕ, ◌+◌, ◌<◌, ◌≤◌, Bool, true, false, not, ◌&&◌, leb, List, drop, sym, ◌∙◌, le-leb}
use mathlib.Core.Bool.{and-false}
use borrow.Author.Tests.{lt-leb, not-true, not-false}
use Rattle.rules.specs.Test.{all}
use Rattle.rules.specs.Entry.{Entry, keys, rising}
use Rattle.rules.specs.Page.{read_each}
use Rattle.rules.specs.Sound.{in_order}
use Rattle.head.proofs.Left.{entry, left, left-all, left-more}
use Rattle.sound.proofs.Scan.{risen, one_pass}

module _ {B : Type 0} (read : List ℕ → Entry B) (header size : ℕ) (good : Entry B → Bool) (b : List ℕ) (count low high : ℕ) where
  -- what a page's entries must pass, and what is left of it after one with the key `last`
  abbrev pub passes : Bool
  passes =
      in_order low high (keys (read_each read size count (drop header b)))
      && all good (read_each read size count (drop header b))

  abbrev pub after : ℕ → ℕ → Bool
  after last j = risen good high last (left read header size b count j)

  pub no_entries : count ≡ 0 → true ≡ passes
  unfolding read_each in_order keys rising all
  no_entries h = rw (h, read_each)

  -- an entry, its key and whether it is good, as code has found them
  module _ (j : ℕ) {k : ℕ} {g : Bool} (h : j < count) (e : k ≡ (entry read header size b count j).key) (f : g ≡ good (entry read header size b count j)) where
    first : j ≡ 0 → passes ≡ (leb low k && (g && after k (j + 1)))
    first z =
        rw (e, f, left-all read header size b count, ← z, left-more read header size b count j h)
        (one_pass good low high (entry read header size b count j) (left read header size b count (j + 1)))

    pub first-low : j ≡ 0 → k < low → false ≡ passes
    first-low z l = sym (first z ∙ rw (lt-leb low k l))

    pub first_bad : j ≡ 0 → not g ≡ true → false ≡ passes
    first_bad z n = sym (first z ∙ rw (not-true g n, and-false))

    pub first_on : j ≡ 0 → low ≤ k → not g ≡ false → passes ≡ after k (j + 1)
    first_on z l y = first z ∙ rw (le-leb low k l, not-false g y)
