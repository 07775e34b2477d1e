-- The loop over a page's entries behind the first: before each turn the answer is what `risen_on` says of the entries
-- left. So a turn either knows the answer or leaves one entry less. Assumes nothing.
use Rattle.std.proofs.Common.{◌≡◌, ℕ, zero, suc, ◌+◌, ◌-◌, ◌*◌, ◌<◌, ◌≤◌, Bool, true, false, not, ◌&&◌, ltb, leb, List, drop, sym, refl, ◌∙◌, arith}
use mathlib.Core.Bool.{and_assoc}
use native.Mathlib.Nat.{mul-suc, add_assoc, mul-le-mul_left}
use native.Mathlib.Numerals.{add-one}
use lib.Seq.{drop-drop}
use borrow.Author.Tests.{not-true, not-false}
use Rattle.rules.specs.Entry.{Entry}
use Rattle.rules.specs.Page.{read_each}
use Rattle.sound.specs.Pass.{risen_on}
use Rattle.sound.proofs.Scan.{risen}

-- an entry below the count lies in the page
pub lies : (header size j count long : ℕ) → j < count → header + size * count ≤ long → header + size * (j + 1) ≤ long
lies header size j count long h l =
    let up : j + 1 ≤ count = omega arith in
    omega (arith, mul-le-mul_left size up)

module _ (key : ℕ → ℕ) (good : ℕ → Bool) (high count : ℕ) where
  -- what is left to test from j on, behind an entry with the key `last`
  abbrev pub ahead : ℕ → ℕ → Bool
  ahead last j = risen_on key good high last (count - j) j

  -- an entry that follows the one before it, or not
  module _ (last j k : ℕ) {f answer : Bool} (h : j < count) (e : k ≡ key j) (q : f ≡ (ltb last k && good j)) (a : answer ≡ ahead last j) where
    turn : answer ≡ (f && ahead k (j + 1))
    unfolding risen_on
    turn =
        let one : count - j ≡ suc (count - (j + 1)) = omega arith in
        a ∙ rw (one, risen_on, q, e, and_assoc)

    pub stops : not f ≡ true → false ≡ answer
    stops n = sym (turn ∙ rw (not-true f n))

    pub goes_on : (next : ℕ) → next ≡ j + 1 → not f ≡ false → answer ≡ ahead k next
    goes_on next s y = rw s (turn ∙ rw (not-false f y))

  pub ends : (last j : ℕ) {answer : Bool} → count ≤ j → answer ≡ ahead last j → leb last high ≡ answer
  unfolding risen_on
  ends last j h a =
      let none : count - j ≡ 0 = omega arith in
      sym (a ∙ rw (none, risen_on))

-- ── Entries as they are read ────────────────────────────────────────────────────────────────────────────────────

module _ {B : Type 0} (read : List ℕ → Entry B) (header size : ℕ) (good : Entry B → Bool) (b : List ℕ) (high : ℕ) where
  -- read one by one, entries are tested as their list is
  pub risen-read : (last k j : ℕ)
      → risen_on (λ i. (read (drop (header + size * i) b)).key) (λ i. good (read (drop (header + size * i) b))) high last k j
      ≡ risen good high last (read_each read size k (drop (header + size * j) b))
  unfolding risen_on risen read_each
  risen-read last zero j = refl
  risen-read last (suc k) j =
      let next : drop size (drop (header + size * j) b) ≡ drop (header + size * (j + 1)) b = rw (drop-drop, add-one j, mul-suc, add_assoc) in
      rw (next, risen-read (read (drop (header + size * j) b)).key k (j + 1))
