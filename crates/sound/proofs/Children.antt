-- An inner page's entries as code tests them: what one names, and that the first starts at low. Assumes nothing.
use Rattle.std.proofs.Common.{◌≡◌, ℕ, zero, suc, ◌+◌, ◌-◌, ◌%◌, ◌^◌, ◌<◌, ◌≤◌, Bool, true, false, not, ◌&&◌, eqb, ltb, List, drop, sym, refl, ◌∙◌, arith, ltb-false, ltb-true, le-ltb, eq-eqb, ne_eqb}
use mathlib.Core.Bool.{and-false}
use Rattle.rules.specs.Layout.{inner_header, child_size}
use Rattle.rules.specs.Test.{between}
use Rattle.rules.specs.Entry.{Child}
use Rattle.rules.specs.Page.{read_each, child_in}
use Rattle.rules.specs.Sound.{starts_at, names_pages}
use Rattle.rules.proofs.Entries.Tests.{between-of, between-below, between-above}
use Rattle.sound.specs.Pass.{risen_on, children_pass}
use Rattle.head.specs.Head.{child_at}
use Rattle.head.proofs.Left.{left-all, left-more}
use Rattle.sound.proofs.Turn.{after, first_bad, first_on}
use Rattle.sound.proofs.Rising.{goes_on, risen-read}

-- ── What an entry names ─────────────────────────────────────────────────────────────────────────────────────────

-- one less than the child, and one less than n, wrap: 0 becomes the largest number
module _ (n : ℕ) (x : Child) {child r m : ℕ} (e : child ≡ x.value.child) (p : (r + 1) % 2 ^ 64 ≡ child) (q : (m + 1) % 2 ^ 64 ≡ n) (u : r < 2 ^ 64) (v : m < 2 ^ 64) where
  pub names_outside : m ≤ r → false ≡ names_pages n x
  unfolding names_pages
  names_outside l = sym (rw (← e) (rw (go (ltb child 1) refl)))
    where
      go : (t : Bool) → ltb child 1 ≡ t → between 1 (n - 1) child ≡ false
      go true z = between-below 1 (n - 1) child (ltb-true child 1 z)
      go false z = between-above 1 (n - 1) child (omega (arith, ltb-false child 1 z, l, p, q, u, v))

  pub names_by_previous : {previous : ℕ} → previous ≡ x.value.previous → r < m → ltb previous n ≡ names_pages n x
  unfolding names_pages
  names_by_previous {previous} f l = rw (f, ← e) (go n refl)
    where
      go : (i : ℕ) → i ≡ n → ltb x.value.previous n ≡ (between 1 (n - 1) child && ltb x.value.previous n)
      go zero z = rw (← z, le-ltb x.value.previous 0 (omega arith), and-false)
      go (suc i) z = rw (between-of 1 (n - 1) child (omega (arith, z, l, p, q, u, v)) (omega (arith, z, l, p, q, u, v)))

-- ── The first entry ─────────────────────────────────────────────────────────────────────────────────────────────

module _ (b : List ℕ) (count low high n : ℕ) where
  abbrev answer : Bool
  answer = children_pass n low high (read_each child_in child_size count (drop inner_header b))

  -- the answer is what is left to test from j on, behind the key `last`
  abbrev pub ChildrenLeft : ℕ → ℕ → Type 0
  ChildrenLeft last j = answer ≡ after child_in inner_header child_size (names_pages n) b count low high last j

  pub no_child : count ≡ 0 → false ≡ answer
  unfolding children_pass starts_at read_each
  no_child h = rw (h, read_each, starts_at)

  module _ (k : ℕ) (h : 0 < count) (e : k ≡ (child_at b 0).key) where
    starts : starts_at low (read_each child_in child_size count (drop inner_header b)) ≡ eqb k low
    unfolding starts_at child_at
    starts = rw (left-all child_in inner_header child_size b count, left-more child_in inner_header child_size b count 0 h, starts_at, e)

    pub starts_elsewhere : (k ≡ low → ⊥) → false ≡ answer
    unfolding children_pass
    starts_elsewhere d = sym (rw (starts, ne_eqb k low d))

    pub starts_bad : {g : Bool} → g ≡ names_pages n (child_at b 0) → not g ≡ true → false ≡ answer
    unfolding children_pass child_at
    starts_bad f y = rw (← first_bad child_in inner_header child_size (names_pages n) b count low high 0 h e f refl y, and-false)

    pub starts_on : {g r : Bool} → g ≡ names_pages n (child_at b 0) → k ≡ low → not g ≡ false
        → r ≡ risen_on (λ j. (child_at b j).key) (λ j. names_pages n (child_at b j)) high k (count - 1) 1 → r ≡ answer
    unfolding children_pass child_at
    starts_on f q y z =
        z ∙ risen-read child_in inner_header child_size (names_pages n) b high k (count - 1) 1
        ∙ sym (rw (starts, eq-eqb k low q) (first_on child_in inner_header child_size (names_pages n) b count low high 0 h e f refl (omega arith) y))

  -- ── Each one behind it ────────────────────────────────────────────────────────────────────────────────────────

  module _ (last j k : ℕ) {f : Bool} (h : j < count) (e : k ≡ (child_at b j).key) (q : f ≡ (ltb last k && names_pages n (child_at b j))) (a : ChildrenLeft last j) where
    -- one that follows and names pages leaves those behind it
    pub children_on : (next : ℕ) → next ≡ j + 1 → not f ≡ false → ChildrenLeft k next
    unfolding child_at
    children_on next s y =
        goes_on (λ (i : ℕ). (child_at b i).key) (λ (i : ℕ). names_pages n (child_at b i)) high count last j k h e q
        (a ∙ sym (risen-read child_in inner_header child_size (names_pages n) b high last (count - j) j)) next s y
        ∙ risen-read child_in inner_header child_size (names_pages n) b high k (count - next) next
