-- Entries of a page one by one: the first of a run and those behind it, and how many pass a search. Assumes nothing.
use Rattle.std.proofs.Common.{◌≡◌, ℕ, zero, suc, ◌+◌, ◌-◌, ◌*◌, ◌<◌, ◌≤◌, List, [], ◌∷◌, length, get_or, take, drop, refl, ap, ◌∙◌, arith, drop-drop}
use Rattle.rules.specs.Layout.{inner_header, child_size}
use Rattle.rules.specs.Page.{read_each, child_in}
use Rattle.rules.specs.Table.{page_at}
use Rattle.rules.specs.Entry.{Child}
use Rattle.rules.specs.Place.{high_before, place_of, places_in}
use Rattle.rules.proofs.Bytes.Each.{length-read_each, take-read_each, drop-read_each}
use Rattle.head.specs.Head.{child_at, nowhere}
use Rattle.head.proofs.Kids.{kid_at}
use Rattle.seen.specs.declared.Run.{Run}
use Rattle.seen.specs.Run.{entries_from, entries_in, up_to, end_of, place_in, places, rest_of}
use Rattle.seen.proofs.Cuts.{up_to_in, up_to-out, up_to-nil}

module _ (b : List ℕ) where
  from_none : (first left : ℕ) → left ≡ 0 → entries_from first left b ≡ []
  unfolding read_each
  from_none first zero h = refl
  from_none first (suc k) h = absurd (omega arith)

  next : (first k : ℕ) → entries_from first (suc k) b ≡ child_at b first ∷ entries_from (first + 1) k b
  unfolding read_each child_at
  next first k =
      let e : inner_header + child_size * first + child_size ≡ inner_header + child_size * (first + 1) = omega arith in
      ap (λ (x : List ℕ). child_in (drop (inner_header + child_size * first) b) ∷ read_each child_in child_size k x)
      (drop-drop child_size (inner_header + child_size * first) b
      ∙ ap (λ (i : ℕ). drop i b) e)

  from-more : (first left : ℕ) → 0 < left
      → entries_from first left b ≡ child_at b first ∷ entries_from (first + 1) (left - 1) b
  from-more first zero h = absurd (omega arith)
  from-more first (suc k) h =
      let e : k ≡ suc k - 1 = omega arith in
      next first k ∙ ap (λ (j : ℕ). child_at b first ∷ entries_from (first + 1) j b) e

  pub length-from : (first left : ℕ) → length (entries_from first left b) ≡ left
  length-from first left = length-read_each child_in child_size left (drop (inner_header + child_size * first) b)

  -- ── A search ──────────────────────────────────────────────────────────────────────────────────────────────────

  module _ (from count key : ℕ) where
    -- entries from a number on up to j have passed
    abbrev pub Passed : ℕ → Type 0
    Passed j = up_to key (entries_from from (count - from) b) ≡ (j - from) + up_to key (entries_from j (count - j) b)

    pub pass_start : Passed from
    pass_start = omega arith

    module _ (j : ℕ) (after : from ≤ j) where
      at_last : j < count → entries_from j (count - j) b ≡ child_at b j ∷ entries_from (j + 1) (count - (j + 1)) b
      at_last h =
          let e : count - j - 1 ≡ count - (j + 1) = omega arith in
          from-more j (count - j) (omega arith)
          ∙ ap (λ (i : ℕ). child_at b j ∷ entries_from (j + 1) i b) e

      pub pass_stop : j < count → key < (child_at b j).key → Passed j → j - from ≡ up_to key (entries_from from (count - from) b)
      pass_stop h k p =
          let z = ap (up_to key) (at_last h) ∙ up_to-out key (child_at b j) (entries_from (j + 1) (count - (j + 1)) b) k in
          omega arith

      pub pass_on : j < count → (child_at b j).key ≤ key → Passed j → Passed (j + 1)
      pass_on h k p =
          let z = ap (up_to key) (at_last h) ∙ up_to_in key (child_at b j) (entries_from (j + 1) (count - (j + 1)) b) k in
          omega arith

      pub pass_end : count ≤ j → Passed j → j - from ≡ up_to key (entries_from from (count - from) b)
      pass_end h p =
          let z = ap (up_to key) (from_none j (count - j) (omega arith)) ∙ up_to-nil key in
          omega arith

-- ── Entries of page i of a table ────────────────────────────────────────────────────────────────────────────────

module _ (t : List ℕ) (page : ℕ) where
  pub entries_none : (first left : ℕ) → left ≡ 0 → entries_in t page first left ≡ []
  unfolding entries_in
  entries_none first left h = from_none (page_at t page) first left h

  pub entries-more : (first left : ℕ) → 0 < left
      → entries_in t page first left ≡ child_at (page_at t page) first ∷ entries_in t page (first + 1) (left - 1)
  unfolding entries_in
  entries-more first left h = from-more (page_at t page) first left h

  pub length-entries : (first left : ℕ) → length (entries_in t page first left) ≡ left
  unfolding entries_in
  length-entries first left = length-from (page_at t page) first left

  pub take-entries : (i first left : ℕ) → i ≤ left → take i (entries_in t page first left) ≡ entries_in t page first i
  unfolding entries_in
  take-entries i first left h = take-read_each child_in child_size i left (drop (inner_header + child_size * first) (page_at t page)) h

  pub drop-entries : (i left : ℕ) → drop i (entries_in t page 0 left) ≡ entries_in t page i (left - i)
  unfolding entries_in
  drop-entries i left =
      drop-read_each child_in child_size i left (drop inner_header (page_at t page))
      ∙ ap (read_each child_in child_size (left - i)) (drop-drop (child_size * i) inner_header (page_at t page))

-- ── A run's first entry ─────────────────────────────────────────────────────────────────────────────────────────

module _ (t : List ℕ) (high : ℕ) (r : Run) where
  -- what is read as the entry at its index, among those up to the run's end
  pub place-kid : 0 < r.left
      → get_or (places_in r.want high (read_each child_in child_size (r.first + r.left) (drop inner_header (page_at t r.page)))) r.first nowhere
      ≡ place_in t high r
  unfolding place_in end_of entries_in
  place-kid h =
      let k : r.first + r.left - (r.first + 1) ≡ r.left - 1 = omega arith in
      kid_at (page_at t r.page) (r.first + r.left) high r.want r.first nowhere (omega arith)
      ∙ ap (λ (xs : List Child). place_of r.want (high_before high xs) (child_at (page_at t r.page) r.first))
      (drop-entries t r.page (r.first + 1) (r.first + r.left) ∙ ap (entries_in t r.page (r.first + 1)) k)

  pub places-none : r.left ≡ 0 → places t high r ≡ []
  unfolding places places_in
  places-none h = ap (places_in r.want high) (entries_none t r.page r.first r.left h)

  pub places-more : 0 < r.left → places t high r ≡ place_in t high r ∷ places t high (rest_of r)
  unfolding places places_in place_in end_of
  places-more h = ap (places_in r.want high) (entries-more t r.page r.first r.left h)
