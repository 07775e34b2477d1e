-- Which pages a write leaves alone. A page that is written is never shorter than a page, so where a table keeps its length each
-- write was of one page exactly, and every other page stays, byte for byte.
use Prim.Native.Nat.{ℕ, ◌+◌, ◌*◌, ◌≤◌, ◌<◌}
use native.Mathlib.Omega.{arith}
use mathlib.Core.Path.{◌≡◌, ap, ◌∙◌}
use mathlib.Core.Logic.{◌≢◌}
use mathlib.Core.List.{List}
use lib.ListN.{length, length-append, length-take, length-drop}
use Rattle.rules.specs.Layout.{page_size, last_key}
use Rattle.rules.specs.Page.{Page, page_in, page_bytes, over, blank, build_bytes, change_bytes, fresh, touch}
use Rattle.rules.specs.Table.{page_at, set_page, read, build, change}
use Rattle.rules.specs.Walk.{Step}
use Rattle.rules.specs.Insert.{lower_page, upper_page, twins, root_over, root_previous, changed, Making, grow, halve}
use Rattle.rules.proofs.Bytes.Pages.{Wide, length-blank, page_in-build_bytes, page_in-change_bytes}
use Rattle.rules.proofs.Bytes.Tables.{Has, length-page_at, page_at-set_page-same, page_at-set_page-other}
use Rattle.rules.proofs.Bytes.PageZero.{length-set_root, page_at-set_root}

-- ── One page ────────────────────────────────────────────────────────────────────────────────────────────────────

length_over : {A : Type 0} (new old : List A) → length old ≤ length (over new old)
unfolding over
length_over new old = simp (length-append, length-drop) (omega arith)

length-set : (t : List ℕ) (i : ℕ) (q : List ℕ) → Has t i → length (set_page t i q) + page_size ≡ length t + length q
unfolding set_page
length-set t i q h = simp (length-append, length-take, length-drop) (omega arith)

module _ (t : List ℕ) (i : ℕ) (p : Page) (h : Has t i) where
  whole-build : page_size ≤ length (build_bytes p)
  unfolding build_bytes
  whole-build = omega (arith, length_over (page_bytes p) blank, length-blank)

  whole-change : page_size ≤ length (change_bytes p (page_at t i))
  unfolding change_bytes
  whole-change = omega (arith, length_over (page_bytes p) (page_at t i), length-page_at t i h)

  build_longer : length t ≤ length (build t i p)
  unfolding build
  build_longer = omega (arith, length-set t i (build_bytes p) h, whole-build)

  change_longer : length t ≤ length (change t i p)
  unfolding change
  change_longer = omega (arith, length-set t i (change_bytes p (page_at t i)) h, whole-change)

  build-other : length (build t i p) ≤ length t → (j : ℕ) → j ≢ i → page_at (build t i p) j ≡ page_at t j
  unfolding build
  build-other e j d =
      page_at-set_page-other t i (build_bytes p) h (omega (arith, length-set t i (build_bytes p) h, whole-build)) j d

  build-same : length (build t i p) ≤ length t → page_at (build t i p) i ≡ build_bytes p
  unfolding build
  build-same e =
      page_at-set_page-same t i (build_bytes p) h (omega (arith, length-set t i (build_bytes p) h, whole-build))

  change-same : length (change t i p) ≤ length t → page_at (change t i p) i ≡ change_bytes p (page_at t i)
  unfolding change
  change-same e =
      page_at-set_page-same t i (change_bytes p (page_at t i)) h
      (omega (arith, length-set t i (change_bytes p (page_at t i)) h, whole-change))

  pub change-other : length (change t i p) ≤ length t → (j : ℕ) → j ≢ i → page_at (change t i p) j ≡ page_at t j
  unfolding change
  change-other e j d =
      page_at-set_page-other t i (change_bytes p (page_at t i)) h
      (omega (arith, length-set t i (change_bytes p (page_at t i)) h, whole-change)) j d

-- ── One page halved ─────────────────────────────────────────────────────────────────────────────────────────────

module _ {n : ℕ} (c k : ℕ) (M : Making) (s : Step) (a b : ℕ) (long : n * page_size ≤ length M.table)
    (a_in : a < n) (b-in : b < n) (at_in : M.at < n) where
  abbrev T₁ : List ℕ
  T₁ = build M.table a (lower_page c s.page)

  abbrev T₂ : List ℕ
  T₂ = build T₁ b (upper_page c s.page)

  abbrev above : Page
  above = touch c (twins c s a b (read T₂ M.at).view) (read T₂ M.at)

  has_a : Has M.table a
  has_a = omega arith

  longer_a : length M.table ≤ length T₁
  longer_a = build_longer M.table a (lower_page c s.page) has_a

  has_b : Has T₁ b
  has_b = omega (arith, longer_a)

  longer_b : length T₁ ≤ length T₂
  longer_b = build_longer T₁ b (upper_page c s.page) has_b

  has-at : Has T₂ M.at
  has-at = omega (arith, longer_a, longer_b)

  longer_at : length T₂ ≤ length (change T₂ M.at above)
  longer_at = change_longer T₂ M.at above has-at

  pub halve_longer : length M.table ≤ length (halve c k s a b M).table
  unfolding halve changed
  halve_longer = omega (arith, longer_a, longer_b, longer_at)

  pub halve-other : length (halve c k s a b M).table ≤ length M.table → (i : ℕ) → i ≢ a → i ≢ b → i ≢ M.at
      → page_at (halve c k s a b M).table i ≡ page_at M.table i
  unfolding halve changed
  halve-other e i x y z =
      change-other T₂ M.at above has-at (omega (arith, e, longer_a, longer_b)) i z
      ∙ (build-other T₁ b (upper_page c s.page) has_b (omega (arith, e, longer_a, longer_at)) i y
      ∙ build-other M.table a (lower_page c s.page) has_a (omega (arith, e, longer_b, longer_at)) i x)

  -- the halves, and the page above with its two entries
  module _ (e : length (halve c k s a b M).table ≤ length M.table) where
    pub halve-lower : Wide (lower_page c s.page) → a ≢ b → a ≢ M.at → read (halve c k s a b M).table a ≡ lower_page c s.page
    unfolding read halve changed
    halve-lower x y z =
        ap page_in
        (change-other T₂ M.at above has-at (omega (arith, e, longer_a, longer_b)) a z
        ∙ (build-other T₁ b (upper_page c s.page) has_b (omega (arith, e, longer_a, longer_at)) a y
        ∙ build-same M.table a (lower_page c s.page) has_a (omega (arith, e, longer_b, longer_at))))
        ∙ page_in-build_bytes x

    pub halve-upper : Wide (upper_page c s.page) → b ≢ M.at → read (halve c k s a b M).table b ≡ upper_page c s.page
    unfolding read halve changed
    halve-upper x z =
        ap page_in
        (change-other T₂ M.at above has-at (omega (arith, e, longer_a, longer_b)) b z
        ∙ build-same T₁ b (upper_page c s.page) has_b (omega (arith, e, longer_a, longer_at)))
        ∙ page_in-build_bytes x

    still-at : M.at ≢ a → M.at ≢ b → read T₂ M.at ≡ read M.table M.at
    unfolding read halve changed
    still-at x y =
        ap page_in
        (build-other T₁ b (upper_page c s.page) has_b (omega (arith, e, longer_a, longer_at)) M.at y
        ∙ build-other M.table a (lower_page c s.page) has_a (omega (arith, e, longer_b, longer_at)) M.at x)

    pub halve-above : (q : Page) → read M.table M.at ≡ q → Wide (touch c (twins c s a b q.view) q) → M.at ≢ a → M.at ≢ b
        → read (halve c k s a b M).table M.at ≡ touch c (twins c s a b q.view) q
    unfolding read halve changed
    halve-above q h x y z =
        ap page_in (change-same T₂ M.at above has-at (omega (arith, e, longer_a, longer_b)))
        ∙ (ap (λ (o : Page). page_in (change_bytes (touch c (twins c s a b o.view) o) (page_at T₂ M.at))) (still-at y z ∙ h)
        ∙ page_in-change_bytes x (page_at T₂ M.at))

-- ── A new root ──────────────────────────────────────────────────────────────────────────────────────────────────

module _ (c : ℕ) (M : Making) (s : Step) (g : ℕ) (has : Has M.table g) where
  abbrev root : Page
  root = fresh c c 0 last_key (root_over s)

  same_length : length (grow c s g M).table ≡ length (build M.table g root)
  unfolding grow
  same_length = length-set_root (build M.table g root) g (root_previous c s) c

  pub grow_longer : length M.table ≤ length (grow c s g M).table
  grow_longer = omega (arith, same_length, build_longer M.table g root has)

  pub grow-other : length (grow c s g M).table ≤ length M.table → (i : ℕ) → 1 ≤ i → i ≢ g
      → page_at (grow c s g M).table i ≡ page_at M.table i
  unfolding grow
  grow-other e i o d =
      page_at-set_root (build M.table g root) g (root_previous c s) c i o
      ∙ build-other M.table g root has (omega (arith, e, same_length)) i d

  pub grow-new : length (grow c s g M).table ≤ length M.table → 1 ≤ g → Wide root → read (grow c s g M).table g ≡ root
  unfolding read grow
  grow-new e o x =
      ap page_in
      (page_at-set_root (build M.table g root) g (root_previous c s) c g o
      ∙ build-same M.table g root has (omega (arith, e, same_length)))
      ∙ page_in-build_bytes x
