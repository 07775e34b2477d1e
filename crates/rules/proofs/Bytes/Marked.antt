-- The session's marks: what is read of them after a page was taken, freed or set waiting, at opening and after a sync; and
-- the numbers that are free. Assumes nothing.
use Rattle.std.proofs.Common.{◌≡◌, ℕ, zero, suc, ◌+◌, ◌-◌, ◌<◌, ◌≤◌, Bool, true, false, not, ◌&&◌, ◌||◌, ltb, ◌≢◌, length, get_or, set, sym, refl, ap, ◌∙◌, add-zero, add-suc, suc-add, zero-add, arith, length-set, get_or-set_other, get_or-set_same, ltb-false, ltb-true}
use lib.ListN.{get_or-eq_default}
use Rattle.rules.specs.Layout.{most_pages}
use Rattle.rules.specs.Test.{mem}
use Rattle.rules.specs.Tree.{Tree}
use Rattle.rules.specs.Marks.{taken, freed, waits, marks_from, marks, is_page, opened, turned}
use Rattle.rules.specs.declared.Session.{Session}
use Rattle.rules.proofs.Entries.Tests.{between-low, between-high, between-of}

-- ── A mark for each number ──────────────────────────────────────────────────────────────────────────────────────

pub length-marks_from : (mark : ℕ → Bool) (i k : ℕ) → length (marks_from mark i k) ≡ k
unfolding marks_from
length-marks_from mark i zero = refl
length-marks_from mark i (suc k) = ap suc (length-marks_from mark (suc i) k)

pub get_d_marks_from : (mark : ℕ → Bool) (i k j : ℕ) (d : Bool) → j < k → get_or (marks_from mark i k) j d ≡ mark (i + j)
unfolding marks_from
get_d_marks_from mark i zero j d h = absurd (omega arith)
get_d_marks_from mark i (suc k) zero d h = rw add-zero
get_d_marks_from mark i (suc k) (suc j) d h =
    get_d_marks_from mark (suc i) k j d (omega arith) ∙ ap mark (suc-add i j ∙ sym (add-suc i j))

pub length-marks : (mark : ℕ → Bool) → length (marks mark) ≡ most_pages
unfolding marks
length-marks mark = length-marks_from mark 0 most_pages

pub get_d_marks : (mark : ℕ → Bool) (j : ℕ) (d : Bool) → j < most_pages → get_or (marks mark) j d ≡ mark j
unfolding marks
get_d_marks mark j d h = get_d_marks_from mark 0 most_pages j d h ∙ ap mark (zero-add j)

-- marks that agree at every number they speak of are the same
pub marks_from-same : (f g : ℕ → Bool) (i k : ℕ) → ((j : ℕ) → i ≤ j → j < i + k → f j ≡ g j) → marks_from f i k ≡ marks_from g i k
unfolding marks_from
marks_from-same f g i zero h = refl
marks_from-same f g i (suc k) h =
    rw (h i (omega arith) (omega arith), marks_from-same f g (suc i) k (λ j l b. h j (omega arith) (omega arith)))

pub marks-same : (f g : ℕ → Bool) → ((j : ℕ) → j < most_pages → f j ≡ g j) → marks f ≡ marks g
unfolding marks
marks-same f g h = marks_from-same f g 0 most_pages (λ j l b. h j (omega arith))

-- ── A session's lists of marks ──────────────────────────────────────────────────────────────────────────────────

-- a mark for each page that a table can have
pub record Sized (s : Session) : Type 0 where
  pub free : length s.free ≡ most_pages
  pub waiting : length s.waiting ≡ most_pages

module _ {s : Session} (z : Sized s) where
  pub sized-taken : (i : ℕ) → Sized (taken i s)
  sized-taken i = record { free = length-set s.free i false ∙ z.free; waiting = z.waiting }

  pub sized-freed : (i : ℕ) → Sized (freed i s)
  sized-freed i = record { free = length-set s.free i true ∙ z.free; waiting = z.waiting }

  pub sized-waits : (i : ℕ) → Sized (waits i s)
  sized-waits i = record { free = z.free; waiting = length-set s.waiting i true ∙ z.waiting }

pub sized-opened : (n c : ℕ) (t : Tree) → Sized (opened n c t)
unfolding opened
sized-opened n c t = record {
  free = length-marks (λ i. is_page n i && (not (mem i t.children) && not (mem i t.spared)));
  waiting = length-marks (λ i. false);
}

pub sized-turned : (s : Session) → Sized (turned s)
unfolding turned
sized-turned s = record {
  free = length-marks (λ i. get_or s.free i false || (is_page s.n i && get_or s.waiting i false));
  waiting = length-marks (λ i. not (is_page s.n i) && get_or s.waiting i false);
}

-- ── One page's marks ────────────────────────────────────────────────────────────────────────────────────────────

module _ (s : Session) (i : ℕ) where
  -- a page taken is free no longer
  pub free-taken-same : get_or (taken i s).free i false ≡ false
  free-taken-same = go (ltb i (length s.free)) refl
    where
      go : (t : Bool) → ltb i (length s.free) ≡ t → get_or (set s.free i false) i false ≡ false
      go true e = get_or-set_same s.free i false false (ltb-true i (length s.free) e)
      go false e =
          get_or-eq_default (set s.free i false) false (rw length-set (ltb-false i (length s.free) e))

  pub free-taken-other : (j : ℕ) → j ≢ i → get_or (taken i s).free j false ≡ get_or s.free j false
  free-taken-other j d = get_or-set_other s.free i j false false d

  pub free-freed-same : i < length s.free → get_or (freed i s).free i false ≡ true
  free-freed-same h = get_or-set_same s.free i true false h

  pub free-freed-other : (j : ℕ) → j ≢ i → get_or (freed i s).free j false ≡ get_or s.free j false
  free-freed-other j d = get_or-set_other s.free i j true false d

  pub waiting-waits-same : i < length s.waiting → get_or (waits i s).waiting i false ≡ true
  waiting-waits-same h = get_or-set_same s.waiting i true false h

  pub waiting-waits-other : (j : ℕ) → j ≢ i → get_or (waits i s).waiting j false ≡ get_or s.waiting j false
  waiting-waits-other j d = get_or-set_other s.waiting i j true false d

-- ── At opening, and after a sync ────────────────────────────────────────────────────────────────────────────────

module _ (i : ℕ) (h : i < most_pages) where
  pub free-opened : (n c : ℕ) (t : Tree) → get_or (opened n c t).free i false ≡ (is_page n i && (not (mem i t.children) && not (mem i t.spared)))
  unfolding opened
  free-opened n c t =
      get_d_marks (λ j. is_page n j && (not (mem j t.children) && not (mem j t.spared))) i false h

  pub waiting-opened : (n c : ℕ) (t : Tree) → get_or (opened n c t).waiting i false ≡ false
  unfolding opened
  waiting-opened n c t = get_d_marks (λ j. false) i false h

  pub free-turned : (s : Session) → get_or (turned s).free i false ≡ (get_or s.free i false || (is_page s.n i && get_or s.waiting i false))
  unfolding turned
  free-turned s =
      get_d_marks (λ j. get_or s.free j false || (is_page s.n j && get_or s.waiting j false)) i false h

  pub waiting_turned : (s : Session) → get_or (turned s).waiting i false ≡ (not (is_page s.n i) && get_or s.waiting i false)
  unfolding turned
  waiting_turned s = get_d_marks (λ j. not (is_page s.n j) && get_or s.waiting j false) i false h

-- a page's number is one of 1 to n - 1
pub is_page_true : (n i : ℕ) → is_page n i ≡ true → (1 ≤ i) × (i < n)
unfolding is_page
is_page_true n i h =
    let low = between-low 1 (n - 1) i h in
    let high = between-high 1 (n - 1) i h in
    (low, omega arith)

pub page-is_page : (n i : ℕ) → 1 ≤ i → i < n → is_page n i ≡ true
unfolding is_page
page-is_page n i h k = between-of 1 (n - 1) i h (omega arith)
