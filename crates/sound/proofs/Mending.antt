-- Mendable, as code tests it: the place's numbers first, then the previous page. Assumes nothing.
use Rattle.std.proofs.Common.{◌≡◌, ℕ, ◌+◌, ◌-◌, ◌<◌, ◌≤◌, Bool, true, false, not, ◌&&◌, ◌||◌, eqb, leb, List, [], ◌∷◌, get_or, drop, sym, ◌∙◌, arith, eq-eqb, ne_eqb, le-leb}
use mathlib.Core.Bool.{and_assoc}
use borrow.Author.Tests.{not-true, not-false}
use Rattle.fields.specs.Field.{le_at}
use Rattle.rules.specs.Layout.{inner_header, child_size, leaf_kind}
use Rattle.rules.specs.Test.{between, every, mem}
use Rattle.rules.specs.Entry.{keys}
use Rattle.rules.specs.Page.{Page, is_leaf, read_each, child_in, view_in, page_in}
use Rattle.rules.specs.Sound.{sound}
use Rattle.rules.specs.Place.{kind_asked, mendable}
use Rattle.rules.specs.declared.Place.{Place}
use Rattle.rules.proofs.Entries.Tests.{between-of, between-below, between-above, between-low, between-high, and_left}
use Rattle.head.specs.declared.Head.{Head}
use Rattle.head.specs.Head.{head_in}
use Rattle.head.proofs.Chain.{every_fails, every-last}
use Rattle.head.proofs.Headers.{kind-view, view-inner}
use Rattle.sound.specs.Pass.{names_previous, covers}
use Rattle.head.proofs.Left.{entry, left, left-all, left-more, left-none}

-- ── A key among the entries ─────────────────────────────────────────────────────────────────────────────────────

module _ (b : List ℕ) (count key : ℕ) where
  abbrev pub sought : Bool
  sought = mem key (keys (read_each child_in child_size count (drop inner_header b)))

  abbrev pub sought_from : ℕ → Bool
  sought_from j = mem key (keys (left child_in inner_header child_size b count j))

  pub seek : sought ≡ sought_from 0
  seek = rw (left-all child_in inner_header child_size b count)

  module _ (j : ℕ) {k : ℕ} (h : j < count) (e : k ≡ (entry child_in inner_header child_size b count j).key) (a : sought ≡ sought_from j) where
    turn : sought ≡ (eqb key k || sought_from (j + 1))
    unfolding keys mem
    turn = a ∙ rw (e, left-more child_in inner_header child_size b count j h, keys, mem)

    pub seek_found : k ≡ key → true ≡ sought
    seek_found q = sym (turn ∙ rw (eq-eqb key k (sym q)))

    pub seek_on : (k ≡ key → ⊥) → sought ≡ sought_from (j + 1)
    seek_on d = turn ∙ rw (ne_eqb key k (λ q. d (sym q)))

  pub seek-end : (j : ℕ) → count ≤ j → sought ≡ sought_from j → false ≡ sought
  unfolding keys mem
  seek-end j h a = sym (a ∙ rw (left-none child_in inner_header child_size b count j h, keys, mem))

-- ── The place's numbers ─────────────────────────────────────────────────────────────────────────────────────────

module _ (n : ℕ) (e : Place) where
  pub names-zero : e.previous ≡ 0 → false ≡ names_previous n e
  unfolding names_previous
  names-zero z = sym (rw (between-below 1 (n - 1) e.previous (omega arith)))

  pub names_beyond : (e.previous ≡ 0 → ⊥) → n ≤ e.previous → false ≡ names_previous n e
  unfolding names_previous
  names_beyond z l = sym (rw (between-above 1 (n - 1) e.previous (omega arith)))

  pub names-other : (e.previous ≡ 0 → ⊥) → e.previous < n → not (eqb e.previous e.child) ≡ names_previous n e
  unfolding names_previous
  names-other z l = rw (between-of 1 (n - 1) e.previous (omega arith) (omega arith))

  -- what follows where they are good
  pub names-within : names_previous n e ≡ true → e.previous < n
  unfolding names_previous
  names-within h =
      let w = and_left (between 1 (n - 1) e.previous) (not (eqb e.previous e.child)) h in
      omega (arith, between-low 1 (n - 1) e.previous w, between-high 1 (n - 1) e.previous w)

  mendable_parts : (q : Page) → mendable n e q ≡ (names_previous n e && covers n e q)
  unfolding mendable names_previous covers every
  mendable_parts q = simp and_assoc

  -- `t` is what code has found of them
  module _ {t : Bool} (f : t ≡ names_previous n e) (q : Page) where
    pub names-none : not t ≡ true → false ≡ mendable n e q
    names-none y = sym (mendable_parts q ∙ rw (← f, not-true t y))

    pub names-some : {g : Bool} → not t ≡ false → g ≡ covers n e q → g ≡ mendable n e q
    names-some y c = c ∙ sym (mendable_parts q ∙ rw (← f, not-false t y))

-- ── The previous page ───────────────────────────────────────────────────────────────────────────────────────────

module _ (n : ℕ) (e : Place) (b : List ℕ) (h : Head) (q : h ≡ head_in b) where
  abbrev starts : Bool
  starts = is_leaf (view_in b) || mem e.low (keys (view_in b).children)

  abbrev pub covers_tests : List Bool
  covers_tests =
      sound n (page_in b)
      ∷ kind_asked e.want h.kind
      ∷ leb h.low e.low
      ∷ leb e.high h.high
      ∷ starts
      ∷ []

  covers-tests : every covers_tests ≡ covers n e (page_in b)
  unfolding covers page_in head_in
  covers-tests = rw (q, kind-view)

  pub covers_fails : (i : ℕ) → get_or covers_tests i true ≡ false → false ≡ covers n e (page_in b)
  covers_fails i f = sym (every_fails covers_tests i f) ∙ covers-tests

  pub covers-last : {g : Bool} → g ≡ starts → sound n (page_in b) ≡ true → kind_asked e.want h.kind ≡ true → h.low ≤ e.low → e.high ≤ h.high → g ≡ covers n e (page_in b)
  covers-last f s k l u =
      f
      ∙ sym
      (every-last (sound n (page_in b) ∷ kind_asked e.want h.kind ∷ leb h.low e.low ∷ leb e.high h.high ∷ []) starts
      (s, (k, (le-leb h.low e.low l, (le-leb e.high h.high u, tt)))))
      ∙ covers-tests

  pub starts-leaf : h.kind ≡ leaf_kind → true ≡ starts
  unfolding is_leaf head_in
  starts-leaf k =
      let j : (view_in b).kind ≡ leaf_kind = kind-view b ∙ (rw q at k) in
      sym (rw (eq-eqb (view_in b).kind leaf_kind j))

  pub starts-inner : (h.kind ≡ leaf_kind → ⊥) → sought b h.count e.low ≡ starts
  unfolding is_leaf head_in
  starts-inner k =
      let j : le_at b 0 2 ≡ leaf_kind → ⊥ = rw q at k in
      rw (q, view-inner b j, ne_eqb (le_at b 0 2) leaf_kind j)
