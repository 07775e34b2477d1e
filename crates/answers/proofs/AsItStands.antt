-- Opening's three tests of the tree, place by place: each fails exactly where its cause stands in the tree.
-- Assumes nothing.
use Prim.Native.Nat.{ℕ, zero, suc}
use native.Mathlib.Omega.{arith}
use mathlib.Core.Path.{◌≡◌, refl, sym, ap, ◌∙◌, subst}
use mathlib.Core.Logic.{◌⊎◌, inl, inr}
use mathlib.Core.Bool.{Bool, true, false, not}
use mathlib.Core.List.Memᴰ
use mathlib.Core.List.{List, [], ◌∷◌, ◌++◌, Memᴰ}
use mathlib.Core.Option.{Option, some, none}
use Rattle.rules.specs.Layout.{top_kind}
use Rattle.rules.specs.Test.{all, mem, distinct}
use Rattle.rules.specs.Page.{View}
use Rattle.rules.specs.Table.{read}
use Rattle.rules.specs.Place.{root_place, kids, fits, show}
use Rattle.rules.specs.Tree.{Tree, broken, empty, join, spared_at, here, tree_each, tree, tree_of}
use Rattle.rules.specs.declared.Place.{Place}
use Rattle.rules.proofs.Entries.Tests.{and_left, and_right, and_other, fails, not_both, mem-nil, mem-head, mem_tail, mem_cases, mem-left, mem_right, mem-append_cases, all-mem, distinct_apart, distinct_cons}
use Rattle.rules.proofs.Demand3.Epochs.Opens.{tree-shown, spared-lost}
use Rattle.answers.specs.AsItStands.{InTree, at_root_lem, below, HasDamage, NamedTwice, ChildSpared}
use Rattle.answers.proofs.Deep.{Deep, not_out, kid-deep}

-- ── The trees of some places, joined ────────────────────────────────────────────────────────────────────────────

module _ (f : Place → Tree) where
  pub each_whole : (es : List Place) (d : Place) → Memᴰ d es → (tree_each f es).whole ≡ true → (f d).whole ≡ true
  unfolding tree_each join
  each_whole [] d m h = absurd (Memᴰ.not-nil m)
  each_whole (e ∷ es) d m h = go (Memᴰ.cases_cons m) (each_whole es d)
    where
      go : (d ≡ e) ⊎ Memᴰ d es → (Memᴰ d es → (tree_each f es).whole ≡ true → (f d).whole ≡ true) → (f d).whole ≡ true
      go (inl q) ih = ap (λ (x : Place). (f x).whole) q ∙ and_left (f e).whole (tree_each f es).whole h
      go (inr m) ih = ih m (and_right (f e).whole (tree_each f es).whole h)

  pub each_spare : (i : ℕ) (es : List Place) (d : Place) → Memᴰ d es → mem i (f d).spared ≡ true → mem i (tree_each f es).spared ≡ true
  unfolding tree_each join
  each_spare i [] d m h = absurd (Memᴰ.not-nil m)
  each_spare i (e ∷ es) d m h = go (Memᴰ.cases_cons m) (each_spare i es d)
    where
      go : (d ≡ e) ⊎ Memᴰ d es → (Memᴰ d es → mem i (f d).spared ≡ true → mem i (tree_each f es).spared ≡ true)
          → mem i ((f e).spared ++ (tree_each f es).spared) ≡ true
      go (inl q) ih = mem-left i (f e).spared (tree_each f es).spared (ap (λ (x : Place). mem i (f x).spared) (sym q) ∙ h)
      go (inr m) ih = mem_right i (f e).spared (tree_each f es).spared (ih m h)

  -- what is not whole, or spares a number, is one of them
  which_broken : (es : List Place) → (tree_each f es).whole ≡ false → (d : Place) × Memᴰ d es × ((f d).whole ≡ false)
  unfolding tree_each join empty
  which_broken [] h = absurd (not_both refl h)
  which_broken (e ∷ es) h = go (f e).whole refl (which_broken es)
    where
      go : (b : Bool) → (f e).whole ≡ b → ((tree_each f es).whole ≡ false → (d : Place) × Memᴰ d es × ((f d).whole ≡ false))
          → (d : Place) × Memᴰ d (e ∷ es) × ((f d).whole ≡ false)
      go false b ih = (e, Memᴰ.head refl, b)
      go true b ih =
          let x = ih (and_other (f e).whole (tree_each f es).whole h b) in
          (x.0, Memᴰ.tail x.1, x.2)

  which_spares : (i : ℕ) (es : List Place) → mem i (tree_each f es).spared ≡ true → (d : Place) × Memᴰ d es × (mem i (f d).spared ≡ true)
  unfolding tree_each join empty
  which_spares i [] h = absurd (mem-nil i h)
  which_spares i (e ∷ es) h = go (mem-append_cases i (f e).spared (tree_each f es).spared h) (which_spares i es)
    where
      go : (mem i (f e).spared ≡ true) ⊎ (mem i (tree_each f es).spared ≡ true)
          → (mem i (tree_each f es).spared ≡ true → (d : Place) × Memᴰ d es × (mem i (f d).spared ≡ true))
          → (d : Place) × Memᴰ d (e ∷ es) × (mem i (f d).spared ≡ true)
      go (inl m) ih = (e, Memᴰ.head refl, m)
      go (inr m) ih = let x = ih m in (x.0, Memᴰ.tail x.1, x.2)

-- ── The tree of one place ───────────────────────────────────────────────────────────────────────────────────────

module _ (n : ℕ) (t : List ℕ) where
  tree-none : (level : ℕ) (e : Place) → show n t e ≡ none → tree level n t e ≡ broken
  unfolding tree
  tree-none zero e s = refl
  tree-none (suc level) e s = rw (s, tree)

  broken-whole : broken.whole ≡ false
  unfolding broken
  broken-whole = refl

  broken-spared : broken.spared ≡ []
  unfolding broken
  broken-spared = refl

  module _ (level : ℕ) (e : Place) (v : View) (s : show n t e ≡ some v) where
    abbrev under : Tree
    under = tree_each (tree level n t) (kids e v)

    shown-whole : (tree (suc level) n t e).whole ≡ under.whole
    unfolding join here
    shown-whole = ap (λ (x : Tree). x.whole) (tree-shown level n t e v s)

    shown-spared : (tree (suc level) n t e).spared ≡ spared_at n t e ++ under.spared
    unfolding join here
    shown-spared = ap (λ (x : Tree). x.spared) (tree-shown level n t e v s)

  -- ── From the top down to a place of the tree ────────────────────────────────────────────────────────────────────

  -- the tree of a place is a part of the whole tree
  record Part (e : Place) : Type 0 where
    level : ℕ
    deep : Deep level e
    whole : (tree_of n t).whole ≡ true → (tree level n t e).whole ≡ true
    spares : (i : ℕ) → mem i (tree level n t e).spared ≡ true → mem i (tree_of n t).spared ≡ true

  part_below : (e d : Place) (v : View) → show n t d ≡ some v → Memᴰ e (kids d v) → (level : ℕ) → Deep level d
      → ((tree_of n t).whole ≡ true → (tree level n t d).whole ≡ true)
      → ((i : ℕ) → mem i (tree level n t d).spared ≡ true → mem i (tree_of n t).spared ≡ true) → Part e
  part_below e d v s m zero deep w f = absurd (not_out d deep)
  part_below e d v s m (suc level) deep w f = record {
    level = level;
    deep = kid-deep n t level d v deep s e m;
    whole = λ h. each_whole (tree level n t) (kids d v) e m (sym (shown-whole level d v s) ∙ w h);
    spares = λ i h. f i
        (ap (mem i) (shown-spared level d v s)
        ∙ mem_right i (spared_at n t d) (tree_each (tree level n t) (kids d v)).spared (each_spare (tree level n t) i (kids d v) e m h));
  }

  root-deep : Deep top_kind (root_place t)
  unfolding root_place
  root-deep = inl (refl, omega arith)

  part : (e : Place) → InTree n t e → Part e
  unfolding tree_of
  part e (at_root_lem q) =
      subst Part (sym q) (record { level = top_kind; deep = root-deep; whole = λ h. h; spares = λ i h. h })
  part e (below d v x s m) =
      let p = part d x in
      part_below e d v s m p.level p.deep p.whole p.spares

  -- ── From a place of the tree down to its cause ──────────────────────────────────────────────────────────────────

  broken-at : (level : ℕ) (e : Place) → Deep level e → InTree n t e → (tree level n t e).whole ≡ false → HasDamage n t
  broken-at zero e deep x h = absurd (not_out e deep)
  broken-at (suc level) e deep x h = go (show n t e) refl (broken-at level)
    where
      go : (o : Option View) → show n t e ≡ o
          → ((d : Place) → Deep level d → InTree n t d → (tree level n t d).whole ≡ false → HasDamage n t) → HasDamage n t
      go none s ih = record { place = e; stands = x; damaged = s }
      go (some v) s ih =
          let b = which_broken (tree level n t) (kids e v) (sym (shown-whole level e v s) ∙ h) in
          ih b.0 (kid-deep n t level e v deep s b.0 b.1) (below e v x s b.1) b.2

  -- a lost entry that names a number as previous
  abbrev Loses : ℕ → Type 0
  Loses i = (d : Place) × InTree n t d × (fits n d (read t d.child) ≡ false) × (d.previous ≡ i)

  own-spared : (i : ℕ) (e : Place) → InTree n t e → mem i (spared_at n t e) ≡ true → Loses i
  unfolding spared_at
  own-spared i e x h = go (fits n e (read t e.child)) refl
    where
      named : (i ≡ e.previous) ⊎ (mem i [] ≡ true) → fits n e (read t e.child) ≡ false → Loses i
      named (inl q) f = (e, x, f, sym q)
      named (inr m) f = absurd (mem-nil i m)

      go : (b : Bool) → fits n e (read t e.child) ≡ b → Loses i
      go true f = absurd (mem-nil i (rw (f, spared_at) at h))
      go false f = named (mem_cases i e.previous [] (ap (mem i) (sym (spared-lost n t e f)) ∙ h)) f

  spared_at_lem : (i level : ℕ) (e : Place) → Deep level e → InTree n t e → mem i (tree level n t e).spared ≡ true → Loses i
  spared_at_lem i zero e deep x h = absurd (not_out e deep)
  spared_at_lem i (suc level) e deep x h = go (show n t e) refl (spared_at_lem i level)
    where
      go : (o : Option View) → show n t e ≡ o
          → ((d : Place) → Deep level d → InTree n t d → mem i (tree level n t d).spared ≡ true → Loses i) → Loses i
      go none s ih =
          absurd (mem-nil i (ap (mem i) (sym (ap (λ (z : Tree). z.spared) (tree-none (suc level) e s) ∙ broken-spared)) ∙ h))
      go (some v) s ih =
          both (mem-append_cases i (spared_at n t e) (under level e v s).spared (ap (mem i) (sym (shown-spared level e v s)) ∙ h))
        where
          both : (mem i (spared_at n t e) ≡ true) ⊎ (mem i (under level e v s).spared ≡ true) → Loses i
          both (inl m) = own-spared i e x m
          both (inr m) =
              let b = which_spares (tree level n t) i (kids e v) m in
              ih b.0 (kid-deep n t level e v deep s b.0 b.1) (below e v x s b.1) b.2

  -- ── The three tests ─────────────────────────────────────────────────────────────────────────────────────────────

  pub not_whole : (tree_of n t).whole ≡ false → HasDamage n t
  unfolding tree_of
  not_whole h = broken-at top_kind (root_place t) root-deep (at_root_lem refl) h

  pub whole-none : (tree_of n t).whole ≡ true → HasDamage n t → ⊥
  whole-none h d =
      let p = part d.place d.stands in
      not_both (p.whole h) (ap (λ (x : Tree). x.whole) (tree-none p.level d.place d.damaged) ∙ broken-whole)

  twice_in : (xs : List ℕ) → distinct xs ≡ false
      → (i : ℕ) × (ys : List ℕ) × (zs : List ℕ) × (xs ≡ ys ++ zs) × (mem i ys ≡ true) × (mem i zs ≡ true)
  unfolding distinct
  twice_in [] h = absurd (not_both refl h)
  twice_in (x ∷ xs) h = go (mem x xs) refl (twice_in xs)
    where
      go : (b : Bool) → mem x xs ≡ b
          → (distinct xs ≡ false → (i : ℕ) × (ys : List ℕ) × (zs : List ℕ) × (xs ≡ ys ++ zs) × (mem i ys ≡ true) × (mem i zs ≡ true))
          → (i : ℕ) × (ys : List ℕ) × (zs : List ℕ) × ((x ∷ xs) ≡ ys ++ zs) × (mem i ys ≡ true) × (mem i zs ≡ true)
      go true m ih = (x, x ∷ [], xs, refl, mem-head x [], m)
      go false m ih =
          let y = ih (fails (distinct xs) (λ d. not_both (distinct_cons x xs m d) h)) in
          (y.0, x ∷ y.1, y.2, ap (λ (zs : List ℕ). x ∷ zs) y.3, mem_tail y.0 x y.1 y.4, y.5)

  pub not_distinct : distinct (tree_of n t).children ≡ false → NamedTwice n t
  not_distinct h =
      let x = twice_in (tree_of n t).children h in
      record { number = x.0; first = x.1; others = x.2; children = x.3; in_first = x.4; in_others = x.5 }

  pub distinct_none : distinct (tree_of n t).children ≡ true → NamedTwice n t → ⊥
  distinct_none h x = distinct_apart x.number x.first x.others (ap distinct (sym x.children) ∙ h) x.in_first x.in_others

  abbrev Apart : ℕ → Bool
  Apart i = not (mem i (tree_of n t).children)

  not_apart : (xs : List ℕ) → all Apart xs ≡ false → (i : ℕ) × (mem i xs ≡ true) × (mem i (tree_of n t).children ≡ true)
  unfolding all
  not_apart [] h = absurd (not_both refl h)
  not_apart (x ∷ xs) h = go (mem x (tree_of n t).children) refl (not_apart xs)
    where
      go : (b : Bool) → mem x (tree_of n t).children ≡ b
          → (all Apart xs ≡ false → (i : ℕ) × (mem i xs ≡ true) × (mem i (tree_of n t).children ≡ true))
          → (i : ℕ) × (mem i (x ∷ xs) ≡ true) × (mem i (tree_of n t).children ≡ true)
      go true m ih = (x, mem-head x xs, m)
      go false m ih = let y = ih (rw m at h) in (y.0, mem_tail y.0 x xs y.1, y.2)

  pub not_spared : all Apart (tree_of n t).spared ≡ false → ChildSpared n t
  unfolding tree_of
  not_spared h =
      let x = not_apart (tree_of n t).spared h in
      let y = spared_at_lem x.0 top_kind (root_place t) root-deep (at_root_lem refl) x.1 in
      record { place = y.0; stands = y.1; lost = y.2; child = ap (λ (i : ℕ). mem i (tree_of n t).children) y.3 ∙ x.2 }

  -- in a whole tree a lost entry's previous page is spared
  lost_in : (e : Place) → fits n e (read t e.child) ≡ false → (level : ℕ) → Deep level e → (tree level n t e).whole ≡ true
      → mem e.previous (tree level n t e).spared ≡ true
  lost_in e f zero deep w = absurd (not_out e deep)
  lost_in e f (suc level) deep w = go (show n t e) refl
    where
      go : (o : Option View) → show n t e ≡ o → mem e.previous (tree (suc level) n t e).spared ≡ true
      go none s = absurd (not_both w (ap (λ (x : Tree). x.whole) (tree-none (suc level) e s) ∙ broken-whole))
      go (some v) s =
          ap (mem e.previous) (shown-spared level e v s)
          ∙ mem-left e.previous (spared_at n t e) (under level e v s).spared
          (ap (mem e.previous) (spared-lost n t e f) ∙ mem-head e.previous [])

  pub spared-none : (tree_of n t).whole ≡ true → all Apart (tree_of n t).spared ≡ true → ChildSpared n t → ⊥
  spared-none w h x =
      let p = part x.place x.stands in
      let m = p.spares x.place.previous (lost_in x.place x.lost p.level p.deep (p.whole w)) in
      not_both (ap not (sym x.child) ∙ all-mem Apart x.place.previous (tree_of n t).spared h m) refl
