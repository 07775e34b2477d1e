-- Opening's test, read back: a table that passes it is good, place by place.
use Prim.Native.Nat.{ℕ, zero, suc, ◌-◌}
use native.Mathlib.Omega.{arith}
use mathlib.Core.Path.{◌≡◌, refl, sym, ap, ◌∙◌, subst}
use mathlib.Core.Logic.{◌⊎◌, inl, inr, ◌≢◌}
use mathlib.Core.Bool.{Bool, true, false, not, false≢true}
use mathlib.Core.List.Memᴰ
use mathlib.Core.List.{List, [], ◌∷◌, ◌++◌, Memᴰ}
use mathlib.Core.Option.{Option, some, none}
use Rattle.rules.specs.Layout.{top_kind}
use Rattle.rules.specs.Test.{mem, distinct}
use Rattle.rules.specs.Page.{View}
use Rattle.rules.specs.Table.{fit0, root0}
use Rattle.rules.specs.Place.{root_place, kids, pick, show}
use Rattle.rules.specs.Tree.{Tree, broken, join, spared_at, here, tree_each, tree, tree_of, good_tree}
use Rattle.rules.specs.declared.Place.{Place}
use Rattle.rules.proofs.Entries.Tests.{every_true, between-low, between-high, mem-head, mem_tail, mem-left, mem_right, all-mem, not_both, distinct_head, distinct_tail, distinct-left, distinct_right, distinct_apart}
use Rattle.rules.proofs.Entries.Picks.{pick-mem}
use Rattle.rules.proofs.Bytes.PageZero.{root_previous_lem}
use Rattle.rules.proofs.Demand3.Ways.Ways.{at, Node, Lost, Undamaged}
use Rattle.rules.proofs.Demand3.Ways.Invariant.{Rooted, Good}
use Rattle.rules.proofs.Demand3.Ways.Nodes.{above, at_root_lem}
use Rattle.rules.proofs.Demand3.Epochs.Opens.{tree-shown, spared-lost}
use Rattle.answers.proofs.AsItStands.{each_whole, each_spare}

-- ── From a place down, first step first ─────────────────────────────────────────────────────────────────────────

-- a lies so many steps below e on the way of k
pub data Reach (n : ℕ) (t : List ℕ) (k : ℕ) : Place → Place → Type 0 where
  stay : {e a : Place} → e ≡ a → Reach n t k e a
  step : {e a : Place} (v : View) (d : Place) → show n t e ≡ some v → pick k (kids e v) ≡ some d → Reach n t k d a → Reach n t k e a

reach_more : {n : ℕ} {t : List ℕ} {k : ℕ} {e a b : Place} (v : View) → Reach n t k e a → show n t a ≡ some v → pick k (kids a v) ≡ some b
    → Reach n t k e b
reach_more {n} {t} {k} {e} {a} {b} v (stay q) s h =
    subst (λ (x : Place). Reach n t k x b) (sym q) (step v b s h (stay refl))
reach_more v (step w d r p x) s h = step w d r p (reach_more v x s h)

reach_at : (n : ℕ) (t : List ℕ) (k i : ℕ) (e : Place) → at n t k i ≡ some e → Reach n t k (root_place t) e
reach_at n t k zero e h = stay (at_root_lem n t k e h)
reach_at n t k (suc i) e h =
    let a = above n t k i e h in
    reach_more a.view (reach_at n t k i a.parent a.stands) a.shows a.picks

-- ── A tree that is whole ────────────────────────────────────────────────────────────────────────────────────────

broken-whole : broken.whole ≡ true → ⊥
unfolding broken
broken-whole h = false≢true h

tree-zero : (n : ℕ) (t : List ℕ) (e : Place) → tree zero n t e ≡ broken
unfolding tree
tree-zero n t e = refl

tree-damaged : (level n : ℕ) (t : List ℕ) (e : Place) → show n t e ≡ none → tree (suc level) n t e ≡ broken
unfolding tree
tree-damaged level n t e s = rw (s, tree)

whole-shows : (level n : ℕ) (t : List ℕ) (e : Place) → (tree level n t e).whole ≡ true → Undamaged n t e
whole-shows zero n t e h = absurd (broken-whole (ap (λ (x : Tree). x.whole) (sym (tree-zero n t e)) ∙ h))
whole-shows (suc level) n t e h = go (show n t e) refl
  where
    go : (o : Option View) → show n t e ≡ o → Undamaged n t e
    go none s = absurd (broken-whole (ap (λ (x : Tree). x.whole) (sym (tree-damaged level n t e s)) ∙ h))
    go (some v) s = record { view = v; shows = s }

module _ (f : Place → Tree) where
  each_child : (i : ℕ) (es : List Place) (d : Place) → Memᴰ d es → mem i (f d).children ≡ true → mem i (tree_each f es).children ≡ true
  unfolding tree_each join
  each_child i [] d m h = absurd (Memᴰ.not-nil m)
  each_child i (e ∷ es) d m h = go (Memᴰ.cases_cons m) (each_child i es d)
    where
      go : (d ≡ e) ⊎ Memᴰ d es → (Memᴰ d es → mem i (f d).children ≡ true → mem i (tree_each f es).children ≡ true)
          → mem i ((f e).children ++ (tree_each f es).children) ≡ true
      go (inl q) ih = mem-left i (f e).children (tree_each f es).children (ap (λ (x : Place). mem i (f x).children) (sym q) ∙ h)
      go (inr m) ih = mem_right i (f e).children (tree_each f es).children (ih m h)

  -- a number below two kids is below one kid only
  each_once : (i : ℕ) (es : List Place) (d b : Place) → Memᴰ d es → Memᴰ b es → distinct (tree_each f es).children ≡ true
      → mem i (f d).children ≡ true → mem i (f b).children ≡ true → (d ≡ b) × (distinct (f d).children ≡ true)
  unfolding tree_each join
  each_once i [] d b m o h x y = absurd (Memᴰ.not-nil m)
  each_once i (e ∷ es) d b m o h x y = go (Memᴰ.cases_cons m) (Memᴰ.cases_cons o) (each_once i es d b)
    where
      Goal : Type 0
      Goal = (d ≡ b) × (distinct (f d).children ≡ true)

      go : (d ≡ e) ⊎ Memᴰ d es → (b ≡ e) ⊎ Memᴰ b es
          → (Memᴰ d es → Memᴰ b es → distinct (tree_each f es).children ≡ true
          → mem i (f d).children ≡ true → mem i (f b).children ≡ true → Goal) → Goal
      go (inl q) (inl r) ih =
          (q ∙ sym r, ap (λ (z : Place). distinct (f z).children) q ∙ distinct-left (f e).children (tree_each f es).children h)
      go (inl q) (inr r) ih =
          absurd (distinct_apart i (f e).children (tree_each f es).children h
          (ap (λ (z : Place). mem i (f z).children) (sym q) ∙ x) (each_child i es b r y))
      go (inr q) (inl r) ih =
          absurd (distinct_apart i (f e).children (tree_each f es).children h
          (ap (λ (z : Place). mem i (f z).children) (sym r) ∙ y) (each_child i es d q x))
      go (inr q) (inr r) ih = ih q r (distinct_right (f e).children (tree_each f es).children h) x y

-- ── What a place's tree has of those below it ───────────────────────────────────────────────────────────────────

module _ (n : ℕ) (t : List ℕ) where
  module _ (level : ℕ) (e : Place) (v : View) (s : show n t e ≡ some v) where
    abbrev rest : Tree
    rest = tree_each (tree level n t) (kids e v)

    grown : tree (suc level) n t e ≡ join (here n t e v) rest
    grown = tree-shown level n t e v s

    rest-whole : (tree (suc level) n t e).whole ≡ true → rest.whole ≡ true
    unfolding join here
    rest-whole h = ap (λ (x : Tree). x.whole) (sym grown) ∙ h

    children-are : (tree (suc level) n t e).children ≡ e.child ∷ rest.children
    unfolding join here
    children-are = ap (λ (x : Tree). x.children) grown

    spared-are : (tree (suc level) n t e).spared ≡ spared_at n t e ++ rest.spared
    unfolding join here
    spared-are = ap (λ (x : Tree). x.spared) grown

    kid-whole : (tree (suc level) n t e).whole ≡ true → (k : ℕ) (d : Place) → pick k (kids e v) ≡ some d → (tree level n t d).whole ≡ true
    kid-whole h k d q = each_whole (tree level n t) (kids e v) d (pick-mem k (kids e v) d q) (rest-whole h)

  same_view : (e : Place) (u v : View) → show n t e ≡ some u → show n t e ≡ some v → u ≡ v
  same_view e u v a b = cc

  reach_shows : (level k : ℕ) (e a : Place) → Reach n t k e a → (tree level n t e).whole ≡ true → Undamaged n t a
  reach_shows zero k e a r h = absurd (broken-whole (ap (λ (x : Tree). x.whole) (sym (tree-zero n t e)) ∙ h))
  reach_shows (suc level) k e a (stay q) h = subst (Undamaged n t) q (whole-shows (suc level) n t e h)
  reach_shows (suc level) k e a (step v d s p r) h = reach_shows level k d a r (kid-whole level e v s h k d p)

  reach_child : (level k : ℕ) (e a : Place) → Reach n t k e a → (tree level n t e).whole ≡ true → mem a.child (tree level n t e).children ≡ true
  reach_child zero k e a r h = absurd (broken-whole (ap (λ (x : Tree). x.whole) (sym (tree-zero n t e)) ∙ h))
  reach_child (suc level) k e a (stay q) h =
      let w = whole-shows (suc level) n t e h in
      ap (λ (x : Place). mem x.child (tree (suc level) n t e).children) (sym q)
      ∙ (ap (mem e.child) (children-are level e w.view w.shows) ∙ mem-head e.child (rest level e w.view w.shows).children)
  reach_child (suc level) k e a (step v d s p r) h =
      ap (mem a.child) (children-are level e v s)
      ∙ mem_tail a.child e.child (rest level e v s).children
      (each_child (tree level n t) a.child (kids e v) d (pick-mem k (kids e v) d p) (reach_child level k d a r (kid-whole level e v s h k d p)))

  reach_spare : (level k : ℕ) (e a : Place) → Reach n t k e a → Lost n t a → (tree level n t e).whole ≡ true
      → mem a.previous (tree level n t e).spared ≡ true
  reach_spare zero k e a r l h = absurd (broken-whole (ap (λ (x : Tree). x.whole) (sym (tree-zero n t e)) ∙ h))
  reach_spare (suc level) k e a (stay q) l h =
      let w = whole-shows (suc level) n t e h in
      ap (λ (x : Place). mem x.previous (tree (suc level) n t e).spared) (sym q)
      ∙ (ap (mem e.previous) (spared-are level e w.view w.shows)
      ∙ mem-left e.previous (spared_at n t e) (rest level e w.view w.shows).spared
      (ap (mem e.previous) (spared-lost n t e (subst (Lost n t) (sym q) l)) ∙ mem-head e.previous []))
  reach_spare (suc level) k e a (step v d s p r) l h =
      ap (mem a.previous) (spared-are level e v s)
      ∙ mem_right a.previous (spared_at n t e) (rest level e v s).spared
      (each_spare (tree level n t) a.previous (kids e v) d (pick-mem k (kids e v) d p) (reach_spare level k d a r l (kid-whole level e v s h k d p)))

  -- what lies below a page is not that page
  below_other : (level k : ℕ) (e a d : Place) (v : View) → show n t e ≡ some v → pick k (kids e v) ≡ some d → Reach n t k d a
      → (tree (suc level) n t e).whole ≡ true → distinct (tree (suc level) n t e).children ≡ true → e.child ≢ a.child
  below_other level k e a d v s p r h o q =
      not_both
      (ap (λ (i : ℕ). mem i (rest level e v s).children) q
      ∙ each_child (tree level n t) a.child (kids e v) d (pick-mem k (kids e v) d p) (reach_child level k d a r (kid-whole level e v s h k d p)))
      (distinct_head e.child (rest level e v s).children (ap distinct (sym (children-are level e v s)) ∙ o))

  reach_once : (level k j : ℕ) (e a b : Place) → Reach n t k e a → Reach n t j e b → (tree level n t e).whole ≡ true
      → distinct (tree level n t e).children ≡ true → a.child ≡ b.child → a ≡ b
  reach_once zero k j e a b x y h o z = absurd (broken-whole (ap (λ (w : Tree). w.whole) (sym (tree-zero n t e)) ∙ h))
  reach_once (suc level) k j e a b (stay p) (stay q) h o z = sym p ∙ q
  reach_once (suc level) k j e a b (stay p) (step v d s q r) h o z =
      absurd (below_other level j e b d v s q r h o (ap (λ (x : Place). x.child) p ∙ z))
  reach_once (suc level) k j e a b (step v d s q r) (stay p) h o z =
      absurd (below_other level k e a d v s q r h o (ap (λ (x : Place). x.child) p ∙ sym z))
  reach_once (suc level) k j e a b (step v d s p r) (step v' d' s' p' r') h o z =
      let q : pick j (kids e v) ≡ some d' = ap (λ (y : View). pick j (kids e y)) (same_view e v v' s s') ∙ p' in
      let m = pick-mem k (kids e v) d p in
      let m' = pick-mem j (kids e v) d' q in
      let w = kid-whole level e v s h k d p in
      let w' = kid-whole level e v s h j d' q in
      let c = reach_child level k d a r w in
      let c' = ap (λ (i : ℕ). mem i (tree level n t d').children) z ∙ reach_child level j d' b r' w' in
      let u = each_once (tree level n t) a.child (kids e v) d d' m m'
      (distinct_tail e.child (rest level e v s).children (ap distinct (sym (children-are level e v s)) ∙ o)) c c' in
      reach_once level k j d a b r (subst (λ (x : Place). Reach n t j x b) (sym u.0) r') w u.1 z

-- ── The test ────────────────────────────────────────────────────────────────────────────────────────────────────

rooted-of : (n : ℕ) (t : List ℕ) → fit0 n t ≡ true → Rooted n t
unfolding fit0 root_place
rooted-of n t f =
    let r = (every_true _ f).1.1.0 in
    let a = between-low 1 (n - 1) (root0 t) r in
    let b = between-high 1 (n - 1) (root0 t) r in
    record { some_page = a; in_table = omega (arith, a, b); previous_in = root_previous_lem n t f }

pub good_of : (n : ℕ) (t : List ℕ) → fit0 n t ≡ true → good_tree (tree_of n t) ≡ true → Good n t
unfolding good_tree tree_of
good_of n t f g =
    let x = every_true _ g in
    record {
      rooted = rooted-of n t f;
      whole = λ {k = k} {e = e} y. reach_shows n t top_kind k (root_place t) e (from y) x.0;
      once = λ {k = k} {j = j} {a = a} {b = b} y z q. reach_once n t top_kind k j (root_place t) a b (from y) (from z) x.0 x.1.0 q;
      apart = λ {k = k} {j = j} {a = a} {b = b} y l z q.
          not_both
          (ap (λ (i : ℕ). mem i (tree top_kind n t (root_place t)).children) q ∙ reach_child n t top_kind j (root_place t) b (from z) x.0)
          (not-true (mem a.previous (tree top_kind n t (root_place t)).children)
          (all-mem _ a.previous (tree top_kind n t (root_place t)).spared x.1.1.0 (reach_spare n t top_kind k (root_place t) a (from y) l x.0)));
    }
  where
    from : {k : ℕ} {e : Place} → Node n t k e → Reach n t k (root_place t) e
    from {k} {e} y = reach_at n t k y.depth e y.here

    not-true : (b : Bool) → not b ≡ true → b ≡ false
    not-true true h = absurd (false≢true h)
    not-true false h = refl
