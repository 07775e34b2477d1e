-- Opening, read as the table stands, and entering page after page on a copy: the same answer, session and bytes.
--
-- Both go over the same places in the same order. So far as all numbers named are different ones, the copy has changed at
-- numbers named as child only, and both see the same at the next place. Where one of its numbers was named before, both
-- are refused: it is named twice as child, or it is a child and the previous page of a lost entry. Assumes nothing.
use Prim.Native.Nat.{ℕ, zero, suc, ◌*◌, ◌^◌, ◌≤◌, ◌<◌}
use native.Mathlib.Omega.{arith}
use mathlib.Core.Path.{◌≡◌, refl, sym, ap, ◌∙◌, subst}
use mathlib.Core.Logic.{◌⊎◌, inl, inr, ◌≢◌}
use mathlib.Core.Bool.{Bool, true, false}
use mathlib.Core.List.{List, [], ◌∷◌, ◌++◌, Memᴰ}
use mathlib.Core.Option.{Option, some, none, none-ne-some}
use lib.ListN.{length}
use Rattle.fields.specs.Field.{Bytes}
use Rattle.rules.specs.Layout.{page_size, top_kind}
use Rattle.rules.specs.Test.{mem}
use Rattle.rules.specs.Page.{View, Page}
use Rattle.rules.specs.Table.{pages, good_lengths, fit0, read}
use Rattle.rules.specs.Place.{root_place, kids, fits, mendable, cut_view, mended, show}
use Rattle.rules.specs.Enter.{Entered, mend, enter}
use Rattle.rules.specs.Tree.{Tree, broken, empty, join, spared_at, here, tree_each, tree, tree_of, good_tree}
use Rattle.rules.specs.Open.{open_done, opening}
use Rattle.rules.specs.declared.Place.{Place}
use Rattle.rules.proofs.Entries.Tests.{fails, not_both, mem-head, mem_cases, mem-nil, mem-left, mem_right}
use Rattle.rules.proofs.Entries.Asks.{kids-mem, kids_picked, kids-within}
use Rattle.rules.proofs.Bytes.Lengths.{pages-of, good_lengths_true}
use Rattle.rules.proofs.Bytes.Tables.{has-page, read-build-other}
use Rattle.rules.proofs.Demand3.Ways.Sources.{show-found}
use Rattle.rules.proofs.Demand3.Epochs.Opens.{tree-shown, spared-lost}
use Rattle.enter.proofs.Mended.{Narrow, room-mended}
use Rattle.enter.proofs.Stands.{Comes, stood, mends, stops, comes}
use Rattle.way.proofs.Stood.{Ready, ready-root, ready-long, ready-bytes, ready-next, stood-here}
use Rattle.answers.proofs.Deep.{enter-shows}
use Rattle.reading.specs.ByEntering.{Seen, enter_each, enter_all, entered_tree, opening_by, OpeningEitherWay}
use Rattle.reading.proofs.Joins.{bad_join, bad_twice, bad_spared, bad_broken, join_assoc, join-empty, empty-join}

module _ (n c : ℕ) (t : List ℕ) where
  -- ── What the copy shows of one place ────────────────────────────────────────────────────────────────────────────

  module _ (u : List ℕ) (e : Place) (child : read u e.child ≡ read t e.child) where
    fits-same : fits n e (read u e.child) ≡ fits n e (read t e.child)
    fits-same = ap (fits n e) child

    spared-same : spared_at n u e ≡ spared_at n t e
    unfolding spared_at
    spared-same = ap (λ (b : Bool). elim b [ true ↦ [] | false ↦ e.previous ∷ [] ]) fits-same

    here-same : (v : View) → here n u e v ≡ here n t e v
    unfolding here
    here-same v = ap (λ (xs : List ℕ). record { whole = true; children = e.child ∷ []; spared = xs; certs = v.certs }) spared-same

    -- a page that fits is shown, whatever became of the previous one
    fitting-same : fits n e (read t e.child) ≡ true → show n u e ≡ show n t e
    fitting-same f =
        show-found n u e (fits-same ∙ f) ∙ (ap (λ (p : Page). some p.view) child ∙ sym (show-found n t e f))

    -- what is shown, from the child and the previous page
    abbrev seen : Page → Page → Option View
    seen p q =
        elim (fits n e p) [
          | true ↦ some p.view
          | false ↦ elim (mendable n e q) [ true ↦ some (cut_view e.low e.high q.view) | false ↦ none ]
        ]

    lost-same : read u e.previous ≡ read t e.previous → show n u e ≡ show n t e
    unfolding show
    lost-same previous = ap (λ (p : Page). seen p (read u e.previous)) child ∙ ap (seen (read t e.child)) previous

  none-shows : (above u : List ℕ) (e : Place) → mem e.child above ≡ false → (enter n c above u e).page ≡ none → show n u e ≡ none
  unfolding enter mend show
  none-shows above u e m h = go (fits n e (read u e.child)) refl (mendable n e (read u e.previous)) refl
    where
      go : (f : Bool) → fits n e (read u e.child) ≡ f → (g : Bool) → mendable n e (read u e.previous) ≡ g → show n u e ≡ none
      go true f g q = absurd (none-ne-some (read u e.child) (sym (rw (m, enter, f) at h)))
      go false f true q = absurd (none-ne-some (mended c e (read u e.previous)) (sym (rw (m, enter, f, mend, q) at h)))
      go false f false q = rw (f, show, q)

  tree-none : (level : ℕ) (e : Place) → show n t e ≡ none → tree (suc level) n t e ≡ broken
  unfolding tree
  tree-none level e s = rw (s, tree)

  -- ── One place entered on the copy ───────────────────────────────────────────────────────────────────────────────

  module _ (level : ℕ) (above : List ℕ) (e : Place) (u : Seen) where
    all-damaged : (enter n c above u.table e).page ≡ none
        → enter_all (suc level) n c above e u ≡ record { table = (enter n c above u.table e).table; tree = join u.tree broken }
    unfolding enter_all
    all-damaged h = rw (enter_all, h)

    -- what was seen once a page is entered
    abbrev begun : Page → Seen
    begun p = record { table = (enter n c above u.table e).table; tree = join u.tree (here n u.table e p.view) }

    all-entered : (p : Page) → (enter n c above u.table e).page ≡ some p
        → enter_all (suc level) n c above e u ≡ enter_each (enter_all level n c (e.child ∷ above)) (kids e p.view) (begun p)
    unfolding enter_all
    all-entered p h = rw (enter_all, h)

  -- what is refused of what was seen stays so
  abbrev StaysBad : ℕ → Type 0
  StaysBad level = (above : List ℕ) (e : Place) (u : Seen) → good_tree u.tree ≡ false → good_tree (enter_all level n c above e u).tree ≡ false

  each_bad : (level : ℕ) → StaysBad level → (above : List ℕ) (es : List Place) (u : Seen) → good_tree u.tree ≡ false
      → good_tree (enter_each (enter_all level n c above) es u).tree ≡ false
  unfolding enter_each
  each_bad level stays above [] u b = b
  each_bad level stays above (e ∷ es) u b = each_bad level stays above es (enter_all level n c above e u) (stays above e u b)

  all_bad : (level : ℕ) → StaysBad level
  unfolding enter_all
  all_bad zero above e u b = bad_join u.tree broken b
  all_bad (suc level) above e u b = go (enter n c above u.table e).page refl (each_bad level (all_bad level) (e.child ∷ above))
    where
      go : (o : Option Page) → (enter n c above u.table e).page ≡ o
          → ((es : List Place) (y : Seen) → good_tree y.tree ≡ false
          → good_tree (enter_each (enter_all level n c (e.child ∷ above)) es y).tree ≡ false)
          → good_tree (enter_all (suc level) n c above e u).tree ≡ false
      go none h ih = rw (all-damaged level above e u h) (bad_broken u.tree)
      go (some p) h ih =
          rw (all-entered level above e u p h)
          (ih (kids e p.view) (begun level above e u p) (bad_join u.tree (here n u.table e p.view) b))

  -- ── Both ways so far ────────────────────────────────────────────────────────────────────────────────────────────

  -- the same was seen, and the copy has changed at numbers named as child only
  record Going (x : Tree) (u : Seen) : Type 0 where
    same : u.tree ≡ x
    long : length u.table ≡ n * page_size
    bytes : Bytes u.table
    others : (i : ℕ) → mem i x.children ≡ false → read u.table i ≡ read t i

  data Both (x : Tree) (u : Seen) : Type 0 where
    going : Going x u → Both x u
    refused : good_tree x ≡ false → good_tree u.tree ≡ false → Both x u

  -- a place that a page of the table asks for
  record Known (e : Place) : Type 0 where
    narrow : Narrow c e
    from : 1 ≤ e.child
    below : e.child < n
    range : e.low ≤ e.high

  -- the pages above were named as child
  abbrev Named : List ℕ → Tree → Type 0
  Named above x = (i : ℕ) → mem i above ≡ true → mem i x.children ≡ true

  named-join : (above : List ℕ) (x y : Tree) → Named above x → Named above (join x y)
  unfolding join
  named-join above x y m i h = mem-left i x.children y.children (m i h)

  module _ {x : Tree} {u : Seen} (g : Going x u) {e : Place} (k : Known e) where
    ready : (j : ℕ) → e.low ≤ j → j ≤ e.high → Ready n c j u.table e
    ready j low high = record {
      long = g.long;
      bytes = g.bytes;
      narrow = k.narrow;
      child_from = k.from;
      child_below = k.below;
      low = low;
      high = high;
    }

    kid_known : (above : List ℕ) (p : Page) → (enter n c above u.table e).page ≡ some p → (d : Place) → Memᴰ d (kids e p.view) → Known d
    kid_known above p h d m =
        let s = (stood-here (ready e.low (omega arith) k.range) above p h).fits.sound in
        let a = kids-mem e s d m in
        let w = kids-within e s d a in
        let q = kids_picked e s d.low d a (omega arith) a.range in
        let z = ready-next (ready d.low w.0 (omega (arith, a.range, w.1))) above p h d q in
        record { narrow = z.narrow; from = z.child_from; below = z.child_below; range = a.range }

    enter-others : (above : List ℕ) (i : ℕ) → i ≢ e.child → read (enter n c above u.table e).table i ≡ read u.table i
    enter-others above i d = go (enter n c above u.table e) (comes n c above u.table e)
      where
        go : (r : Entered) → Comes n c above u.table e r → read r.table i ≡ read u.table i
        go r (stood f q) = ap (λ (y : Entered). read y.table i) q
        go r (mends a m q) =
            ap (λ (y : Entered). read y.table i) q
            ∙ read-build-other u.table e.child (mended c e (read u.table e.previous))
            (has-page u.table n e.child g.long k.below) (room-mended n c u.table e g.bytes k.narrow m) i d
        go r (stops q) = ap (λ (y : Entered). read y.table i) q

    -- ── The next place, where both see the same ─────────────────────────────────────────────────────────────────────

    module _ (level : ℕ) (above : List ℕ) (child : read u.table e.child ≡ read t e.child) where
      begun-going : (p : Page) → Going (join x (here n t e p.view)) (begun level above e u p)
      unfolding join here
      begun-going p = record {
        same = ap (λ (y : Tree). join y (here n u.table e p.view)) g.same
            ∙ ap (join x) (here-same u.table e child p.view);
        long = ready-long (ready e.low (omega arith) k.range) above;
        bytes = ready-bytes (ready e.low (omega arith) k.range) above;
        others = λ i m.
            enter-others above i
            (λ q. not_both (mem_right i x.children (e.child ∷ []) (ap (λ (j : ℕ). mem j (e.child ∷ [])) q ∙ mem-head e.child [])) m)
            ∙ g.others i (fails (mem i x.children) (λ y. not_both (mem-left i x.children (e.child ∷ []) y) m));
      }

      named_here : Named above x → (v : View) → Named (e.child ∷ above) (join x (here n t e v))
      unfolding join here
      named_here m v i h = go (mem_cases i e.child above h)
        where
          go : (i ≡ e.child) ⊎ (mem i above ≡ true) → mem i (x.children ++ (e.child ∷ [])) ≡ true
          go (inl q) = mem_right i x.children (e.child ∷ []) (ap (λ (j : ℕ). mem j (e.child ∷ [])) q ∙ mem-head e.child [])
          go (inr o) = mem-left i x.children (e.child ∷ []) (m i o)

    -- ── The next place, where one of its numbers was named before ───────────────────────────────────────────────────

    module _ (level : ℕ) (above : List ℕ) where
      -- refused both ways, if what is shown there is refused
      refused_there : ((v : View) → show n t e ≡ some v → good_tree (join x (tree (suc level) n t e)) ≡ false)
          → ((p : Page) → good_tree (join u.tree (here n u.table e p.view)) ≡ false)
          → Both (join x (tree (suc level) n t e)) (enter_all (suc level) n c above e u)
      refused_there f h = refused (stands (show n t e) refl) (entered (enter n c above u.table e).page refl)
        where
          stands : (o : Option View) → show n t e ≡ o → good_tree (join x (tree (suc level) n t e)) ≡ false
          stands none s = rw (tree-none level e s) (bad_broken x)
          stands (some v) s = f v s

          entered : (o : Option Page) → (enter n c above u.table e).page ≡ o → good_tree (enter_all (suc level) n c above e u).tree ≡ false
          entered none q = rw (all-damaged level above e u q) (bad_broken u.tree)
          entered (some p) q =
              rw (all-entered level above e u p q)
              (each_bad level (all_bad level) (e.child ∷ above) (kids e p.view) (begun level above e u p) (h p))

      child_there : (v : View) → show n t e ≡ some v → mem e.child (tree (suc level) n t e).children ≡ true
      unfolding join here
      child_there v s =
          ap (λ (y : Tree). mem e.child y.children) (tree-shown level n t e v s)
          ∙ mem-left e.child (e.child ∷ []) (tree_each (tree level n t) (kids e v)).children (mem-head e.child [])

      previous_there : fits n e (read t e.child) ≡ false → (v : View) → show n t e ≡ some v
          → mem e.previous (tree (suc level) n t e).spared ≡ true
      unfolding join here
      previous_there l v s =
          ap (λ (y : Tree). mem e.previous y.spared) (tree-shown level n t e v s)
          ∙ mem-left e.previous (spared_at n t e) (tree_each (tree level n t) (kids e v)).spared
          (ap (mem e.previous) (spared-lost n t e l) ∙ mem-head e.previous [])

      named-before : mem e.child x.children ≡ true → Both (join x (tree (suc level) n t e)) (enter_all (suc level) n c above e u)
      unfolding here
      named-before m =
          refused_there (λ v s. bad_twice x (tree (suc level) n t e) e.child m (child_there v s))
          (λ p. bad_twice u.tree (here n u.table e p.view) e.child
          (ap (λ (y : Tree). mem e.child y.children) g.same ∙ m) (mem-head e.child []))

      spared-before : read u.table e.child ≡ read t e.child → fits n e (read t e.child) ≡ false
          → mem e.previous x.children ≡ true → Both (join x (tree (suc level) n t e)) (enter_all (suc level) n c above e u)
      unfolding here
      spared-before child l m =
          refused_there (λ v s. bad_spared x (tree (suc level) n t e) e.previous m (previous_there l v s))
          (λ p. bad_spared u.tree (here n u.table e p.view) e.previous
          (ap (λ (y : Tree). mem e.previous y.children) g.same ∙ m)
          (ap (mem e.previous) (spared-same u.table e child ∙ spared-lost n t e l) ∙ mem-head e.previous []))

  -- ── The whole tree ──────────────────────────────────────────────────────────────────────────────────────────────

  abbrev Goes : ℕ → Type 0
  Goes level =
      (above : List ℕ) (e : Place) (x : Tree) (u : Seen) → Known e → Going x u → Named above x
      → Both (join x (tree level n t e)) (enter_all level n c above e u)

  each : (level : ℕ) → Goes level → (above : List ℕ) (es : List Place) → ((d : Place) → Memᴰ d es → Known d)
      → (x : Tree) (u : Seen) → Both x u → Named above x
      → Both (join x (tree_each (tree level n t) es)) (enter_each (enter_all level n c above) es u)
  unfolding tree_each enter_each
  each level goes above [] k x u b m = subst (λ (y : Tree). Both y u) (sym (join-empty x)) b
  each level goes above (e ∷ es) k x u (refused p q) m =
      refused (bad_join x (join (tree level n t e) (tree_each (tree level n t) es)) p)
      (each_bad level (all_bad level) above es (enter_all level n c above e u) (all_bad level above e u q))
  each level goes above (e ∷ es) k x u (going g) m =
      subst (λ (y : Tree). Both y (enter_each (enter_all level n c above) es (enter_all level n c above e u)))
      (join_assoc x (tree level n t e) (tree_each (tree level n t) es))
      (each level goes above es (λ d o. k d (Memᴰ.tail o)) (join x (tree level n t e)) (enter_all level n c above e u)
      (goes above e x u (k e (Memᴰ.head refl)) g m) (named-join above x (tree level n t e) m))

  -- both see the same there
  goes_on : (level : ℕ) → Goes level → (above : List ℕ) (e : Place) (x : Tree) (u : Seen) → Known e → Going x u → Named above x
      → mem e.child x.children ≡ false → read u.table e.child ≡ read t e.child → show n u.table e ≡ show n t e
      → Both (join x (tree (suc level) n t e)) (enter_all (suc level) n c above e u)
  goes_on level goes above e x u k g m new child sees = go (enter n c above u.table e).page refl
    where
      apart : mem e.child above ≡ false
      apart = fails (mem e.child above) (λ y. not_both (m e.child y) new)

      go : (o : Option Page) → (enter n c above u.table e).page ≡ o
          → Both (join x (tree (suc level) n t e)) (enter_all (suc level) n c above e u)
      go none h =
          refused (rw (tree-none level e (sym sees ∙ none-shows above u.table e apart h)) (bad_broken x))
          (rw (all-damaged level above e u h) (bad_broken u.tree))
      go (some p) h =
          let s : show n t e ≡ some p.view = sym sees ∙ enter-shows n c above u.table e p h in
          rw (all-entered level above e u p h, tree-shown level n t e p.view s)
          (subst (λ (y : Tree). Both y (enter_each (enter_all level n c (e.child ∷ above)) (kids e p.view) (begun level above e u p)))
          (join_assoc x (here n t e p.view) (tree_each (tree level n t) (kids e p.view)))
          (each level goes (e.child ∷ above) (kids e p.view) (kid_known g k above p h) (join x (here n t e p.view))
          (begun level above e u p) (going (begun-going g k level above child p)) (named_here g k level above child m p.view)))

  goes-all : (level : ℕ) → Goes level
  unfolding tree enter_all
  goes-all zero above e x u k g m = refused (bad_broken x) (bad_broken u.tree)
  goes-all (suc level) above e x u k g m = at (mem e.child x.children) refl (goes_on level (goes-all level) above e x u k g m)
    where
      Goal : Type 0
      Goal = Both (join x (tree (suc level) n t e)) (enter_all (suc level) n c above e u)

      lost : read u.table e.child ≡ read t e.child → fits n e (read t e.child) ≡ false
          → (read u.table e.child ≡ read t e.child → show n u.table e ≡ show n t e → Goal)
          → (b : Bool) → mem e.previous x.children ≡ b → Goal
      lost child l on true q = spared-before g k level above child l q
      lost child l on false q = on child (lost-same u.table e child (g.others e.previous q))

      fitting : read u.table e.child ≡ read t e.child
          → (read u.table e.child ≡ read t e.child → show n u.table e ≡ show n t e → Goal)
          → (b : Bool) → fits n e (read t e.child) ≡ b → Goal
      fitting child on true f = on child (fitting-same u.table e child f)
      fitting child on false f = lost child f on (mem e.previous x.children) refl

      at : (b : Bool) → mem e.child x.children ≡ b
          → (mem e.child x.children ≡ false → read u.table e.child ≡ read t e.child
          → show n u.table e ≡ show n t e → Goal) → Goal
      at true q on = named-before g k level above q
      at false q on = fitting (g.others e.child q) (on q) (fits n e (read t e.child)) refl

  -- refused both ways, or the same tree
  pub either_way : length t ≡ n * page_size → fit0 n t ≡ true → Bytes t → c < 256 ^ 4
      → (entered_tree n c t ≡ tree_of n t) ⊎ ((good_tree (tree_of n t) ≡ false) × (good_tree (entered_tree n c t) ≡ false))
  unfolding entered_tree tree_of empty
  either_way l f b m = go (goes-all top_kind [] (root_place t) empty (record { table = t; tree = empty }) known start (λ i h. absurd (mem-nil i h)))
    where
      z : Ready n c 0 t (root_place t)
      z = ready-root n c 0 t l f b m (omega arith)

      known : Known (root_place t)
      known = record { narrow = z.narrow; from = z.child_from; below = z.child_below; range = omega (arith, z.low, z.high) }

      start : Going empty (record { table = t; tree = empty })
      start = record { same = refl; long = l; bytes = b; others = λ i h. refl }

      go : Both (join empty (tree_of n t)) (enter_all top_kind n c [] (root_place t) (record { table = t; tree = empty }))
          → (entered_tree n c t ≡ tree_of n t) ⊎ ((good_tree (tree_of n t) ≡ false) × (good_tree (entered_tree n c t) ≡ false))
      go (going g) = inl (g.same ∙ empty-join (tree_of n t))
      go (refused p q) = inr (ap good_tree (sym (empty-join (tree_of n t))) ∙ p, q)

-- ── Opening ─────────────────────────────────────────────────────────────────────────────────────────────────────

module _ (w s : List ℕ) where
  as_it_stands : opening_by (tree_of (pages s) s) w s ≡ opening w s
  unfolding opening_by opening open_done
  as_it_stands = refl

  unfit : (x : Tree) → good_lengths w s ≡ true → fit0 (pages s) s ≡ false → opening_by x w s ≡ opening_by (tree_of (pages s) s) w s
  unfolding opening_by
  unfit x l f = rw (opening_by, l, f)

  both-refused : (x : Tree) → good_lengths w s ≡ true → fit0 (pages s) s ≡ true → good_tree x ≡ false → good_tree (tree_of (pages s) s) ≡ false
      → opening_by x w s ≡ opening_by (tree_of (pages s) s) w s
  unfolding opening_by
  both-refused x l f p q = rw (opening_by, l, f, p, q)

  short : (x : Tree) → good_lengths w s ≡ false → opening_by x w s ≡ opening_by (tree_of (pages s) s) w s
  unfolding opening_by
  short x l = rw (opening_by, l)

  module _ (b : Bytes s) (c : ℕ) (m : c < 256 ^ 4) where
    same-opening : opening_by (entered_tree (pages s) c s) w s ≡ opening_by (tree_of (pages s) s) w s
    same-opening = go (good_lengths w s) refl (fit0 (pages s) s) refl
      where
        alike : good_lengths w s ≡ true → fit0 (pages s) s ≡ true → (entered_tree (pages s) c s ≡ tree_of (pages s) s)
            ⊎ ((good_tree (tree_of (pages s) s) ≡ false) × (good_tree (entered_tree (pages s) c s) ≡ false))
            → opening_by (entered_tree (pages s) c s) w s ≡ opening_by (tree_of (pages s) s) w s
        alike p f (inl q) = ap (λ (x : Tree). opening_by x w s) q
        alike p f (inr q) = both-refused (entered_tree (pages s) c s) p f q.1 q.0

        long : good_lengths w s ≡ true → length s ≡ pages s * page_size
        long p =
            let l = good_lengths_true w s p in
            l.stable ∙ ap (λ (i : ℕ). i * page_size) (sym (pages-of s (pages w) l.stable))

        go : (x : Bool) → good_lengths w s ≡ x → (y : Bool) → fit0 (pages s) s ≡ y
            → opening_by (entered_tree (pages s) c s) w s ≡ opening_by (tree_of (pages s) s) w s
        go false p y f = short (entered_tree (pages s) c s) p
        go true p false f = unfit (entered_tree (pages s) c s) p f
        go true p true f = alike p f (either_way (pages s) c s (long p) f b m)

pub opening-either-way : OpeningEitherWay
unfolding OpeningEitherWay
opening-either-way w s b c m = same-opening w s b c m ∙ as_it_stands w s
