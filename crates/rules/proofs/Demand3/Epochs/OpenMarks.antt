-- The marks that opening hands out: a number that its lists don't name is no node's child and no lost node's previous
-- page.
use Rattle.std.proofs.Common.{◌≡◌, ℕ, zero, suc, ◌≤◌, Bool, true, false, ◌≢◌, ◌⊎◌, List, [], ◌∷◌, sym, ap, ◌∙◌, subst, inl, inr, arith}
use mathlib.Core.Bool.{false≢true}
use mathlib.Core.List.Memᴰ
use mathlib.Core.List.{Memᴰ}
use mathlib.Core.Option.{some, some-injective}
use Rattle.rules.specs.Layout.{top_kind}
use Rattle.rules.specs.Test.{mem}
use Rattle.rules.specs.Page.{View}
use Rattle.rules.specs.Place.{kids, show}
use Rattle.rules.specs.Tree.{Tree, join, here, tree_each, tree, tree_of}
use Rattle.rules.specs.declared.Place.{Place}
use Rattle.rules.proofs.Entries.Tests.{not_both, mem-head, mem-left, mem_right}
use Rattle.rules.proofs.Entries.Picks.{pick-mem}
use Rattle.rules.proofs.Demand3.Ways.Ways.{at, Node, Lost, Undamaged}
use Rattle.rules.proofs.Demand3.Ways.Invariant.{Good, Marks}
use Rattle.rules.proofs.Demand3.Ways.Kids.{shown-kind}
use Rattle.rules.proofs.Demand3.Ways.Nodes.{Above, above, at_root_lem, kid-kind}
use Rattle.rules.proofs.Demand3.Epochs.Epochs.{Alike, alike_sym, alike-node, alike-lost}
use Rattle.rules.proofs.Demand3.Epochs.Opens.{spared-lost, tree-shown}

-- one tree's lists hold another's
record Holds (a b : Tree) : Type 0 where
  children : (i : ℕ) → mem i b.children ≡ true → mem i a.children ≡ true
  spared : (i : ℕ) → mem i b.spared ≡ true → mem i a.spared ≡ true

holds_after : {a b c : Tree} → Holds a b → Holds b c → Holds a c
holds_after f g = record {
  children = λ i m. f.children i (g.children i m);
  spared = λ i m. f.spared i (g.spared i m);
}

holds-left : (a b : Tree) → Holds (join a b) a
unfolding join
holds-left a b = record {
  children = λ i m. mem-left i a.children b.children m;
  spared = λ i m. mem-left i a.spared b.spared m;
}

holds_right : (a b : Tree) → Holds (join a b) b
unfolding join
holds_right a b = record {
  children = λ i m. mem_right i a.children b.children m;
  spared = λ i m. mem_right i a.spared b.spared m;
}

holds_each : (tr : Place → Tree) (es : List Place) (d : Place) → Memᴰ d es → Holds (tree_each tr es) (tr d)
unfolding tree_each
holds_each tr [] d m = absurd (Memᴰ.not-nil m)
holds_each tr (e ∷ es) d m = go (Memᴰ.cases_cons m) (holds_each tr es d)
  where
    go : (d ≡ e) ⊎ Memᴰ d es → (Memᴰ d es → Holds (tree_each tr es) (tr d)) → Holds (join (tr e) (tree_each tr es)) (tr d)
    go (inl q) ih = subst (λ (x : Place). Holds (join (tr e) (tree_each tr es)) (tr x)) (sym q) (holds-left (tr e) (tree_each tr es))
    go (inr k) ih = holds_after (holds_right (tr e) (tree_each tr es)) (ih k)

-- the whole tree holds that of each node, told to a level that its kind does not pass
record Grafted (n : ℕ) (t : List ℕ) (e : Place) : Type 0 where
  view : View
  shows : show n t e ≡ some view
  level : ℕ
  tall : view.kind ≤ suc level
  holds : Holds (tree_of n t) (tree (suc level) n t e)

grafted : {n : ℕ} {t : List ℕ} → Good n t → (k i : ℕ) (e : Place) → at n t k i ≡ some e → Grafted n t e
unfolding tree_of
grafted {n} {t} g k zero e h =
    let w = g.whole (record { depth = 0; here = h }) in
    record {
      view = w.view;
      shows = w.shows;
      level = 2;
      tall = (shown-kind n t e w.view w.shows).1;
      holds = subst (λ (d : Place). Holds (tree_of n t) (tree top_kind n t d)) (at_root_lem n t k e h)
          (record { children = λ i m. m; spared = λ i m. m });
    }
grafted {n} {t} g k (suc i) e h = go (grafted g k i a.parent a.stands)
  where
    a : Above n t k (at n t k i) e
    a = above n t k i e h

    w : Undamaged n t e
    w = g.whole (record { depth = suc i; here = h })

    lower : (l : ℕ) → w.view.kind ≤ l → Holds (tree_of n t) (tree l n t e) → Grafted n t e
    lower zero p f = absurd (omega (arith, (shown-kind n t e w.view w.shows).0))
    lower (suc l) p f = record { view = w.view; shows = w.shows; level = l; tall = p; holds = f }

    go : Grafted n t a.parent → Grafted n t e
    go u =
        let p = a.parent in
        let same : u.view ≡ a.view = some-injective u.view a.view (sym u.shows ∙ a.shows) in
        let kinds = kid-kind n t p a.view a.shows k e a.picks w.view w.shows in
        let each = tree_each (tree u.level n t) (kids p a.view) in
        lower u.level
        (omega (arith, u.tall, kinds, ap (λ (v : View). v.kind) same))
        (holds_after u.holds
        (subst (λ (s : Tree). Holds s (tree u.level n t e)) (sym (tree-shown u.level n t p a.view a.shows))
        (holds_after (holds_right (here n t p a.view) each)
        (holds_each (tree u.level n t) (kids p a.view) e (pick-mem k (kids p a.view) e a.picks)))))

-- ── Every node is named ─────────────────────────────────────────────────────────────────────────────────────────

-- the tree of a node names its child, and its previous page if it is lost
here-named : (n : ℕ) (t : List ℕ) (e : Place) (v : View) → mem e.child (here n t e v).children ≡ true
unfolding here
here-named n t e v = mem-head e.child []

here-spared : (n : ℕ) (t : List ℕ) (e : Place) (v : View) → Lost n t e → mem e.previous (here n t e v).spared ≡ true
unfolding here
here-spared n t e v l = ap (mem e.previous) (spared-lost n t e l) ∙ mem-head e.previous []

node-held : {n : ℕ} {t : List ℕ} {k : ℕ} {e : Place} → Good n t → Node n t k e → (v : View) × Holds (tree_of n t) (here n t e v)
node-held {n} {t} {k} {e} g x =
    let u = grafted g k x.depth e x.here in
    let each = tree_each (tree u.level n t) (kids e u.view) in (
      u.view,
      holds_after
          (subst (Holds (tree_of n t)) (tree-shown u.level n t e u.view u.shows) u.holds)
          (holds-left (here n t e u.view) each),
    )

pub node-named : {n : ℕ} {t : List ℕ} {k : ℕ} {e : Place} → Good n t → Node n t k e → mem e.child (tree_of n t).children ≡ true
node-named {n} {t} {k} {e} g x = let h = node-held g x in h.1.children e.child (here-named n t e h.0)

pub node-spared : {n : ℕ} {t : List ℕ} {k : ℕ} {e : Place} → Good n t → Node n t k e → Lost n t e
    → mem e.previous (tree_of n t).spared ≡ true
node-spared {n} {t} {k} {e} g x l = let h = node-held g x in h.1.spared e.previous (here-spared n t e h.0 l)

-- ── The marks ───────────────────────────────────────────────────────────────────────────────────────────────────

-- u is t with another number in page 0
pub marks-opened : {n : ℕ} {t u : List ℕ} (free waiting : ℕ → Bool) → Good n t → Good n u → Alike n t u
    → ((i : ℕ) → free i ≡ true → (mem i (tree_of n t).children ≡ false) × (mem i (tree_of n t).spared ≡ false))
    → ((i : ℕ) → waiting i ≡ false) → Marks n u u free waiting
marks-opened {n} {t} {u} free waiting g g' a f z = record {
  free_old = λ {i} h x. child i h x;
  free_new = λ {i} h x. child i h x;
  free_spared = λ {i} h x l. spared i h x l;
  not_both = λ {i} h. z i;
  waiting_new = λ {i} h x. absurd (false≢true (sym (z i) ∙ h));
  waiting_spared = λ {i} h x l. absurd (false≢true (sym (z i) ∙ h));
}
  where
    back : {k : ℕ} {e : Place} → Node n u k e → Node n t k e
    back x = alike-node t g' (alike_sym a) x

    child : {k : ℕ} {e : Place} (i : ℕ) → free i ≡ true → Node n u k e → e.child ≢ i
    child i h x q =
        not_both (ap (λ (j : ℕ). mem j (tree_of n t).children) (sym q) ∙ node-named g (back x)) (f i h).0

    spared : {k : ℕ} {e : Place} (i : ℕ) → free i ≡ true → Node n u k e → Lost n u e → e.previous ≢ i
    spared i h x l q =
        not_both
        (ap (λ (j : ℕ). mem j (tree_of n t).spared) (sym q) ∙ node-spared g (back x) (alike-lost t g' (alike_sym a) x l))
        (f i h).1
