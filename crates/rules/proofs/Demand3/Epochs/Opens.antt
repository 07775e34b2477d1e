-- Opening's test passes on a good table: its list of children names each node once, and its list of spared pages is
-- that of the lost nodes.
use Rattle.std.proofs.Common.{◌≡◌, ℕ, zero, suc, ◌-◌, ◌<◌, ◌≤◌, Bool, true, false, not, ◌⊎◌, List, [], ◌∷◌, sym, refl, ap, ◌∙◌, subst, inl, inr, arith}
use mathlib.Core.List.{Memᴰ}
use mathlib.Core.Option.{some, some-injective}
use Rattle.rules.specs.Layout.{top_kind, last_key}
use Rattle.rules.specs.Test.{mem, distinct}
use Rattle.rules.specs.Entry.{Child, keys}
use Rattle.rules.specs.Page.{View}
use Rattle.rules.specs.Table.{read}
use Rattle.rules.specs.Place.{root_place, high_before, place_of, places_in, kids, pick, fits, show}
use Rattle.rules.specs.Tree.{Tree, empty, join, spared_at, here, tree_each, tree, tree_of, good_tree}
use Rattle.rules.specs.declared.Place.{Place}
use Rattle.rules.proofs.Entries.Tests.{and_of, every_of, fails, mem-nil, mem_cases, mem-append_cases, all_of-mem, distinct_nil, distinct_cons, distinct_append}
use Rattle.rules.proofs.Entries.Rises.{rises-mem, rising-from}
use Rattle.rules.proofs.Entries.Picks.{Rising, rising-rest, kid-key, kid-rise, places-kids}
use Rattle.rules.proofs.Entries.Asks.{kids-rising, kids-mem, kids_picked}
use Rattle.rules.proofs.Demand3.Ways.Ways.{Node, Found, Lost, Undamaged}
use Rattle.rules.proofs.Demand3.Ways.Invariant.{Good}
use Rattle.rules.proofs.Demand3.Ways.Kids.{shown-kind, sound-here, kid-within}
use Rattle.rules.proofs.Demand3.Ways.Nodes.{node-root, node-range, node-same, node-below, kid-kind}

-- ── What a tree's lists name ────────────────────────────────────────────────────────────────────────────────────

-- the child of a node within a range, of at most a kind
pub record Named (n : ℕ) (t : List ℕ) (low high kind i : ℕ) : Type 0 where
  pub place : Place
  pub view : View
  pub node : Node n t place.low place
  pub shows : show n t place ≡ some view
  pub from : low ≤ place.low
  pub to : place.high ≤ high
  pub tall : view.kind ≤ kind
  pub names : place.child ≡ i

-- the previous page of a lost node
pub record Spares (n : ℕ) (t : List ℕ) (i : ℕ) : Type 0 where
  pub place : Place
  pub node : Node n t place.low place
  pub lost : Lost n t place
  pub names : place.previous ≡ i

pub record Grown (n : ℕ) (t : List ℕ) (low high kind : ℕ) (s : Tree) : Type 0 where
  pub whole : s.whole ≡ true
  pub once : distinct s.children ≡ true
  pub child : (i : ℕ) → mem i s.children ≡ true → Named n t low high kind i
  pub spare : (i : ℕ) → mem i s.spared ≡ true → Spares n t i

named_wider : {n : ℕ} {t : List ℕ} {l h k i : ℕ} (low high kind : ℕ) → low ≤ l → h ≤ high → k ≤ kind
    → Named n t l h k i → Named n t low high kind i
named_wider low high kind p q r x = record {
  place = x.place;
  view = x.view;
  node = x.node;
  shows = x.shows;
  from = omega (arith, x.from);
  to = omega (arith, x.to);
  tall = omega (arith, x.tall);
  names = x.names;
}

pub spared-found : (n : ℕ) (t : List ℕ) (e : Place) → Found n t e → spared_at n t e ≡ []
unfolding spared_at
spared-found n t e f = rw (f, spared_at)

pub spared-lost : (n : ℕ) (t : List ℕ) (e : Place) → Lost n t e → spared_at n t e ≡ e.previous ∷ []
unfolding spared_at
spared-lost n t e f = rw (f, spared_at)

grown_wider : {n : ℕ} {t : List ℕ} {l high k kind : ℕ} {s : Tree} (low : ℕ) → low ≤ l → k ≤ kind → Grown n t l high k s → Grown n t low high kind s
grown_wider {high = high} {kind = kind} low p q x = record {
  whole = x.whole;
  once = x.once;
  child = λ i m. named_wider low high kind p (omega arith) (omega arith) (x.child i m);
  spare = x.spare;
}

-- ── Trees joined ────────────────────────────────────────────────────────────────────────────────────────────────

grown-empty : (n : ℕ) (t : List ℕ) (low high kind : ℕ) → Grown n t low high kind empty
unfolding empty
grown-empty n t low high kind = record {
  whole = refl;
  once = distinct_nil;
  child = λ i m. absurd (mem-nil i m);
  spare = λ i m. absurd (mem-nil i m);
}

-- two trees whose ranges lie one above the other
grown-join : {n : ℕ} {t : List ℕ} {kind : ℕ} {a b : Tree} (low m high : ℕ) → Good n t → low ≤ suc m → m ≤ high
    → Grown n t low m kind a → Grown n t (suc m) high kind b → Grown n t low high kind (join a b)
unfolding join
grown-join {n} {t} {kind} {a} {b} low m high g p q x y = record {
  whole = and_of x.whole y.whole;
  once = distinct_append a.children b.children x.once y.once (λ i u v. apart (x.child i u) (y.child i v));
  child = λ i u. child i (mem-append_cases i a.children b.children u);
  spare = λ i u. spare i (mem-append_cases i a.spared b.spared u);
}
  where
    apart : {i : ℕ} → Named n t low m kind i → Named n t (suc m) high kind i → ⊥
    apart u v =
        let e : u.place ≡ v.place = g.once u.node v.node (u.names ∙ sym v.names) in
        omega (arith, u.to, v.from, (node-range u.node).1, ap (λ (d : Place). d.low) e)

    child : (i : ℕ) → (mem i a.children ≡ true) ⊎ (mem i b.children ≡ true) → Named n t low high kind i
    child i (inl u) = named_wider low high kind (omega arith) q (omega arith) (x.child i u)
    child i (inr u) = named_wider low high kind p (omega arith) (omega arith) (y.child i u)

    spare : (i : ℕ) → (mem i a.spared ≡ true) ⊎ (mem i b.spared ≡ true) → Spares n t i
    spare i (inl u) = x.spare i u
    spare i (inr u) = y.spare i u

-- a page above the trees of its kids
grown-here : {n : ℕ} {t : List ℕ} {b : Tree} (e : Place) (v : View) (kind : ℕ) → Good n t → Node n t e.low e → show n t e ≡ some v
    → kind < v.kind → Grown n t e.low e.high kind b → Grown n t e.low e.high v.kind (join (here n t e v) b)
unfolding join here spared_at
grown-here {n} {t} {b} e v kind g x s p y = record {
  whole = y.whole;
  once = distinct_cons e.child b.children (fails (mem e.child b.children) (λ u. apart (y.child e.child u))) y.once;
  child = λ i u. child i (mem_cases i e.child b.children u);
  spare = λ i u. spare i (mem-append_cases i (spared_at n t e) b.spared u);
}
  where
    apart : Named n t e.low e.high kind e.child → ⊥
    apart u =
        let q : u.place ≡ e = g.once u.node x u.names in
        let r : u.view ≡ v = some-injective u.view v (sym u.shows ∙ (ap (show n t) q ∙ s)) in
        omega (arith, u.tall, ap (λ (w : View). w.kind) r)

    child : (i : ℕ) → (i ≡ e.child) ⊎ (mem i b.children ≡ true) → Named n t e.low e.high v.kind i
    child i (inl q) = record {
      place = e;
      view = v;
      node = x;
      shows = s;
      from = omega arith;
      to = omega arith;
      tall = omega arith;
      names = sym q;
    }
    child i (inr u) = named_wider e.low e.high v.kind (omega arith) (omega arith) (omega arith) (y.child i u)

    named : {i : ℕ} → Lost n t e → (i ≡ e.previous) ⊎ (mem i [] ≡ true) → Spares n t i
    named f (inl q) = record { place = e; node = x; lost = f; names = sym q }
    named {i} f (inr m) = absurd (mem-nil i m)

    own : (i : ℕ) → mem i (spared_at n t e) ≡ true → Spares n t i
    own i u = go (fits n e (read t e.child)) refl
      where
        go : (f : Bool) → fits n e (read t e.child) ≡ f → Spares n t i
        go true f = absurd (mem-nil i (ap (mem i) (sym (spared-found n t e f)) ∙ u))
        go false f = named f (mem_cases i e.previous [] (ap (mem i) (sym (spared-lost n t e f)) ∙ u))

    spare : (i : ℕ) → (mem i (spared_at n t e) ≡ true) ⊎ (mem i b.spared ≡ true) → Spares n t i
    spare i (inl u) = own i u
    spare i (inr u) = y.spare i u

-- ── The tree of a place ─────────────────────────────────────────────────────────────────────────────────────────

-- a node among the kids of a page, all of one kind
record Sprout (n : ℕ) (t : List ℕ) (low high kind : ℕ) (d : Place) : Type 0 where
  node : Node n t d.low d
  from : low ≤ d.low
  to : d.high ≤ high
  tall : (u : View) → show n t d ≡ some u → u.kind ≡ kind

-- the tree of every node of at most a kind is grown
abbrev Grows : ℕ → List ℕ → ℕ → (Place → Tree) → Type 0
Grows n t kind tr =
    (d : Place) (u : View) → Node n t d.low d → show n t d ≡ some u → u.kind ≤ kind
    → Grown n t d.low d.high u.kind (tr d)

grown_each : {n : ℕ} {t : List ℕ} {kind : ℕ} (tr : Place → Tree) → Good n t → Grows n t kind tr
    → (want high low : ℕ) (xs : List Child) → Rising high xs
    → ((d : Place) → Memᴰ d (places_in want high xs) → Sprout n t low high kind d)
    → Grown n t low high kind (tree_each tr (places_in want high xs))
unfolding tree_each places_in place_of keys
grown_each {n} {t} {kind} tr g f want high low [] r h = grown-empty n t low high kind
grown_each {n} {t} {kind} tr g f want high low (x ∷ xs) r h =
    grown-join low p.high high g (omega (arith, a.from, (node-range a.node).1)) a.to first
    (grown_each tr g f want high (suc p.high) xs (rising-rest r) rest)
  where
    p : Place
    p = place_of want (high_before high xs) x

    a : Sprout n t low high kind p
    a = h p (Memᴰ.head refl)

    w : Undamaged n t p
    w = g.whole a.node

    tall : w.view.kind ≡ kind
    tall = a.tall w.view w.shows

    first : Grown n t low p.high kind (tr p)
    first =
        grown_wider low a.from (omega (arith, tall))
        (f p w.view a.node w.shows (omega (arith, tall)))

    rest : (d : Place) → Memᴰ d (places_in want high xs) → Sprout n t (suc p.high) high kind d
    rest d m =
        let b = h d (Memᴰ.tail m) in
        record {
          node = b.node;
          from = kid-rise (places-kids want high (x ∷ xs) p r (Memᴰ.head refl))
              (places-kids want high (x ∷ xs) d r (Memᴰ.tail m))
              (rises-mem x.key d.low (keys xs) (rising-from x.key (keys xs) r.rise)
              (kid-key (places-kids want high xs d (rising-rest r) m)));
          to = b.to;
          tall = b.tall;
        }

-- what a place that shows something grows
pub tree-shown : (level n : ℕ) (t : List ℕ) (e : Place) (v : View) → show n t e ≡ some v
    → tree (suc level) n t e ≡ join (here n t e v) (tree_each (tree level n t) (kids e v))
unfolding tree
tree-shown level n t e v s = rw (s, tree)

-- a kid of a node is a node
pub kid-node : {n : ℕ} {t : List ℕ} {k : ℕ} {e : Place} (v : View) (d : Place) → Node n t k e → show n t e ≡ some v
    → Memᴰ d (kids e v) → (pick d.low (kids e v) ≡ some d) × Node n t d.low d
kid-node {n} {t} {k} {e} v d x s m =
    let r = node-range x in
    let o = sound-here n t e v s (omega arith) in
    let a = kids-mem e o d m in
    let p = kids_picked e o d.low d a (omega arith) a.range in
    let w = kid-within n t e v s d.low d p in
    let y : Node n t d.low e = node-same d.low x w.0 (omega (arith, a.range, w.1)) in
    (p, node-below v d y s p)

pub tree-grown : {n : ℕ} {t : List ℕ} → Good n t → (level : ℕ) → Grows n t level (tree level n t)
unfolding kids
tree-grown {n} {t} g zero e v x s h = absurd (omega (arith, (shown-kind n t e v s).0))
tree-grown {n} {t} g (suc level) e v x s h =
    subst (Grown n t e.low e.high v.kind) (sym (tree-shown level n t e v s))
    (grown-here e v (v.kind - 1) g x s (omega (arith, (shown-kind n t e v s).0)) (under (tree-grown g level)))
  where
    sprout : (d : Place) → Memᴰ d (kids e v) → Sprout n t e.low e.high (v.kind - 1) d
    sprout d m =
        let y = kid-node v d x s m in
        let w = kid-within n t e v s d.low d y.0 in
        record {
          node = y.1;
          from = w.0;
          to = w.1;
          tall = λ u q. omega (arith, kid-kind n t e v s d.low d y.0 u q);
        }

    under : Grows n t level (tree level n t) → Grown n t e.low e.high (v.kind - 1) (tree_each (tree level n t) (kids e v))
    under f =
        grown_each (tree level n t) g (λ d u y q k. f d u y q (omega (arith, k))) (v.kind - 1) e.high e.low v.children
        (kids-rising e (sound-here n t e v s (omega (arith, node-range x)))) sprout

-- ── The test ────────────────────────────────────────────────────────────────────────────────────────────────────

pub tree_of-good : {n : ℕ} {t : List ℕ} → Good n t → Grown n t 0 last_key top_kind (tree_of n t)
unfolding tree_of root_place
tree_of-good {n} {t} g =
    let x = node-root n t 0 (omega arith) in
    let w = g.whole x in
    let k = (shown-kind n t (root_place t) w.view w.shows).1 in
    grown_wider 0 (omega arith) k (tree-grown g top_kind (root_place t) w.view x w.shows k)

pub good_tree_lem : {n : ℕ} {t : List ℕ} → Good n t → good_tree (tree_of n t) ≡ true
unfolding good_tree
good_tree_lem {n} {t} g =
    let y = tree_of-good g in
    every_of _ (y.whole, (y.once, (all_of-mem _ (tree_of n t).spared (λ i m. apart i (y.spare i m)), tt)))
  where
    apart : (i : ℕ) → Spares n t i → not (mem i (tree_of n t).children) ≡ true
    apart i x =
        ap not
        (fails (mem i (tree_of n t).children)
        (λ m. let d = (tree_of-good g).child i m in g.apart x.node x.lost d.node (x.names ∙ sym d.names)))
