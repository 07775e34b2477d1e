-- Nodes: a node for one key is a node for every key of its range; two nodes on one way that show one kind are one; a
-- good table has a leaf for every key. These replace every statement about ranges that are disjoint or tile.
use Rattle.std.proofs.Common.{◌≡◌, ℕ, zero, suc, ◌+◌, ◌<◌, ◌≤◌, Bool, true, false, eqb, ◌⊎◌, List, [], ◌∷◌, sym, refl, ap, ◌∙◌, subst, inl, inr, add-zero, arith, eqb-true}
use mathlib.Core.Option.{Option, some, none, none-ne-some, some-injective}
use borrow.Author.Tests.{eqb-false}
use Rattle.rules.specs.Layout.{leaf_kind, top_kind, last_key}
use Rattle.rules.specs.Entry.{find}
use Rattle.rules.specs.Page.{View}
use Rattle.rules.specs.Place.{root_place, kids, pick, show}
use Rattle.rules.specs.declared.Place.{Place}
use Rattle.rules.proofs.Demand3.Ways.Ways.{under, below, at, Node, Tells}
use Rattle.rules.proofs.Demand3.Ways.Invariant.{Rooted, Good}
use Rattle.rules.proofs.Entries.Picks.{pick-here, pick-holds}
use Rattle.rules.proofs.Demand3.Ways.Kids.{shown-kind, shown-want, pick-one, kid-same, kid-within, kid-want, kid-page, kid-some}

-- ── One step down ───────────────────────────────────────────────────────────────────────────────────────────────

-- the place above, what it shows, and that k leads from it to e
pub record Above (n : ℕ) (t : List ℕ) (k : ℕ) (from : Option Place) (e : Place) : Type 0 where
  pub parent : Place
  pub view : View
  pub stands : from ≡ some parent
  pub shows : show n t parent ≡ some view
  pub picks : pick k (kids parent view) ≡ some e

below-above : (n : ℕ) (t : List ℕ) (k : ℕ) (from : Option Place) (e : Place) → below n t k from ≡ some e → Above n t k from e
unfolding below under
below-above n t k none e h = absurd (none-ne-some e h)
below-above n t k (some p) e h = go (show n t p) refl h
  where
    go : (s : Option View) → show n t p ≡ s → under k p s ≡ some e → Above n t k (some p) e
    go none q h = absurd (none-ne-some e h)
    go (some v) q h = record { parent = p; view = v; stands = refl; shows = q; picks = h }

pub above : (n : ℕ) (t : List ℕ) (k i : ℕ) (e : Place) → at n t k (suc i) ≡ some e → Above n t k (at n t k i) e
unfolding at
above n t k i e h = below-above n t k (at n t k i) e h

pub at_below : (n : ℕ) (t : List ℕ) (k i : ℕ) (e : Place) (v : View) → at n t k i ≡ some e → show n t e ≡ some v
    → at n t k (suc i) ≡ pick k (kids e v)
unfolding at below under
at_below n t k i e v h s = rw (h, below, s, under)

pub node-below : {n : ℕ} {t : List ℕ} {k : ℕ} {e : Place} (v : View) (d : Place)
    → Node n t k e → show n t e ≡ some v → pick k (kids e v) ≡ some d → Node n t k d
node-below {n} {t} {k} {e} v d x s p =
    record { depth = suc x.depth; here = at_below n t k x.depth e v x.here s ∙ p }

-- ── Every way starts at the root ────────────────────────────────────────────────────────────────────────────────

pub at_root_lem : (n : ℕ) (t : List ℕ) (k : ℕ) (e : Place) → at n t k 0 ≡ some e → root_place t ≡ e
unfolding at
at_root_lem n t k e h = pick-one k (root_place t) e h

pub node-root : (n : ℕ) (t : List ℕ) (k : ℕ) → k ≤ last_key → Node n t k (root_place t)
unfolding at root_place
node-root n t k h = record { depth = 0; here = pick-here k (root_place t) [] (omega arith) h }

pub at-range : (n : ℕ) (t : List ℕ) (k i : ℕ) (e : Place) → at n t k i ≡ some e → (e.low ≤ k) × (k ≤ e.high)
unfolding at
at-range n t k zero e h = pick-holds k (root_place t ∷ []) e h
at-range n t k (suc i) e h = let a = above n t k i e h in pick-holds k (kids a.parent a.view) e a.picks

pub node-range : {n : ℕ} {t : List ℕ} {k : ℕ} {e : Place} → Node n t k e → (e.low ≤ k) × (k ≤ e.high)
node-range {n} {t} {k} {e} x = at-range n t k x.depth e x.here

-- ── The same node for every key of its range ────────────────────────────────────────────────────────────────────

pub at_same : (n : ℕ) (t : List ℕ) (k j i : ℕ) (e : Place) → at n t k i ≡ some e → e.low ≤ j → j ≤ e.high → at n t j i ≡ some e
unfolding at
at_same n t k j zero e h l u =
    subst (λ (r : Place). pick j (r ∷ []) ≡ some e) (sym (pick-one k (root_place t) e h)) (pick-here j e [] l u)
at_same n t k j (suc i) e h l u =
    let a = above n t k i e h in
    let w = kid-within n t a.parent a.view a.shows k e a.picks in
    let up = at_same n t k j i a.parent a.stands (omega (arith, w.0)) (omega (arith, w.1)) in
    at_below n t j i a.parent a.view up a.shows
    ∙ kid-same n t a.parent a.view a.shows k e a.picks j l u

pub node-same : {n : ℕ} {t : List ℕ} {k : ℕ} {e : Place} (j : ℕ) → Node n t k e → e.low ≤ j → j ≤ e.high → Node n t j e
node-same {n} {t} {k} {e} j x l u =
    record { depth = x.depth; here = at_same n t k j x.depth e x.here l u }

-- ── One node of a kind on a way ─────────────────────────────────────────────────────────────────────────────────

-- one kind less at each step
pub kid-kind : (n : ℕ) (t : List ℕ) (e : Place) (v : View) → show n t e ≡ some v
    → (k : ℕ) (d : Place) → pick k (kids e v) ≡ some d → (u : View) → show n t d ≡ some u → v.kind ≡ suc u.kind
kid-kind n t e v s k d p u x = go (kid-want n t e v s k d p) (shown-want n t d u x)
  where
    go : (1 ≤ d.want) × (suc d.want ≡ v.kind) → (d.want ≡ 0) ⊎ (d.want ≡ u.kind) → v.kind ≡ suc u.kind
    go w (inl z) = omega (arith, w.0)
    go w (inr a) = omega (arith, w.1)

record Topped (n : ℕ) (t : List ℕ) (kind : ℕ) : Type 0 where
  top : View
  shows : show n t (root_place t) ≡ some top
  tall : top.kind ≡ kind

depth-kind : (n : ℕ) (t : List ℕ) (k i : ℕ) (e : Place) (v : View) → at n t k i ≡ some e → show n t e ≡ some v
    → Topped n t (v.kind + i)
depth-kind n t k zero e v h s =
    record {
      top = v;
      shows = subst (λ (r : Place). show n t r ≡ some v) (sym (at_root_lem n t k e h)) s;
      tall = sym (add-zero v.kind);
    }
depth-kind n t k (suc i) e v h s =
    let a = above n t k i e h in
    let r = depth-kind n t k i a.parent a.view a.stands a.shows in
    record {
      top = r.top;
      shows = r.shows;
      tall = omega (arith, r.tall, kid-kind n t a.parent a.view a.shows k e a.picks v s);
    }

pub at_level : {n : ℕ} {t : List ℕ} {k : ℕ} {a b : Place} (v w : View) → Node n t k a → Node n t k b
    → show n t a ≡ some v → show n t b ≡ some w → v.kind ≡ w.kind → a ≡ b
at_level {n} {t} {k} {a} {b} v w x y sx sy h =
    some-injective a b (sym x.here ∙ (ap (at n t k) deep ∙ y.here))
  where
    p : Topped n t (v.kind + x.depth)
    p = depth-kind n t k x.depth a v x.here sx

    q : Topped n t (w.kind + y.depth)
    q = depth-kind n t k y.depth b w y.here sy

    tops : p.top ≡ q.top
    tops = some-injective p.top q.top (sym p.shows ∙ q.shows)

    deep : x.depth ≡ y.depth
    deep = omega (arith, p.tall, q.tall, ap (λ (u : View). u.kind) tops, h)

-- ── A good table has a leaf for every key ───────────────────────────────────────────────────────────────────────

-- the number of a node is a page's
pub node-page : {n : ℕ} {t : List ℕ} {k : ℕ} {e : Place} → Rooted n t → Node n t k e → (1 ≤ e.child) × (e.child < n)
node-page {n} {t} {k} {e} r x = go x.depth x.here
  where
    go : (i : ℕ) → at n t k i ≡ some e → (1 ≤ e.child) × (e.child < n)
    go zero h =
        subst (λ (p : Place). (1 ≤ p.child) × (p.child < n)) (at_root_lem n t k e h) (r.some_page, r.in_table)
    go (suc i) h =
        let a = above n t k i e h in
        kid-page n t a.parent a.view a.shows k e a.picks

-- from a node down to the leaf
down : {n : ℕ} {t : List ℕ} → Good n t → (m k : ℕ) (e : Place) (v : View) → Node n t k e → show n t e ≡ some v → v.kind ≤ m
    → (state : Option ℕ) × Tells n t k state
down {n} {t} g zero k e v x s h = absurd (omega (arith, (shown-kind n t e v s).0))
down {n} {t} g (suc m) k e v x s h = go (eqb v.kind leaf_kind) refl (down g m k)
  where
    Goal : Type 0
    Goal = (state : Option ℕ) × Tells n t k state

    go : (b : Bool) → eqb v.kind leaf_kind ≡ b
        → ((d : Place) (u : View) → Node n t k d → show n t d ≡ some u → u.kind ≤ m → Goal) → Goal
    go true q ih =
        (find k v.certs, record { place = e; view = v; node = x; shows = s; leaf = eqb-true v.kind leaf_kind q; finds = refl })
    go false q ih =
        let r = node-range x in
        let d = kid-some n t e v s (eqb-false v.kind leaf_kind q) k r.0 r.1 in
        let y : Node n t k d.0 = node-below v d.0 x s d.1 in
        let u = g.whole y in
        ih d.0 u.view y u.shows (omega (arith, kid-kind n t e v s k d.0 d.1 u.view u.shows))

pub tells : {n : ℕ} {t : List ℕ} → Good n t → (k : ℕ) → k ≤ last_key → (state : Option ℕ) × Tells n t k state
tells {n} {t} g k h =
    let x = node-root n t k h in
    let u = g.whole x in
    down g top_kind k (root_place t) u.view x u.shows (shown-kind n t (root_place t) u.view u.shows).1

-- a table tells one thing of a key
pub tells-one : {n : ℕ} {t : List ℕ} {k : ℕ} {a b : Option ℕ} → Tells n t k a → Tells n t k b → a ≡ b
tells-one {n} {t} {k} {a} {b} x y =
    sym x.finds ∙ (ap (λ (v : View). find k v.certs) views ∙ y.finds)
  where
    places : x.place ≡ y.place
    places = at_level x.view y.view x.node y.node x.shows y.shows (x.leaf ∙ sym y.leaf)

    views : x.view ≡ y.view
    views = some-injective x.view y.view (sym x.shows ∙ (ap (show n t) places ∙ y.shows))

-- ── Tables that show the same ───────────────────────────────────────────────────────────────────────────────────

-- the way of k stays if the root does, and what each place on it shows
pub at-stays : (n : ℕ) (t u : List ℕ) (k : ℕ) → root_place u ≡ root_place t
    → ((i : ℕ) (e : Place) → at n t k i ≡ some e → show n u e ≡ show n t e)
    → (i : ℕ) (e : Place) → at n t k i ≡ some e → at n u k i ≡ some e
unfolding at
at-stays n t u k r f zero e h = ap (λ (p : Place). pick k (p ∷ [])) r ∙ h
at-stays n t u k r f (suc i) e h =
    let a = above n t k i e h in
    at_below n u k i a.parent a.view (at-stays n t u k r f i a.parent a.stands) (f i a.parent a.stands ∙ a.shows)
    ∙ a.picks

pub node_stays : {n : ℕ} {t : List ℕ} {k : ℕ} {e : Place} (u : List ℕ) → root_place u ≡ root_place t
    → ((d : Place) → Node n t k d → show n u d ≡ show n t d) → Node n t k e → Node n u k e
node_stays {n} {t} {k} {e} u r f x =
    record {
      depth = x.depth;
      here = at-stays n t u k r (λ i d h. f d (record { depth = i; here = h })) x.depth e x.here;
    }
