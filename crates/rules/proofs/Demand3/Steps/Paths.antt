-- The way of a key, walked: no page of it is damaged, what was lost is mended, and the store is safe and shows the same. The
-- steps that are handed out are the nodes of the way, from the leaf up, each with the page that now stands there.
use Rattle.std.proofs.Common.{◌≡◌, ℕ, zero, suc, ◌<◌, ◌≤◌, Bool, true, false, eqb, ◌⊎◌, List, [], ◌∷◌, sym, refl, ap, ◌∙◌, subst, inl, inr, arith, eqb-true}
use mathlib.Core.Option.{Option, some, none, none-ne-some, some-injective}
use borrow.Author.Tests.{eqb-false}
use Rattle.rules.specs.Layout.{leaf_kind, top_kind, last_key}
use Rattle.rules.specs.Test.{mem}
use Rattle.rules.specs.Entry.{find}
use Rattle.rules.specs.Page.{View, Page}
use Rattle.rules.specs.Table.{read}
use Rattle.rules.specs.Place.{root_place, kids, pick, show}
use Rattle.rules.specs.Enter.{Entered, enter}
use Rattle.rules.specs.Walk.{Step, Way, numbers, certs_at, descend, way_of}
use Rattle.rules.specs.declared.Place.{Place}
use Rattle.rules.specs.declared.Session.{Session}
use Rattle.rules.proofs.Entries.Tests.{fails, mem-nil, mem_cases}
use Rattle.rules.proofs.Demand3.Ways.Ways.{Node, Found, Tells}
use Rattle.rules.proofs.Demand3.Ways.Invariant.{Good, States}
use Rattle.rules.proofs.Demand3.Ways.Sources.{show-found}
use Rattle.rules.proofs.Demand3.Ways.Kids.{shown-kind, kid-some}
use Rattle.rules.proofs.Demand3.Ways.Nodes.{node-root, node-range, node-below, kid-kind}
use Rattle.rules.proofs.Demand3.Epochs.Epochs.{working-good}
use Rattle.rules.proofs.Demand3.Epochs.Store.{Safe}
use Rattle.rules.proofs.Demand3.Steps.Mended.{Steady, steady-node, steady-found, steady_then, Enters, enters-node}

-- ── Steps of a way ──────────────────────────────────────────────────────────────────────────────────────────────

-- a step is a node on k's way whose page stands in the table
pub record At (n : ℕ) (t : List ℕ) (k : ℕ) (s : Step) : Type 0 where
  pub node : Node n t k s.place
  pub found : Found n t s.place
  pub reads : read t s.place.child ≡ s.page

-- e comes next below steps that lead down from the root
abbrev pub From : ℕ → List ℕ → ℕ → List Step → Place → Type 0
From n t k [] e = root_place t ≡ e
From n t k (u ∷ above) e = At n t k u × From n t k above u.place × (pick k (kids u.place u.page.view) ≡ some e)

-- steps that lead down from the root, the last one first
abbrev pub Path : ℕ → List ℕ → ℕ → List Step → Type 0
Path n t k [] = ⊥
Path n t k (s ∷ above) = At n t k s × From n t k above s.place

pub at-shows : {n : ℕ} {t : List ℕ} {k : ℕ} {s : Step} → At n t k s → show n t s.place ≡ some s.page.view
at-shows {n} {t} {k} {s} a = show-found n t s.place a.found ∙ ap (λ (p : Page). some p.view) a.reads

pub from-node : {n : ℕ} {t : List ℕ} {k : ℕ} (above : List Step) {e : Place} → k ≤ last_key → From n t k above e → Node n t k e
from-node {n} {t} {k} [] h f = subst (Node n t k) f (node-root n t k h)
from-node {n} {t} {k} (u ∷ above) {e} h f = node-below u.page.view e f.0.node (at-shows f.0) f.2

-- ── Steps stay where a table shows the same ─────────────────────────────────────────────────────────────────────

pub at-steady : {n : ℕ} {t u : List ℕ} {k : ℕ} {s : Step} → Steady n t u → At n t k s → At n u k s
at-steady h a = record {
  node = steady-node h a.node;
  found = steady-found h a.node a.found;
  reads = h.stays a.node a.found ∙ a.reads;
}

pub from-steady : {n : ℕ} {t u : List ℕ} (k : ℕ) (above : List Step) (e : Place) → Steady n t u → From n t k above e → From n u k above e
from-steady k [] e h f = h.root ∙ f
from-steady k (s ∷ above) e h f = (at-steady h f.0, from-steady k above s.place h f.1, f.2)

-- ── No number comes twice on a way ──────────────────────────────────────────────────────────────────────────────

record Higher (n : ℕ) (t : List ℕ) (k kind i : ℕ) : Type 0 where
  place : Place
  view : View
  node : Node n t k place
  shows : show n t place ≡ some view
  child : place.child ≡ i
  taller : kind < view.kind

higher : {n : ℕ} {t : List ℕ} {k : ℕ} (above : List Step) (e : Place) (v : View) → From n t k above e → show n t e ≡ some v
    → (i : ℕ) → mem i (numbers above) ≡ true → Higher n t k v.kind i
unfolding numbers
higher [] e v f s i m = absurd (mem-nil i m)
higher {n} {t} {k} (u ∷ above) e v f s i m =
    go (mem_cases i u.place.child (numbers above) m) (higher above u.place u.page.view f.1 (at-shows f.0) i)
  where
    tall : u.page.view.kind ≡ suc v.kind
    tall = kid-kind n t u.place u.page.view (at-shows f.0) k e f.2 v s

    go : (i ≡ u.place.child) ⊎ (mem i (numbers above) ≡ true)
        → (mem i (numbers above) ≡ true → Higher n t k u.page.view.kind i) → Higher n t k v.kind i
    go (inl q) ih =
        record {
          place = u.place;
          view = u.page.view;
          node = f.0.node;
          shows = at-shows f.0;
          child = sym q;
          taller = omega (arith, tall);
        }
    go (inr q) ih =
        let h = ih q in
        record {
          place = h.place;
          view = h.view;
          node = h.node;
          shows = h.shows;
          child = h.child;
          taller = omega (arith, tall, h.taller);
        }

pub from-apart : {n : ℕ} {t : List ℕ} {k : ℕ} (above : List Step) {e : Place} (v : View) → Good n t → Node n t k e
    → From n t k above e → show n t e ≡ some v → mem e.child (numbers above) ≡ false
from-apart {n} {t} {k} above {e} v g x f s =
    fails (mem e.child (numbers above)) (λ m. clash (higher above e v f s e.child m))
  where
    clash : Higher n t k v.kind e.child → ⊥
    clash h =
        let q : h.place ≡ e = g.once h.node x h.child in
        let w : h.view ≡ v = some-injective h.view v (sym h.shows ∙ (ap (show n t) q ∙ s)) in
        omega (arith, h.taller, ap (λ (a : View). a.kind) w)

-- ── The descent ─────────────────────────────────────────────────────────────────────────────────────────────────

pub record Descends (s : Session) (W S : List ℕ) (Been : States) (k : ℕ) (r : Way) : Type 0 where
  pub last : Step
  pub above : List Step
  pub given : r.steps ≡ some (last ∷ above)
  pub safe : Safe s r.table S Been
  pub steady : Steady s.n W r.table
  pub path : Path s.n r.table k (last ∷ above)
  pub leaf : last.page.view.kind ≡ leaf_kind

descends_then : {s : Session} {W U S : List ℕ} {Been : States} {k : ℕ} {r : Way} → Steady s.n W U → Descends s U S Been k r → Descends s W S Been k r
descends_then h d = record {
  last = d.last;
  above = d.above;
  given = d.given;
  safe = d.safe;
  steady = steady_then h d.steady;
  path = d.path;
  leaf = d.leaf;
}

module _ {s : Session} {S : List ℕ} {Been : States} {k : ℕ} (bound : k ≤ last_key) where
  descends : (level : ℕ) (above : List Step) (t : List ℕ) (e : Place) (v : View) → Safe s t S Been → From s.n t k above e
      → show s.n t e ≡ some v → v.kind ≤ level → Descends s t S Been k (descend level s.n s.c k above t e)
  unfolding descend
  descends zero above t e v x f h l = absurd (omega (arith, (shown-kind s.n t e v h).0))
  descends (suc level) above t e v x f h l = go (pick k (kids e p.view)) refl (descends level)
    where
      y : Node s.n t k e
      y = from-node above bound f

      r : Entered
      r = enter s.n s.c (numbers above) t e

      E : Enters s t S Been e r
      E = enters-node (numbers above) x y (from-apart above v (working-good x.inv) y f h)

      p : Page
      p = E.page

      step : Step
      step = record { place = e; page = p }

      here : At s.n r.table k step
      here = record { node = steady-node E.steady y; found = E.found; reads = E.reads }

      kinds : p.view.kind ≡ v.kind
      kinds =
          ap (λ (a : View). a.kind)
          (some-injective p.view v (sym (at-shows here) ∙ (E.steady.shows y ∙ h)))

      leaf : pick k (kids e p.view) ≡ none → (b : Bool) → eqb p.view.kind leaf_kind ≡ b → p.view.kind ≡ leaf_kind
      leaf q true b = eqb-true p.view.kind leaf_kind b
      leaf q false b =
          let z = node-range y in
          let d = kid-some s.n r.table e p.view (at-shows here) (eqb-false p.view.kind leaf_kind b) k z.0 z.1 in
          absurd (none-ne-some d.0 (sym q ∙ d.1))

      Rest : Type 0
      Rest = (above : List Step) (t : List ℕ) (e : Place) (v : View) → Safe s t S Been → From s.n t k above e
          → show s.n t e ≡ some v → v.kind ≤ level → Descends s t S Been k (descend level s.n s.c k above t e)

      below : Rest → (e' : Place) → pick k (kids e p.view) ≡ some e'
          → Descends s r.table S Been k (descend level s.n s.c k (step ∷ above) r.table e')
      below rest e' q =
          let z : Node s.n r.table k e' = node-below p.view e' here.node (at-shows here) q in
          let u = (working-good E.safe.inv).whole z in
          rest (step ∷ above) r.table e' u.view E.safe
          (here, from-steady k above e E.steady f, q) u.shows
          (omega (arith, l, kinds, kid-kind s.n r.table e p.view (at-shows here) k e' q u.view u.shows))

      go : (o : Option Place) → pick k (kids e p.view) ≡ o → Rest
          → Descends s t S Been k (descend (suc level) s.n s.c k above t e)
      go none q rest =
          rw (descend, E.given, q)
          (record {
            last = step;
            above = above;
            given = refl;
            safe = E.safe;
            steady = E.steady;
            path = (here, from-steady k above e E.steady f);
            leaf = leaf q (eqb p.view.kind leaf_kind) refl;
          })
      go (some e') q rest = rw (descend, E.given, q) (descends_then E.steady (below rest e' q))

  pub way_descends : (W : List ℕ) → Safe s W S Been → Descends s W S Been k (way_of s.n s.c k W)
  unfolding way_of
  way_descends W x =
      let u = (working-good x.inv).whole (node-root s.n W k bound) in
      descends top_kind [] W (root_place W) u.view x refl u.shows (shown-kind s.n W (root_place W) u.view u.shows).1

  -- what the leaf holds of k is what the table tells of it
  pub way-tells : {W : List ℕ} {r : Way} (d : Descends s W S Been k r) → Tells s.n r.table k (find k (certs_at (d.last ∷ d.above)))
  unfolding certs_at
  way-tells d = record {
    place = d.last.place;
    view = d.last.page.view;
    node = d.path.0.node;
    shows = at-shows d.path.0;
    leaf = d.leaf;
    finds = refl;
  }
