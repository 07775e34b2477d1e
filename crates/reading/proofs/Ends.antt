-- The way of a key, in any table whose tree passes opening's tests: no damage is met, and the leaf at its end finds of the key what
-- the tree's certificates have.
use Prim.Native.Nat.{ℕ, zero, suc, ◌≤◌}
use native.Mathlib.Omega.{arith}
use mathlib.Core.Path.{◌≡◌, refl, sym, ap, ◌∙◌}
use mathlib.Core.Bool.{Bool, true, false}
use mathlib.Core.List.{List, [], ◌∷◌}
use mathlib.Core.Option.{Option, some, none, none-ne-some}
use Rattle.rules.specs.Layout.{top_kind, last_key}
use Rattle.rules.specs.Entry.{find}
use Rattle.rules.specs.Page.{View, is_leaf}
use Rattle.rules.specs.Place.{root_place, kids, pick, show}
use Rattle.rules.specs.Enter.{enter}
use Rattle.rules.specs.Walk.{Step, Way, numbers, certs_at, descend, way_of}
use Rattle.rules.specs.Tree.{tree, tree_of}
use Rattle.rules.specs.declared.Place.{Place}
use Rattle.rules.proofs.Entries.Views.{inner-kind}
use Rattle.rules.proofs.Demand3.Ways.Ways.{Node}
use Rattle.rules.proofs.Demand3.Ways.Kids.{shown-kind, kid-some}
use Rattle.rules.proofs.Demand3.Ways.Nodes.{node-root, node-range, node-below, kid-kind}
use Rattle.rules.proofs.Demand3.Reads.Enters.{AllHigher, none_higher, more_higher}
use Rattle.reading.proofs.Soundly.{Passing, Shows, shows_itself, Seen, enter-seen}
use Rattle.rules.proofs.Demand3.Reads.TreeCerts.{leaf-certs, finds-below}
use Rattle.reading.proofs.Gathers.{apart}

-- what is handed out finds o of the key
pub record Finding (n c : ℕ) (t : List ℕ) (k : ℕ) (o : Option ℕ) (r : Way) : Type 0 where
  pub steps : List Step
  pub given : r.steps ≡ some steps
  pub finds : find k (certs_at steps) ≡ o
  pub left : Shows n c t r.table

module _ {n c : ℕ} {t : List ℕ} (p : Passing n c t) (k : ℕ) where
  abbrev Descends : ℕ → List Step → List ℕ → Place → Type 0
  Descends level above u e = Finding n c t k (find k (tree level n t e).certs) (descend level n c k above u e)

  descends : (level : ℕ) (above : List Step) (u : List ℕ) (e : Place) (v : View) → Shows n c t u → Node n t k e → show n t e ≡ some v
      → v.kind ≤ level → AllHigher n t v.kind (numbers above) → Descends level above u e
  unfolding descend numbers certs_at
  descends zero above u e v h x s l a = absurd (omega (arith, (shown-kind n t e v s).0))
  descends (suc level) above u e v h x s l a = go (pick k (kids e v)) refl (descends level)
    where
      E : Seen n c t v (enter n c (numbers above) u e)
      E = enter-seen v (numbers above) h x s (apart p (record { low = 0; high = 0; room = 0 }) x s (numbers above) a)

      Rest : Type 0
      Rest = (above : List Step) (u : List ℕ) (d : Place) (y : View) → Shows n c t u → Node n t k d → show n t d ≡ some y
          → y.kind ≤ level → AllHigher n t y.kind (numbers above) → Descends level above u d

      leaf : pick k (kids e v) ≡ none → is_leaf v ≡ true
      leaf q = at (is_leaf v) refl
        where
          at : (b : Bool) → is_leaf v ≡ b → is_leaf v ≡ true
          at true f = f
          at false f =
              let r = node-range x in
              let d = kid-some n t e v s (inner-kind v f) k r.0 r.1 in
              absurd (none-ne-some d.0 (sym q ∙ d.1))

      pick-now : pick k (kids e E.page.view) ≡ pick k (kids e v)
      pick-now = ap (λ (y : View). pick k (kids e y)) E.view

      go : (o : Option Place) → pick k (kids e v) ≡ o → Rest → Descends (suc level) above u e
      go none q rest =
          rw (descend, E.given, pick-now ∙ q)
          (record {
            steps = record { place = e; page = E.page } ∷ above;
            given = refl;
            finds = ap (λ (y : View). find k y.certs) E.view
                ∙ ap (find k) (sym (leaf-certs p.good level k e v x s l (leaf q)));
            left = E.left;
          })
      go (some d) q rest =
          let y : Node n t k d = node-below v d x s q in
          let w = p.good.whole y in
          let z = kid-kind n t e v s k d q w.view w.shows in
          let r = rest (record { place = e; page = E.page } ∷ above) (enter n c (numbers above) u e).table d w.view E.left y w.shows
          (omega (arith, z)) (more_higher (numbers above) v w.view.kind x s (omega (arith, z)) a) in
          rw (descend, E.given, pick-now ∙ q)
          (record {
            steps = r.steps;
            given = r.given;
            finds = r.finds ∙ sym (finds-below p.good level k e v x s l d q);
            left = r.left;
          })

  pub way_finds : k ≤ last_key → Finding n c t k (find k (tree_of n t).certs) (way_of n c k t)
  unfolding way_of tree_of numbers
  way_finds h =
      let x = node-root n t k h in
      let w = p.good.whole x in
      descends top_kind [] t (root_place t) w.view (shows_itself p) x w.shows (shown-kind n t (root_place t) w.view w.shows).1
      (none_higher n t w.view.kind)
