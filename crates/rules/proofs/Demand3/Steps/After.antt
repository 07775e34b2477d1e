-- What the ways are like after a split: the same is told of every key, and below the half that holds a key its way goes on
-- as it did below the split page.
use Rattle.std.proofs.Common.{◌≡◌, ℕ, Bool, true, false, eqb, ◌≢◌, List, sym, refl, ap, ◌∙◌, subst, eqb-true}
use mathlib.Core.Option.{Option, some, some-injective}
use borrow.Author.Tests.{eqb-false}
use Rattle.rules.specs.Layout.{leaf_kind}
use Rattle.rules.specs.Entry.{find}
use Rattle.rules.specs.Page.{View}
use Rattle.rules.specs.Table.{read}
use Rattle.rules.specs.Place.{kids, pick, cut_view, show}
use Rattle.rules.specs.declared.Place.{Place}
use Rattle.rules.proofs.Demand3.Ways.Ways.{Node, Tells}
use Rattle.rules.proofs.Demand3.Ways.Invariant.{States, Inv}
use Rattle.rules.proofs.Demand3.Ways.Sources.{show-found, cut_view-kind, find-cut_view}
use Rattle.rules.proofs.Demand3.Ways.Nodes.{node-page}
use Rattle.rules.proofs.Demand3.Steps.Touch.{under_some}
use Rattle.rules.proofs.Demand3.Steps.Sides.{side, Cleft, half_leads, side_half, cleft_shows}
use Rattle.rules.proofs.Demand3.Steps.Cleft.{Goes}

module _ {n : ℕ} {S W W' : List ℕ} {c : ℕ} {Been : States} {P L U : Place} {top : ℕ}
    (I : Inv n S W c Been) (C : Cleft n S W W' c P L U top) (G : Goes n S W W' P L U top) where
  -- the leaf that tells of k is P, whose half tells the same, or another one
  pub split-tells : ((k : ℕ) (e : Place) (v : View) → Node n W k e → show n W e ≡ some v → v.kind ≡ leaf_kind → e.child ≢ top)
      → (k : ℕ) (s : Option ℕ) → Tells n W k s → Tells n W' k s
  split-tells tall k s t = go (eqb e.child P.child) refl
    where
      e : Place
      e = t.place

      other : e.child ≢ P.child → Tells n W' k s
      other d =
          record {
            place = e;
            view = t.view;
            node = G.kept t.node d;
            shows = cleft_shows I C t.node (tall k e t.view t.node t.shows t.leaf) ∙ t.shows;
            leaf = t.leaf;
            finds = t.finds;
          }

      here : e ≡ P → Tells n W' k s
      here q =
          let x : Node n W k P = subst (Node n W k) q t.node in
          let h = side_half I C k x in
          let i = side L U k in
          let v = (read W P.child).view in
          let views : t.view ≡ v =
          some-injective t.view v (sym t.shows ∙ (ap (show n W) q ∙ show-found n W P C.found)) in
          record {
            place = i;
            view = cut_view i.low i.high v;
            node = G.halves x;
            shows = show-found n W' i h.0.found ∙ ap some h.0.view;
            leaf = cut_view-kind i.low i.high v ∙ (sym (ap (λ (a : View). a.kind) views) ∙ t.leaf);
            finds = find-cut_view i.low i.high k v h.1 h.2 ∙ (sym (ap (λ (a : View). find k a.certs) views) ∙ t.finds);
          }

      go : (b : Bool) → eqb e.child P.child ≡ b → Tells n W' k s
      go true q = here (I.once t.node C.node (eqb-true e.child P.child q))
      go false q = other (eqb-false e.child P.child q)

  -- below the half the way of k goes on
  pub side-leads : (k : ℕ) → Node n W k P
      → pick k (kids (side L U k) (read W' (side L U k).child).view) ≡ pick k (kids P (read W P.child).view)
  side-leads k x =
      let h = side_half I C k x in
      let i = side L U k in
      sym (under_some k i (read W' i.child).view (show n W' i) (show-found n W' i h.0.found))
      ∙ (half_leads I C k i h.0 h.1 h.2
      ∙ under_some k P (read W P.child).view (show n W P) (show-found n W P C.found))

  pub side-kind : (k : ℕ) → Node n W k P → (read W' (side L U k).child).view.kind ≡ (read W P.child).view.kind
  side-kind k x =
      let h = side_half I C k x in
      let i = side L U k in
      ap (λ (v : View). v.kind) h.0.view ∙ cut_view-kind i.low i.high (read W P.child).view

  -- the page of a node other than the one above reads as before
  pub node-reads : {k : ℕ} {e : Place} → Node n W k e → e.child ≢ top → read W' e.child ≡ read W e.child
  node-reads {k} {e} x d =
      C.others e.child (node-page I.rooted x).0 (C.free_lower.no_new x) (C.free_upper.no_new x) d
