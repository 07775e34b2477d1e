-- Every place that a mix asks for is a node of S or a new node of W, and shows something that leads on to such places.
use Rattle.std.proofs.Common.{◌≡◌, ℕ, zero, suc, Bool, true, false, eqb, ◌⊎◌, List, [], ◌∷◌, sym, refl, ap, ◌∙◌, subst, inl, inr, eqb-true}
use mathlib.Core.Option.{some, some-injective}
use borrow.Author.Tests.{eqb-false}
use Rattle.rules.specs.Layout.{leaf_kind}
use Rattle.rules.specs.Entry.{find}
use Rattle.rules.specs.Page.{View, Page}
use Rattle.rules.specs.Table.{read}
use Rattle.rules.specs.Place.{root_place, kids, pick, show}
use Rattle.rules.specs.declared.Place.{Place}
use Rattle.rules.proofs.Demand3.Ways.Ways.{at, Node, Found}
use Rattle.rules.proofs.Demand3.Ways.Invariant.{States, Changed, New, Inv}
use Rattle.rules.proofs.Demand3.Ways.Sources.{show-found}
use Rattle.rules.proofs.Demand3.Ways.Kids.{none_picked, leaf_kids}
use Rattle.rules.proofs.Demand3.Ways.Nodes.{above, node-below}
use Rattle.rules.proofs.Demand3.Mix.Mix.{Mixed, found_as, Upon, unchanged, replaced, upon, show-unchanged, Anew, there, missing, anew}
use Rattle.rules.proofs.Demand3.Mix.Backed.{stead, show_stead, stead_below, stead_told}

module _ (n : ℕ) (S W M : List ℕ) (c : ℕ) (Been : States) (I : Inv n S W c Been) (X : Mixed n S W M) where
  pub data Live (k : ℕ) (e : Place) : Type 0 where
    stable : Node n S k e → Live k e
    new : Node n W k e → New n S W c Been k e → Live k e

  live_now : (k : ℕ) (e : Place) → Node n W k e → Live k e
  live_now k e x = go (I.node x)
    where
      go : Node n S k e ⊎ New n S W c Been k e → Live k e
      go (inl o) = stable o
      go (inr y) = new x y

  -- what M shows at a place, where it leads, and what it says of k
  pub record Seen (k : ℕ) (e : Place) : Type 0 where
    pub view : View
    pub shows : show n M e ≡ some view
    pub below : (d : Place) → pick k (kids e view) ≡ some d → Live k d
    pub told : view.kind ≡ leaf_kind → Been k (find k view.certs)

  -- a place whose page is W's and fits
  show-now : (e : Place) → read M e.child ≡ read W e.child → Found n W e → show n M e ≡ some (read W e.child).view
  show-now e h f = show-found n M e (found_as n W M e h f) ∙ ap some (ap (λ (p : Page). p.view) h)

  seen-stable : (k : ℕ) (o : Place) → Node n S k o → Seen k o
  seen-stable k o x = go (upon n S W M c Been I X k o v x s)
    where
      v : View
      v = (I.good.whole x).view

      s : show n S o ≡ some v
      s = (I.good.whole x).shows

      on : read M o.child ≡ read W o.child → (z : Changed n S W c Been k o v) → (b : Bool) → eqb v.kind leaf_kind ≡ b
          → (d : Place) → pick k (kids o (read W o.child).view) ≡ some d → Live k d
      on h z true e d p =
          absurd
          (none_picked k o d (read W o.child).view
          (leaf_kids n M o (read W o.child).view (show-now o h z.found) (z.kind ∙ eqb-true v.kind leaf_kind e)) p)
      on h z false e d p =
          live_now k d
          (node-below (read W o.child).view d (z.still (eqb-false v.kind leaf_kind e)) (show-found n W o z.found) p)

      go : Upon n S W M c Been I X k o v → Seen k o
      go (unchanged h) =
          record {
            view = v;
            shows = show-unchanged n S W M c Been I X k o v x s h;
            below = λ d p. stable (node-below v d x s p);
            told = I.told x s;
          }
      go (replaced h z) =
          record {
            view = (read W o.child).view;
            shows = show-now o h z.found;
            below = on h z (eqb v.kind leaf_kind) refl;
            told = λ l. z.told (sym z.kind ∙ l);
          }

  seen-new : (k : ℕ) (w : Place) → Node n W k w → New n S W c Been k w → Seen k w
  seen-new k w x y = go (anew n S W M c Been I X k w x y)
    where
      go : Anew n S W M c Been I X w → Seen k w
      go (there h) =
          record {
            view = (read W w.child).view;
            shows = show-now w h y.found;
            below = λ d p. live_now k d (node-below (read W w.child).view d x (show-found n W w y.found) p);
            told = y.told;
          }
      go (missing f) =
          record {
            view = stead n S W M c Been I X k w y;
            shows = show_stead n S W M c Been I X k w y f;
            below = λ d p. stable (stead_below n S W M c Been I X k w y x f d p);
            told = stead_told n S W M c Been I X k w y x;
          }

  pub seen : (k : ℕ) (e : Place) → Live k e → Seen k e
  seen k e (stable x) = seen-stable k e x
  seen k e (new x y) = seen-new k e x y

  live_root : (k : ℕ) (e : Place) → at n M k 0 ≡ some e → Live k e
  unfolding at
  live_root k e h = go X.root
    where
      go : (root_place M ≡ root_place S) ⊎ (root_place M ≡ root_place W) → Live k e
      go (inl r) = stable (record { depth = 0; here = sym (ap (λ (p : Place). pick k (p ∷ [])) r) ∙ h })
      go (inr r) = live_now k e (record { depth = 0; here = sym (ap (λ (p : Place). pick k (p ∷ [])) r) ∙ h })

  live_at : (k i : ℕ) (e : Place) → at n M k i ≡ some e → Live k e
  live_at k zero e h = live_root k e h
  live_at k (suc i) e h =
      let a = above n M k i e h in
      let u = seen k a.parent (live_at k i a.parent a.stands) in
      let views : a.view ≡ u.view = some-injective a.view u.view (sym a.shows ∙ u.shows) in
      u.below e (sym (ap (λ (v : View). pick k (kids a.parent v)) views) ∙ a.picks)

  pub live : {k : ℕ} {e : Place} → Node n M k e → Live k e
  live {k} {e} x = live_at k x.depth e x.here

  -- what M shows at a node says of each key a state that it has had
  pub live_told : {k : ℕ} {e : Place} {v : View} → Node n M k e → show n M e ≡ some v → v.kind ≡ leaf_kind → Been k (find k v.certs)
  live_told {k} {e} {v} x s l =
      let u = seen k e (live x) in
      let views : u.view ≡ v = some-injective u.view v (sym u.shows ∙ s) in
      subst (λ (a : View). Been k (find k a.certs)) views (u.told (ap (λ (a : View). a.kind) views ∙ l))
