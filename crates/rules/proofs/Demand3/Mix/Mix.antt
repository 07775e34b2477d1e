-- A mix: each page is S's or W's, page 0 too. What a mix shows at a node of S, and at a new node of W.
use Rattle.std.proofs.Common.{◌≡◌, ℕ, ◌<◌, ◌≤◌, Bool, true, false, ◌⊎◌, List, sym, refl, ap, ◌∙◌, subst, inl, inr, arith}
use mathlib.Core.Bool.{false≢true}
use mathlib.Core.Option.{some}
use Rattle.rules.specs.Page.{View, Page}
use Rattle.rules.specs.Table.{read}
use Rattle.rules.specs.Place.{root_place, fits, cut_view, show}
use Rattle.rules.specs.declared.Place.{Place}
use Rattle.rules.proofs.Demand3.Ways.Ways.{Node, Found, Lost}
use Rattle.rules.proofs.Demand3.Ways.Invariant.{States, Changed, Old, same, changed, New, Inv}
use Rattle.rules.proofs.Entries.Places.{fits_true, fits-of, Mendable, Shown, fitting, lost, show-lost, show-some, shows}
use Rattle.rules.proofs.Demand3.Ways.Sources.{show-found}
use Rattle.rules.proofs.Demand3.Ways.Nodes.{node-page}

pub record Mixed (n : ℕ) (S W M : List ℕ) : Type 0 where
  pub pages : (i : ℕ) → 1 ≤ i → i < n → (read M i ≡ read S i) ⊎ (read M i ≡ read W i)
  pub root : (root_place M ≡ root_place S) ⊎ (root_place M ≡ root_place W)

-- ── What depends on which page ──────────────────────────────────────────────────────────────────────────────────

pub found_as : (n : ℕ) (t u : List ℕ) (e : Place) → read u e.child ≡ read t e.child → Found n t e → Found n u e
found_as n t u e h f = ap (fits n e) h ∙ f

pub lost_as : (n : ℕ) (t u : List ℕ) (e : Place) → read u e.child ≡ read t e.child → Lost n t e → Lost n u e
lost_as n t u e h f = ap (fits n e) h ∙ f

-- a table that reads as another at a place's child, and at its previous page if it is lost, shows the same there
pub show_as : (n : ℕ) (t u : List ℕ) (e : Place) (v : View) → show n t e ≡ some v → read u e.child ≡ read t e.child
    → (Lost n t e → read u e.previous ≡ read t e.previous) → show n u e ≡ some v
show_as n t u e v s h f = go (show-some n t e v s)
  where
    go : Shown n t e v → show n u e ≡ some v
    go (fitting x q) = shows n u e (read t e.child) h x ∙ ap some (sym q)
    go (lost x m q) =
        show-lost n u e (lost_as n t u e h x) (subst (Mendable n e) (sym (f x)) m)
        ∙ ap some (ap (λ (p : Page). cut_view e.low e.high p.view) (f x) ∙ sym q)

-- ── A mix of S and W ────────────────────────────────────────────────────────────────────────────────────────────

module _ (n : ℕ) (S W M : List ℕ) (c : ℕ) (Been : States) (I : Inv n S W c Been) (X : Mixed n S W M) where
  -- a node of S is read as in S, or as it was changed in W
  pub data Upon (k : ℕ) (o : Place) (v : View) : Type 0 where
    unchanged : read M o.child ≡ read S o.child → Upon k o v
    replaced : read M o.child ≡ read W o.child → Changed n S W c Been k o v → Upon k o v

  pub upon : (k : ℕ) (o : Place) (v : View) → Node n S k o → show n S o ≡ some v → Upon k o v
  upon k o v x s =
      let p = node-page I.good.rooted x in
      go (X.pages o.child p.0 p.1) (I.old x s)
    where
      go : (read M o.child ≡ read S o.child) ⊎ (read M o.child ≡ read W o.child) → Old n S W c Been k o v → Upon k o v
      go (inl a) y = unchanged a
      go (inr b) (same y) = unchanged (b ∙ y)
      go (inr b) (changed y) = replaced b y

  -- the page that a lost node of S is shown from is in M as in S
  pub spared-here : (k : ℕ) (o : Place) (v : View) → Node n S k o → show n S o ≡ some v → Lost n S o
      → read M o.previous ≡ read S o.previous
  spared-here k o v x s l = go (show-some n S o v s)
    where
      both : (read M o.previous ≡ read S o.previous) ⊎ (read M o.previous ≡ read W o.previous)
          → read M o.previous ≡ read S o.previous
      both (inl a) = a
      both (inr b) = b ∙ I.spared x l

      go : Shown n S o v → read M o.previous ≡ read S o.previous
      go (fitting f q) = absurd (false≢true (sym l ∙ fits-of n o (read S o.child) f))
      go (lost f m q) = both (X.pages o.previous m.from m.below)

  pub show-unchanged : (k : ℕ) (o : Place) (v : View) → Node n S k o → show n S o ≡ some v → read M o.child ≡ read S o.child
      → show n M o ≡ some v
  show-unchanged k o v x s h = show_as n S M o v s h (spared-here k o v x s)

  -- M shows at a node of S what has the kind that S shows there
  pub record Kindred (o : Place) (v : View) : Type 0 where
    pub view : View
    pub shows : show n M o ≡ some view
    pub kind : view.kind ≡ v.kind

  pub kindred : (k : ℕ) (o : Place) (v : View) → Node n S k o → show n S o ≡ some v → Kindred o v
  kindred k o v x s = go (upon k o v x s)
    where
      go : Upon k o v → Kindred o v
      go (unchanged h) = record { view = v; shows = show-unchanged k o v x s h; kind = refl }
      go (replaced h y) =
          record {
            view = (read M o.child).view;
            shows = show-found n M o (found_as n W M o h y.found);
            kind = ap (λ (p : Page). p.view.kind) h ∙ y.kind;
          }

  -- a new node of W is read as in W, or lost
  pub data Anew (w : Place) : Type 0 where
    there : read M w.child ≡ read W w.child → Anew w
    missing : Lost n M w → Anew w

  pub anew : (k : ℕ) (w : Place) → Node n W k w → New n S W c Been k w → Anew w
  anew k w x y =
      let p = node-page I.rooted x in
      go (X.pages w.child p.0 p.1) (I.births w.child p.0 p.1)
    where
      out : (b : Bool) → fits n w (read M w.child) ≡ b → read M w.child ≡ read S w.child → (read S w.child).birth < c → Lost n M w
      out true f a h =
          absurd (omega (arith, h, (fits_true n w (read M w.child) f).birth, ap (λ (p : Page). p.birth) a, y.born))
      out false f a h = f

      go : (read M w.child ≡ read S w.child) ⊎ (read M w.child ≡ read W w.child) → (read S w.child).birth < c → Anew w
      go (inl a) h = missing (out (fits n w (read M w.child)) refl a h)
      go (inr b) h = there b
