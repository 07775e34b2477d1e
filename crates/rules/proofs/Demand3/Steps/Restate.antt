-- A leaf is written where it stands so that it says another state of one key, and of every other key what it said: the store
-- stays safe, the key has had one state more, and that is what is told of it; of every other key the same is told as before.
use Rattle.std.proofs.Common.{◌≡◌, ℕ, ◌≤◌, Bool, true, false, eqb, ◌≢◌, ◌⊎◌, List, sym, refl, ap, ◌∙◌, subst, inl, inr, eqb-true}
use mathlib.Core.Bool.{false≢true}
use mathlib.Core.Option.{Option, some, some-injective}
use borrow.Author.Tests.{eqb-false}
use Rattle.rules.specs.Layout.{leaf_kind}
use Rattle.rules.specs.Entry.{find}
use Rattle.rules.specs.Page.{View, Page}
use Rattle.rules.specs.Table.{read}
use Rattle.rules.specs.Place.{show}
use Rattle.rules.specs.declared.Place.{Place}
use Rattle.rules.specs.declared.Session.{Session}
use Rattle.rules.proofs.Entries.Places.{Fits}
use Rattle.rules.proofs.Demand3.Ways.Sources.{show-found}
use Rattle.rules.proofs.Demand3.Ways.Ways.{Node, Found, Tells}
use Rattle.rules.proofs.Demand3.Ways.Invariant.{States, Inv}
use Rattle.rules.proofs.Demand3.Ways.Nodes.{node-same}
use Rattle.rules.proofs.Demand3.Mix.Live.{live_told}
use Rattle.rules.proofs.Demand3.Epochs.Epochs.{widen, all_written}
use Rattle.rules.proofs.Demand3.Steps.Touch.{Touched, which, touch-after, shows-here, shows-other, touch-inv, touch-marks}
use Rattle.rules.proofs.Demand3.Steps.Writes.{Writes}
use Rattle.rules.proofs.Demand3.Steps.Keeps.{Keeps}

-- a key has had one state more
abbrev pub Also : States → ℕ → Option ℕ → States
Also Been k state = λ j s. Been j s ⊎ ((j ≡ k) × (s ≡ state))

-- page is written at w, a leaf on k's way
pub record Restates (n c : ℕ) (W W' : List ℕ) (k : ℕ) (state : Option ℕ) (w : Place) (page : Page) : Type 0 where
  pub node : Node n W k w
  pub found : Found n W w
  pub was_leaf : (read W w.child).view.kind ≡ leaf_kind
  pub written : Writes n W W' w.child page
  pub fits : Fits n w page
  pub touched : page.touched ≡ c
  pub built : page.built ≡ (read W w.child).built
  pub leaf : page.view.kind ≡ leaf_kind
  pub own : find k page.view.certs ≡ state
  pub others : (j : ℕ) → j ≢ k → find j page.view.certs ≡ find j (read W w.child).view.certs

module _ {n c : ℕ} {s : Session} {W S W' : List ℕ} {Been : States} {k : ℕ} {state : Option ℕ} {w : Place} {page : Page}
    (K : Keeps n c s W S Been) (R : Restates n c W W' k state w page) where
  abbrev view : View
  view = (read W w.child).view

  shows_w : show n W w ≡ some view
  shows_w = show-found n W w R.found

  -- what the leaf tells of each key of its range then
  told : (j : ℕ) → w.low ≤ j → j ≤ w.high → Also Been k state j (find j page.view.certs)
  told j a b = go (eqb j k) refl
    where
      go : (t : Bool) → eqb j k ≡ t → Also Been k state j (find j page.view.certs)
      go true q =
          let e = eqb-true j k q in
          inr (e, ap (λ (i : ℕ). find i page.view.certs) e ∙ R.own)
      go false q =
          inl (subst (Been j) (sym (R.others j (eqb-false j k q)))
          (live_told n S W W c Been K.inv (all_written n S W) (node-same j R.node a b) shows_w R.was_leaf))

  wider : Inv n S W c (Also Been k state)
  wider = widen n S W c Been (Also Been k state) (λ j a h. inl h) K.inv

  touched : Touched n W W' c (Also Been k state) w view page
  touched = record {
    key = k;
    node = R.node;
    shows = shows_w;
    here = R.written.here;
    others = R.written.others;
    root = R.written.root;
    fits = R.fits;
    touched = R.touched;
    kept = λ h. R.built;
    mended = λ h. absurd (false≢true (sym h ∙ R.found));
    kind = R.leaf ∙ sym R.was_leaf;
    inner = λ i. absurd (i R.was_leaf);
    told = λ h. told;
  }

  pub restate_keeps : Keeps n c s W' S (Also Been k state)
  restate_keeps = record {
    pages = K.pages;
    counter = K.counter;
    sized = K.sized;
    few = K.few;
    most = K.most;
    small = K.small;
    working = R.written.whole;
    stable = K.stable;
    number_working = R.written.number ∙ K.number_working;
    number_stable = K.number_stable;
    inv = touch-inv wider touched;
    paged = K.paged;
    marks = touch-marks wider touched K.marks;
  }

  -- the key's own state
  pub restate_own : Tells n W' k state
  restate_own = record {
    place = w;
    view = page.view;
    node = touch-after wider touched R.node;
    shows = shows-here wider touched;
    leaf = R.leaf;
    finds = R.own;
  }

  pub restate_other : (j : ℕ) (a : Option ℕ) → j ≢ k → Tells n W j a → Tells n W' j a
  restate_other j a d t = go (which wider touched t.node)
    where
      go : (t.place ≡ w) ⊎ (t.place.child ≢ w.child) → Tells n W' j a
      go (inl q) =
          let views : t.view ≡ view = some-injective t.view view (sym t.shows ∙ (ap (show n W) q ∙ shows_w)) in
          record {
            place = w;
            view = page.view;
            node = touch-after wider touched (subst (Node n W j) q t.node);
            shows = shows-here wider touched;
            leaf = R.leaf;
            finds = R.others j d ∙ (sym (ap (λ (v : View). find j v.certs) views) ∙ t.finds);
          }
      go (inr q) =
          record {
            place = t.place;
            view = t.view;
            node = touch-after wider touched t.node;
            shows = shows-other wider touched t.node q ∙ t.shows;
            leaf = t.leaf;
            finds = t.finds;
          }
