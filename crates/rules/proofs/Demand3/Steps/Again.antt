-- What the invariant says of one node, said again of another working table: where the node's page reads as before, and
-- where it was written. Each step of a call uses these for the nodes that it does not make.
use Rattle.std.proofs.Common.{◌≡◌, ℕ, ◌≢◌, List, sym, ap, ◌∙◌, subst}
use Rattle.rules.specs.Layout.{leaf_kind}
use Rattle.rules.specs.Entry.{find}
use Rattle.rules.specs.Page.{View, Page}
use Rattle.rules.specs.Table.{read}
use Rattle.rules.specs.declared.Place.{Place}
use Rattle.rules.proofs.Demand3.Ways.Ways.{Node, Found}
use Rattle.rules.proofs.Demand3.Ways.Invariant.{States, Changed, Old, same, changed, Asks, level, root, New}
use Rattle.rules.proofs.Demand3.Mix.Mix.{found_as}

module _ {n : ℕ} {S W : List ℕ} {c : ℕ} {Been : States} {k : ℕ} (W' : List ℕ) where
  -- a stable node's page reads as before, and if it was changed and is inner, it is still in the tree
  pub old-again : {o : Place} {v : View} → read W' o.child ≡ read W o.child
      → (Changed n S W c Been k o v → v.kind ≢ leaf_kind → Node n W' k o) → Old n S W c Been k o v → Old n S W' c Been k o v
  old-again p f (same h) = same (p ∙ h)
  old-again {o} p f (changed y) =
      changed (record {
        found = found_as n W W' o p y.found;
        kept = λ g. ap (λ (x : Page). x.built) p ∙ y.kept g;
        mended = λ g. ap (λ (x : Page). x.built) p ∙ y.mended g;
        touched = ap (λ (x : Page). x.touched) p ∙ y.touched;
        kind = ap (λ (x : Page). x.view.kind) p ∙ y.kind;
        told = λ l. subst (λ (x : Page). Been k (find k x.view.certs)) (sym p) (y.told l);
        still = f y;
      })

  module _ {e : Place} (y : New n S W c Been k e) (gone : (j : ℕ) (d : Place) → Node n W' j d → d.child ≢ y.shade.child) where
    -- a new node's page was written
    pub new-written : Found n W' e → (read W' e.child).built ≡ c → (read W' e.child).touched ≡ c
        → (read W' e.child).view.kind ≡ (read W e.child).view.kind
        → ((read W' e.child).view.kind ≡ leaf_kind → Been k (find k (read W' e.child).view.certs))
        → New n S W' c Been k e
    new-written f b t h told =
        record {
          born = y.born;
          found = f;
          built = b;
          touched = t;
          no_child = y.no_child;
          no_previous = y.no_previous;
          shade = y.shade;
          seen = y.seen;
          stands = y.stands;
          shows = y.shows;
          lows = y.lows;
          highs = y.highs;
          gone = λ {j} {e = d} x. gone j d x;
          before = y.before;
          asks = asks y.asks;
          cut_low = y.cut_low;
          cut_high = y.cut_high;
          told = told;
        }
      where
        asks : Asks W e y.shade y.seen → Asks W' e y.shade y.seen
        asks (level a) = level a
        asks (root a z u) = root a z (h ∙ u)

    -- it reads as before
    pub new-again : read W' e.child ≡ read W e.child → New n S W' c Been k e
    new-again p =
        new-written (found_as n W W' e p y.found)
        (ap (λ (x : Page). x.built) p ∙ y.built)
        (ap (λ (x : Page). x.touched) p ∙ y.touched)
        (ap (λ (x : Page). x.view.kind) p)
        (λ l. subst (λ (x : Page). Been k (find k x.view.certs)) (sym p)
        (y.told (sym (ap (λ (x : Page). x.view.kind) p) ∙ l)))
