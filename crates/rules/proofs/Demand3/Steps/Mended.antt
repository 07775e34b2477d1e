-- A lost page on a way is mended: the store stays safe and shows at every place what it showed.
use Rattle.std.proofs.Common.{◌≡◌, ℕ, zero, suc, ◌≤◌, Bool, true, false, ◌≢◌, ◌⊎◌, List, sym, refl, ap, ◌∙◌, subst, inl, inr, arith}
use mathlib.Core.Bool.{false≢true}
use mathlib.Core.Option.{Option, some}
use Rattle.rules.specs.Layout.{last_key}
use Rattle.rules.specs.Test.{mem}
use Rattle.rules.specs.Page.{Page, fresh}
use Rattle.rules.specs.Table.{page_at, read, build}
use Rattle.rules.specs.Place.{root_place, fits, mended, cut_view, show}
use Rattle.rules.specs.Enter.{Entered, mend, enter}
use Rattle.rules.specs.declared.Place.{Place}
use Rattle.rules.specs.declared.Session.{Session}
use Rattle.rules.proofs.Bytes.Pages.{Wide}
use Rattle.rules.proofs.Bytes.Tables.{wide_read}
use Rattle.rules.proofs.Bytes.Widths.{wide-mended}
use Rattle.rules.proofs.Entries.Places.{Fits, Mendable, mendable-of, mended-fits, Shown, fitting, lost, show-some, show-lost, fits-of}
use Rattle.rules.proofs.Demand3.Ways.Ways.{at, Node, Found, Lost, Undamaged, Tells}
use Rattle.rules.proofs.Demand3.Ways.Invariant.{States, New, Inv}
use Rattle.rules.proofs.Demand3.Ways.Kids.{kid-within}
use Rattle.rules.proofs.Demand3.Ways.Nodes.{above, at_root_lem, node-page, node-range, node-same}
use Rattle.rules.proofs.Demand3.Mix.Live.{live_told}
use Rattle.rules.proofs.Demand3.Epochs.Epochs.{all_written, working-good}
use Rattle.rules.proofs.Demand3.Epochs.Store.{Safe}
use Rattle.rules.proofs.Demand3.Steps.Touch.{Touched, which, touch-ways, shows-here, shows-other, found_here, touch-inv, touch-marks}
use Rattle.rules.proofs.Demand3.Steps.Writes.{room_of, Writes, build_writes}

-- ── A table that shows the same ─────────────────────────────────────────────────────────────────────────────────

-- u has t's ways, shows at each node what t shows, and reads as t where t's page fits
pub record Steady (n : ℕ) (t u : List ℕ) : Type 0 where
  pub ways : (k i : ℕ) → at n u k i ≡ at n t k i
  pub shows : {k : ℕ} {e : Place} → Node n t k e → show n u e ≡ show n t e
  pub stays : {k : ℕ} {e : Place} → Node n t k e → Found n t e → read u e.child ≡ read t e.child
  pub root : root_place u ≡ root_place t

pub steady-same : {n : ℕ} {t : List ℕ} → Steady n t t
steady-same = record { ways = λ k i. refl; shows = λ x. refl; stays = λ x f. refl; root = refl }

module _ {n : ℕ} {t u : List ℕ} (h : Steady n t u) where
  pub steady-node : {k : ℕ} {e : Place} → Node n t k e → Node n u k e
  steady-node {k} x = record { depth = x.depth; here = h.ways k x.depth ∙ x.here }

  pub steady-back : {k : ℕ} {e : Place} → Node n u k e → Node n t k e
  steady-back {k} x = record { depth = x.depth; here = sym (h.ways k x.depth) ∙ x.here }

  pub steady-found : {k : ℕ} {e : Place} → Node n t k e → Found n t e → Found n u e
  steady-found {k} {e} x f = ap (fits n e) (h.stays x f) ∙ f

  -- it tells the same of every key
  pub steady-tells : {k : ℕ} {s : Option ℕ} → Tells n t k s → Tells n u k s
  steady-tells x = record {
    place = x.place;
    view = x.view;
    node = steady-node x.node;
    shows = h.shows x.node ∙ x.shows;
    leaf = x.leaf;
    finds = x.finds;
  }

  pub steady-told : {k : ℕ} {s : Option ℕ} → Tells n u k s → Tells n t k s
  steady-told x =
      let y = steady-back x.node in
      record {
        place = x.place;
        view = x.view;
        node = y;
        shows = sym (h.shows y) ∙ x.shows;
        leaf = x.leaf;
        finds = x.finds;
      }

pub steady_then : {n : ℕ} {t u v : List ℕ} → Steady n t u → Steady n u v → Steady n t v
steady_then {n} g h = record {
  ways = λ k i. h.ways k i ∙ g.ways k i;
  shows = λ x. h.shows (steady-node g x) ∙ g.shows x;
  stays = λ x f. h.stays (steady-node g x) (steady-found g x f) ∙ g.stays x f;
  root = h.root ∙ g.root;
}

-- ── Nodes lie in the range of all keys, and are not younger than c ──────────────────────────────────────────────

pub node-last : {n : ℕ} {t : List ℕ} {k : ℕ} {e : Place} → Node n t k e → e.high ≤ last_key
unfolding root_place
node-last {n} {t} {k} {e} x = go e x.depth x.here
  where
    go : (e : Place) (i : ℕ) → at n t k i ≡ some e → e.high ≤ last_key
    go e zero h = subst (λ (p : Place). p.high ≤ last_key) (at_root_lem n t k e h) (omega arith)
    go e (suc i) h =
        let a = above n t k i e h in
        omega (arith, (kid-within n t a.parent a.view a.shows k e a.picks).1, go a.parent i a.stands)

pub tells-bound : {n : ℕ} {t : List ℕ} {k : ℕ} {o : Option ℕ} → Tells n t k o → k ≤ last_key
tells-bound x = omega (arith, (node-range x.node).1, node-last x.node)

pub node-birth : {n : ℕ} {S W : List ℕ} {c : ℕ} {Been : States} {k : ℕ} {e : Place} → Inv n S W c Been → Node n W k e → e.birth ≤ c
node-birth {n} {S} {W} {c} {Been} {k} {e} I x = go (I.node x)
  where
    go : Node n S k e ⊎ New n S W c Been k e → e.birth ≤ c
    go (inl o) = omega (arith, I.born o)
    go (inr y) = omega (arith, y.born)

-- ── One mend ────────────────────────────────────────────────────────────────────────────────────────────────────

module _ {s : Session} {W S : List ℕ} {Been : States} (x : Safe s W S Been) {k : ℕ} {e : Place}
    (y : Node s.n W k e) (l : Lost s.n W e) where
  shown : Undamaged s.n W e
  shown = (working-good x.inv).whole y

  can : Mendable s.n e (read W e.previous)
  can = go (show-some s.n W e shown.view shown.shows)
    where
      go : Shown s.n W e shown.view → Mendable s.n e (read W e.previous)
      go (fitting f q) = absurd (false≢true (sym l ∙ fits-of s.n e (read W e.child) f))
      go (lost f m q) = m

  abbrev page : Page
  page = mended s.c e (read W e.previous)

  abbrev mend-table : List ℕ
  mend-table = build W e.child page

  range : e.low ≤ e.high
  range = let r = node-range y in omega (arith, r.0, r.1)

  fit : Fits s.n e page
  fit = mended-fits s.c range can

  written : Writes s.n W mend-table e.child page
  written =
      let p = node-page x.inv.rooted y in
      let w : Wide page = wide-mended (omega (arith, x.small)) (wide_read W e.previous x.working.bytes) e
      (omega (arith, node-birth x.inv y, x.small)) (omega (arith, node-last y, range)) (omega (arith, node-last y))
      in
      build_writes x.working p.0 p.1 w (room_of w fit.sound)

  touched : Touched s.n W mend-table s.c Been e (cut_view e.low e.high (read W e.previous).view) page
  unfolding mended fresh
  touched = record {
    key = k;
    node = y;
    shows = shows;
    here = written.here;
    others = written.others;
    root = written.root;
    fits = fit;
    touched = refl;
    kept = λ f. absurd (false≢true (sym l ∙ f));
    mended = λ f. refl;
    kind = refl;
    inner = λ i. refl;
    told = λ a j p q. live_told s.n S W W s.c Been x.inv (all_written s.n S W) (node-same j y p q) shows a;
  }
    where
      shows : show s.n W e ≡ some (cut_view e.low e.high (read W e.previous).view)
      shows = show-lost s.n W e l can

  pub mend-safe : Safe s mend-table S Been
  mend-safe = record {
    sized = x.sized;
    few = x.few;
    most = x.most;
    small = x.small;
    working = written.whole;
    stable = x.stable;
    number_working = written.number ∙ x.number_working;
    number_stable = x.number_stable;
    inv = touch-inv x.inv touched;
    paged = x.paged;
    marks = touch-marks x.inv touched x.marks;
  }

  pub mend-steady : Steady s.n W mend-table
  unfolding mended fresh
  mend-steady = record {
    ways = touch-ways x.inv touched;
    shows = λ {k = j} {e = d} z. go j d z (which x.inv touched z);
    stays = λ {k = j} {e = d} z f. written.others d.child (other j d z f (which x.inv touched z));
    root = written.root;
  }
    where
      go : (j : ℕ) (d : Place) → Node s.n W j d → (d ≡ e) ⊎ (d.child ≢ e.child) → show s.n mend-table d ≡ show s.n W d
      go j d z (inl h) =
          subst (λ (a : Place). show s.n mend-table a ≡ show s.n W a) (sym h)
          (shows-here x.inv touched ∙ sym touched.shows)
      go j d z (inr h) = shows-other x.inv touched z h

      other : (j : ℕ) (d : Place) → Node s.n W j d → Found s.n W d → (d ≡ e) ⊎ (d.child ≢ e.child) → d.child ≢ e.child
      other j d z f (inl h) =
          absurd (false≢true (sym l ∙ subst (Found s.n W) h f))
      other j d z f (inr h) = h

  pub mend-found : Found s.n mend-table e
  mend-found = found_here x.inv touched

  pub mend-reads : read mend-table e.child ≡ page
  mend-reads = written.here

  pub mend-others : (i : ℕ) → i ≢ e.child → read mend-table i ≡ read W i
  mend-others = written.others

  pub mend-zero : page_at mend-table 0 ≡ page_at W 0
  mend-zero = written.zero

  pub mend-enters : mend s.n s.c W e ≡ record { table = mend-table; page = some page }
  unfolding mend
  mend-enters = rw (mendable-of s.n e (read W e.previous) can, mend)

-- ── Entering a node ─────────────────────────────────────────────────────────────────────────────────────────────

-- no node is damaged; its page is found, or mended; page 0 stays
pub record Enters (s : Session) (W S : List ℕ) (Been : States) (e : Place) (r : Entered) : Type 0 where
  pub page : Page
  pub given : r.page ≡ some page
  pub safe : Safe s r.table S Been
  pub steady : Steady s.n W r.table
  pub found : Found s.n r.table e
  pub reads : read r.table e.child ≡ page
  pub zero : page_at r.table 0 ≡ page_at W 0

pub enters-node : {s : Session} {W S : List ℕ} {Been : States} {k : ℕ} {e : Place} (above : List ℕ)
    → Safe s W S Been → Node s.n W k e → mem e.child above ≡ false → Enters s W S Been e (enter s.n s.c above W e)
unfolding enter
enters-node {s} {W} {S} {Been} {k} {e} above x y m = go (fits s.n e (read W e.child)) refl
  where
    here : Found s.n W e → Enters s W S Been e (record { table = W; page = some (read W e.child) })
    here f = record { page = read W e.child; given = refl; safe = x; steady = steady-same; found = f; reads = refl; zero = refl }

    gone : (l : Lost s.n W e) → Enters s W S Been e (record { table = mend-table x y l; page = some (mended s.c e (read W e.previous)) })
    gone l =
        record {
          page = mended s.c e (read W e.previous);
          given = refl;
          safe = mend-safe x y l;
          steady = mend-steady x y l;
          found = mend-found x y l;
          reads = mend-reads x y l;
          zero = mend-zero x y l;
        }

    go : (b : Bool) → fits s.n e (read W e.child) ≡ b → Enters s W S Been e (enter s.n s.c above W e)
    go true f = rw (m, enter, f) (here f)
    go false l = rw (m, enter, l) (rw (mend-enters x y l) (gone l))
