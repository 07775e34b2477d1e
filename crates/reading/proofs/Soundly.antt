-- Mending in any table whose tree passes opening's tests: a node that is lost can be mended, and the table shows afterwards what it
-- showed before, at every node.
use Prim.Native.Nat.{ℕ, zero, suc, ◌*◌, ◌^◌, ◌≤◌, ◌<◌}
use native.Mathlib.Omega.{arith}
use mathlib.Core.Path.{◌≡◌, refl, sym, ap, ◌∙◌, subst}
use mathlib.Core.Logic.{◌⊎◌, inl, inr, ◌≢◌}
use mathlib.Core.Bool.{Bool, true, false, false≢true}
use mathlib.Core.List.{List}
use mathlib.Core.Option.{some, some-injective, none-ne-some}
use lib.Dec.{eqb}
use lib.ListN.{length}
use borrow.Author.Tests.{eqb-true, eqb-false}
use Rattle.fields.specs.Field.{Bytes}
use Rattle.fields.proofs.Field.{le_at-bound}
use Rattle.rules.specs.Layout.{page_size}
use Rattle.rules.specs.Test.{mem}
use Rattle.rules.specs.Entry.{Child, Below, find}
use Rattle.rules.specs.Page.{View, Page, fresh}
use Rattle.rules.specs.Table.{read, build, birth0}
use Rattle.rules.specs.Place.{root_place, fits, mended, cut_view, show}
use Rattle.rules.specs.Enter.{Entered, mend, enter}
use Rattle.rules.specs.declared.Place.{Place}
use Rattle.rules.proofs.Bytes.All.{All, nil, cons, all-cut}
use Rattle.rules.proofs.Bytes.EntryBytes.{WideChild}
use Rattle.rules.proofs.Entries.Entries.{find_head, find_tail}
use Rattle.rules.proofs.Entries.Tests.{fails}
use Rattle.rules.proofs.Bytes.Tables.{Has, Room, has-page, wide_read, length-build, bytes-build, read-build-other}
use Rattle.rules.proofs.Bytes.PageZero.{root_place-same, same0_build}
use Rattle.rules.proofs.Entries.Places.{fits-of, Mendable, mendable-of, mended-fits, Shown, fitting, lost, show-some, shows-mended}
use Rattle.rules.proofs.Entries.Picks.{below_of}
use Rattle.rules.proofs.Entries.Asks.{kids-pick}
use Rattle.rules.proofs.Demand3.Ways.Ways.{at, under, Node, Found, Lost, Undamaged}
use Rattle.rules.proofs.Demand3.Ways.Invariant.{Good}
use Rattle.rules.proofs.Demand3.Ways.Sources.{show-found}
use Rattle.rules.proofs.Demand3.Ways.Kids.{sound-here}
use Rattle.rules.proofs.Demand3.Ways.Nodes.{above, at_root_lem, at-range, node-page, node-range}
use Rattle.rules.proofs.Demand3.Mix.Mix.{show_as}
use Rattle.rules.proofs.Demand3.Steps.Touch.{at_goes}
use Rattle.rules.proofs.Demand3.Steps.Mended.{Steady, steady-same, steady-node, steady-back, steady-found, steady_then, node-last}
use Rattle.enter.proofs.Mended.{Narrow, room-mended, read-mended}

-- a table of n pages whose tree passes opening's tests, and a counter
pub record Passing (n c : ℕ) (t : List ℕ) : Type 0 where
  pub long : length t ≡ n * page_size
  pub bytes : Bytes t
  pub counter : c < 256 ^ 4
  pub good : Good n t

-- ── A node's numbers fit their fields ───────────────────────────────────────────────────────────────────────────

found-wide : {xs : List Child} (k : ℕ) (v : Below) → All WideChild xs → find k xs ≡ some v → v.birth < 256 ^ 4
unfolding find
found-wide k v nil h = absurd (none-ne-some v h)
found-wide k v (cons {x = x} {xs} w m) h = go (eqb k x.key) refl (found-wide k v m)
  where
    go : (t : Bool) → eqb k x.key ≡ t → (find k xs ≡ some v → v.birth < 256 ^ 4) → v.birth < 256 ^ 4
    go true e ih =
        subst (λ (y : Below). y.birth < 256 ^ 4)
        (some-injective x.value v (sym (find_head k x xs (eqb-true k x.key e)) ∙ h)) w.birth
    go false e ih = ih (sym (find_tail k x xs (eqb-false k x.key e)) ∙ h)

shown-wide : (n : ℕ) (t : List ℕ) (e : Place) (v : View) → Bytes t → show n t e ≡ some v → All WideChild v.children
unfolding cut_view
shown-wide n t e v b s = go (show-some n t e v s)
  where
    go : Shown n t e v → All WideChild v.children
    go (fitting f q) = subst (λ (y : View). All WideChild y.children) (sym q) (wide_read t e.child b).view.children
    go (lost f m q) =
        subst (λ (y : View). All WideChild y.children) (sym q) (all-cut e.low e.high (wide_read t e.previous b).view.children)

node-birth : {n : ℕ} {t : List ℕ} {k : ℕ} {e : Place} → Bytes t → Node n t k e → e.birth < 256 ^ 4
unfolding root_place birth0
node-birth {n} {t} {k} {e} b x = go x.depth x.here
  where
    go : (i : ℕ) → at n t k i ≡ some e → e.birth < 256 ^ 4
    go zero h = subst (λ (p : Place). p.birth < 256 ^ 4) (at_root_lem n t k e h) (le_at-bound t 12 4 b)
    go (suc i) h =
        let a = above n t k i e h in
        let r = at-range n t k i a.parent a.stands in
        let o = sound-here n t a.parent a.view a.shows (omega (arith, r.0, r.1)) in
        found-wide e.low (below_of e) (shown-wide n t a.parent a.view b a.shows) (kids-pick a.parent o k e a.picks).entry

node-narrow : {n c : ℕ} {t : List ℕ} {k : ℕ} {e : Place} → Passing n c t → Node n t k e → Narrow c e
node-narrow p x =
    let r = node-range x in
    record {
      counter = p.counter;
      birth = node-birth p.bytes x;
      low = omega (arith, r.0, r.1, node-last x);
      high = omega (arith, node-last x);
    }

-- ── One mend ────────────────────────────────────────────────────────────────────────────────────────────────────

module _ {n c : ℕ} {t : List ℕ} (p : Passing n c t) {k : ℕ} {e : Place} (x : Node n t k e) (l : Lost n t e) where
  shown : Undamaged n t e
  shown = p.good.whole x

  can : Mendable n e (read t e.previous)
  can = go (show-some n t e shown.view shown.shows)
    where
      go : Shown n t e shown.view → Mendable n e (read t e.previous)
      go (fitting f q) = absurd (false≢true (sym l ∙ fits-of n e (read t e.child) f))
      go (lost f m q) = m

  abbrev page : Page
  page = mended c e (read t e.previous)

  abbrev u : List ℕ
  u = build t e.child page

  child : (1 ≤ e.child) × (e.child < n)
  child = node-page p.good.rooted x

  reads : read u e.child ≡ page
  reads = read-mended n c t e p.bytes (node-narrow p x) p.long child.1 (mendable-of n e (read t e.previous) can)

  fit-room : Room page
  fit-room = room-mended n c t e p.bytes (node-narrow p x) (mendable-of n e (read t e.previous) can)

  has : Has t e.child
  has = has-page t n e.child p.long child.1

  others : (j : ℕ) → j ≢ e.child → read u j ≡ read t j
  others j d = read-build-other t e.child page has fit-room j d

  root : root_place u ≡ root_place t
  root = root_place-same (same0_build t e.child has child.0 page fit-room)

  range : e.low ≤ e.high
  range = let r = node-range x in omega (arith, r.0, r.1)

  -- a node is e, or has another child
  which : {j : ℕ} {d : Place} → Node n t j d → (d ≡ e) ⊎ (d.child ≢ e.child)
  which {j} {d} y = go (eqb d.child e.child) refl
    where
      go : (b : Bool) → eqb d.child e.child ≡ b → (d ≡ e) ⊎ (d.child ≢ e.child)
      go true h = inl (p.good.once y x (eqb-true d.child e.child h))
      go false h = inr (eqb-false d.child e.child h)

  shows : {j : ℕ} {d : Place} → Node n t j d → show n u d ≡ show n t d
  shows {j} {d} y = go (which y)
    where
      go : (d ≡ e) ⊎ (d.child ≢ e.child) → show n u d ≡ show n t d
      go (inl h) = subst (λ (a : Place). show n u a ≡ show n t a) (sym h) (shows-mended n c t u e range l can reads)
      go (inr h) =
          let w = p.good.whole y in
          show_as n t u d w.view w.shows (others d.child h) (λ f. others d.previous (p.good.apart y f x)) ∙ sym w.shows

  pub mend-steady : Steady n t u
  mend-steady = record {
    ways = λ j i. at_goes n t u j root (λ d y. ap (under j d) (shows y)) i;
    shows = shows;
    stays = λ {k = j} {e = d} y f. others d.child (other y f (which y));
    root = root;
  }
    where
      other : {j : ℕ} {d : Place} → Node n t j d → Found n t d → (d ≡ e) ⊎ (d.child ≢ e.child) → d.child ≢ e.child
      other y f (inl h) = absurd (false≢true (sym l ∙ subst (Found n t) h f))
      other y f (inr h) = h

  pub mend-long : length u ≡ n * page_size
  mend-long = length-build t e.child page has fit-room ∙ p.long

  pub mend-bytes : Bytes u
  mend-bytes = bytes-build t e.child page p.bytes

  pub mend-enters : mend n c t e ≡ record { table = u; page = some page }
  unfolding mend
  mend-enters = rw (mendable-of n e (read t e.previous) can, mend)

  -- the page mended shows what the node showed
  pub mend-shows : (v : View) → show n t e ≡ some v → page.view ≡ v
  unfolding mended fresh
  mend-shows v s =
      some-injective page.view v
      (sym (show-found n u e (ap (fits n e) reads ∙ fits-of n e page (mended-fits c range can)) ∙ ap (λ (y : Page). some y.view) reads)
      ∙ (shows x ∙ s))

-- ── Tables that show the same ───────────────────────────────────────────────────────────────────────────────────

pub good-steady : {n : ℕ} {t u : List ℕ} → Steady n t u → Good n t → Good n u
good-steady {n} {t} {u} h g = record {
  rooted = record {
    some_page = subst (λ (d : Place). 1 ≤ d.child) (sym h.root) g.rooted.some_page;
    in_table = subst (λ (d : Place). d.child < n) (sym h.root) g.rooted.in_table;
    previous_in = subst (λ (d : Place). d.previous < n) (sym h.root) g.rooted.previous_in;
  };
  whole = λ x.
      let y = steady-back h x in
      let w = g.whole y in
      record { view = w.view; shows = h.shows y ∙ w.shows };
  once = λ x y. g.once (steady-back h x) (steady-back h y);
  apart = λ {a = a} x l y. g.apart (steady-back h x) (lost-before a (steady-back h x) l) (steady-back h y);
}
  where
    lost-before : {k : ℕ} (a : Place) → Node n t k a → Lost n u a → Lost n t a
    lost-before a x l = fails (fits n a (read t a.child)) (λ f. false≢true (sym l ∙ steady-found h x f))

-- u is t with some lost pages mended
pub record Shows (n c : ℕ) (t u : List ℕ) : Type 0 where
  pub passing : Passing n c u
  pub steady : Steady n t u

pub shows_itself : {n c : ℕ} {t : List ℕ} → Passing n c t → Shows n c t t
shows_itself p = record { passing = p; steady = steady-same }

-- ── Entering a node ─────────────────────────────────────────────────────────────────────────────────────────────

pub record Seen (n c : ℕ) (t : List ℕ) (v : View) (r : Entered) : Type 0 where
  pub page : Page
  pub given : r.page ≡ some page
  pub view : page.view ≡ v
  pub left : Shows n c t r.table

pub enter-seen : {n c : ℕ} {t u : List ℕ} {k : ℕ} {e : Place} (v : View) (above : List ℕ) → Shows n c t u → Node n t k e → show n t e ≡ some v
    → mem e.child above ≡ false → Seen n c t v (enter n c above u e)
unfolding enter
enter-seen {n} {c} {t} {u} {k} {e} v above h x s m = go (fits n e (read u e.child)) refl
  where
    y : Node n u k e
    y = steady-node h.steady x

    shown-now : show n u e ≡ some v
    shown-now = h.steady.shows x ∙ s

    here : Found n u e → Seen n c t v (record { table = u; page = some (read u e.child) })
    here f = record {
      page = read u e.child;
      given = refl;
      view = some-injective (read u e.child).view v (sym (show-found n u e f) ∙ shown-now);
      left = h;
    }

    gone : (l : Lost n u e) → Seen n c t v (record { table = build u e.child (mended c e (read u e.previous)); page = some (mended c e (read u e.previous)) })
    gone l =
        let q = mend-steady h.passing y l in
        record {
          page = mended c e (read u e.previous);
          given = refl;
          view = mend-shows h.passing y l v shown-now;
          left = record {
            passing = record {
              long = mend-long h.passing y l;
              bytes = mend-bytes h.passing y l;
              counter = h.passing.counter;
              good = good-steady q h.passing.good;
            };
            steady = steady_then h.steady q;
          };
        }

    go : (b : Bool) → fits n e (read u e.child) ≡ b → Seen n c t v (enter n c above u e)
    go true f = rw (m, enter, f) (here f)
    go false l = rw (m, enter, l) (rw (mend-enters h.passing y l) (gone l))
