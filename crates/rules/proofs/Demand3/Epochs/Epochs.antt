-- Epochs: a sync or an opening makes a mix stable, and the invariant holds anew for it at any greater counter. What page 0
-- says beside its root may differ meanwhile.
use Rattle.std.proofs.Common.{◌≡◌, ℕ, ◌<◌, ◌≤◌, Bool, true, false, ◌≢◌, ◌⊎◌, List, sym, refl, ◌∙◌, inl, inr, arith}
use mathlib.Core.Bool.{false≢true}
use mathlib.Core.Option.{Option}
use Rattle.rules.specs.Page.{View}
use Rattle.rules.specs.Table.{read}
use Rattle.rules.specs.Place.{root_place, show}
use Rattle.rules.specs.declared.Place.{Place}
use Rattle.rules.proofs.Demand3.Ways.Ways.{Node, Lost, Undamaged, Tells}
use Rattle.rules.proofs.Demand3.Ways.Invariant.{Good, States, Old, same, changed, New, Inv, Marks}
use Rattle.rules.proofs.Entries.Places.{Shown, fitting, lost, show-some, fits-of}
use Rattle.rules.proofs.Demand3.Ways.Nodes.{node-page, node_stays}
use Rattle.rules.proofs.Demand3.Mix.Mix.{Mixed, lost_as, show_as}
use Rattle.rules.proofs.Demand3.Mix.MixTheorem.{Older, mix-good, mix_older, lost-before}

-- ── An epoch starts ─────────────────────────────────────────────────────────────────────────────────────────────

pub start : (n : ℕ) (t : List ℕ) (c : ℕ) (Been : States) → Older n t c
    → ((k : ℕ) (s : Option ℕ) → Tells n t k s → Been k s) → Inv n t t c Been
start n t c Been h f = record {
  good = h.good;
  births = h.births;
  born = h.born;
  built = h.built;
  told = λ {k} {o} {v} x s l.
      f k _ (record { place = o; view = v; node = x; shows = s; leaf = l; finds = refl });
  rooted = h.good.rooted;
  once = h.good.once;
  births_now = λ i p q. omega (arith, h.births i p q);
  old = λ x s. same refl;
  spared = λ x l. refl;
  apart = h.good.apart;
  node = λ x. inl x;
}

-- a key may have had more states
module _ (n : ℕ) (S W : List ℕ) (c : ℕ) (Been More : States) (f : (k : ℕ) (s : Option ℕ) → Been k s → More k s) where
  widen_old : (k : ℕ) (o : Place) (v : View) → Old n S W c Been k o v → Old n S W c More k o v
  widen_old k o v (same h) = same h
  widen_old k o v (changed y) =
      changed (record {
        found = y.found;
        kept = y.kept;
        mended = y.mended;
        touched = y.touched;
        kind = y.kind;
        told = λ l. f k _ (y.told l);
        still = y.still;
      })

  widen_new : (k : ℕ) (w : Place) → Node n S k w ⊎ New n S W c Been k w → Node n S k w ⊎ New n S W c More k w
  widen_new k w (inl x) = inl x
  widen_new k w (inr y) =
      inr (record {
        born = y.born;
        found = y.found;
        built = y.built;
        touched = y.touched;
        no_child = y.no_child;
        no_previous = y.no_previous;
        shade = y.shade;
        seen = y.seen;
        stands = y.stands;
        shows = y.shows;
        lows = y.lows;
        highs = y.highs;
        gone = y.gone;
        before = y.before;
        asks = y.asks;
        cut_low = y.cut_low;
        cut_high = y.cut_high;
        told = λ l. f k _ (y.told l);
      })

  pub widen : Inv n S W c Been → Inv n S W c More
  widen I = record {
    good = I.good;
    births = I.births;
    born = I.born;
    built = I.built;
    told = λ {k} x s l. f k _ (I.told x s l);
    rooted = I.rooted;
    once = I.once;
    births_now = I.births_now;
    old = λ {k} {o} {v} x s. widen_old k o v (I.old x s);
    spared = I.spared;
    apart = I.apart;
    node = λ {k} {w} x. widen_new k w (I.node x);
  }

-- each key's only state is what the table tells of it
pub after : (n : ℕ) (S W M : List ℕ) (c d : ℕ) (Been : States) → Inv n S W c Been → Mixed n S W M → c < d
    → Inv n M M d (Tells n M)
after n S W M c d Been I X h = start n M d (Tells n M) (mix_older n S W M c Been I X d h) (λ k s x. x)

-- the working table is a mix
pub all_written : (n : ℕ) (S W : List ℕ) → Mixed n S W W
all_written n S W = record { pages = λ i p q. inr refl; root = inr refl }

pub working-good : {n : ℕ} {S W : List ℕ} {c : ℕ} {Been : States} → Inv n S W c Been → Good n W
working-good {n} {S} {W} {c} {Been} I = mix-good n S W W c Been I (all_written n S W)

-- ── Tables that read alike ──────────────────────────────────────────────────────────────────────────────────────

pub record Alike (n : ℕ) (t u : List ℕ) : Type 0 where
  pub pages : (i : ℕ) → 1 ≤ i → i < n → read u i ≡ read t i
  pub root : root_place u ≡ root_place t

pub alike_sym : {n : ℕ} {t u : List ℕ} → Alike n t u → Alike n u t
alike_sym a = record { pages = λ i p q. sym (a.pages i p q); root = sym a.root }

pub alike_self : {n : ℕ} {t : List ℕ} → Alike n t t
alike_self = record { pages = λ i p q. refl; root = refl }

pub alike-after : {n : ℕ} {t u v : List ℕ} → Alike n t u → Alike n u v → Alike n t v
alike-after a b = record { pages = λ i p q. b.pages i p q ∙ a.pages i p q; root = b.root ∙ a.root }

-- a mix with what is alike to W is one with W
pub mixed_working : {n : ℕ} {S W U M : List ℕ} → Alike n W U → Mixed n S U M → Mixed n S W M
mixed_working {n} {S} {W} {U} {M} a X = record { pages = λ i p q. go i p q (X.pages i p q); root = top X.root }
  where
    go : (i : ℕ) → 1 ≤ i → i < n → (read M i ≡ read S i) ⊎ (read M i ≡ read U i) → (read M i ≡ read S i) ⊎ (read M i ≡ read W i)
    go i p q (inl e) = inl e
    go i p q (inr e) = inr (e ∙ a.pages i p q)

    top : (root_place M ≡ root_place S) ⊎ (root_place M ≡ root_place U) → (root_place M ≡ root_place S) ⊎ (root_place M ≡ root_place W)
    top (inl e) = inl e
    top (inr e) = inr (e ∙ a.root)

-- what is alike to a mix is a mix
pub mixed_alike : {n : ℕ} {S W M : List ℕ} (u : List ℕ) → Alike n M u → Mixed n S W M → Mixed n S W u
mixed_alike {n} {S} {W} {M} u a X = record { pages = λ i p q. go i p q (X.pages i p q); root = top X.root }
  where
    go : (i : ℕ) → 1 ≤ i → i < n → (read M i ≡ read S i) ⊎ (read M i ≡ read W i) → (read u i ≡ read S i) ⊎ (read u i ≡ read W i)
    go i p q (inl e) = inl (a.pages i p q ∙ e)
    go i p q (inr e) = inr (a.pages i p q ∙ e)

    top : (root_place M ≡ root_place S) ⊎ (root_place M ≡ root_place W) → (root_place u ≡ root_place S) ⊎ (root_place u ≡ root_place W)
    top (inl e) = inl (a.root ∙ e)
    top (inr e) = inr (a.root ∙ e)

alike-show : {n : ℕ} {t : List ℕ} (u : List ℕ) → Good n t → Alike n t u → {k : ℕ} {e : Place} → Node n t k e → show n u e ≡ show n t e
alike-show {n} {t} u g a {k} {e} x = show_as n t u e w.view w.shows (a.pages e.child p.0 p.1) spared ∙ sym w.shows
  where
    w : Undamaged n t e
    w = g.whole x

    p : (1 ≤ e.child) × (e.child < n)
    p = node-page g.rooted x

    go : Lost n t e → Shown n t e w.view → read u e.previous ≡ read t e.previous
    go l (fitting f q) = absurd (false≢true (sym l ∙ fits-of n e (read t e.child) f))
    go l (lost f m q) = a.pages e.previous m.from m.below

    spared : Lost n t e → read u e.previous ≡ read t e.previous
    spared l = go l (show-some n t e w.view w.shows)

pub alike-node : {n : ℕ} {t : List ℕ} (u : List ℕ) → Good n t → Alike n t u → {k : ℕ} {e : Place} → Node n t k e → Node n u k e
alike-node {n} {t} u g a x = node_stays u a.root (λ d y. alike-show u g a y) x

pub alike-tells : {n : ℕ} {t : List ℕ} (u : List ℕ) → Good n t → Alike n t u → {k : ℕ} {s : Option ℕ} → Tells n t k s → Tells n u k s
alike-tells {n} {t} u g a x = record {
  place = x.place;
  view = x.view;
  node = alike-node u g a x.node;
  shows = alike-show u g a x.node ∙ x.shows;
  leaf = x.leaf;
  finds = x.finds;
}

pub alike-lost : {n : ℕ} {t : List ℕ} (u : List ℕ) → Good n t → Alike n t u → {k : ℕ} {e : Place} → Node n t k e → Lost n t e → Lost n u e
alike-lost {n} {t} u g a {k} {e} x l =
    let p = node-page g.rooted x in
    lost_as n t u e (a.pages e.child p.0 p.1) l

-- ── Marks at a sync ─────────────────────────────────────────────────────────────────────────────────────────────

-- what was free or waiting is used by nothing in the working tree
pub turn : {n : ℕ} {S W : List ℕ} {c : ℕ} {Been : States} {free waiting : ℕ → Bool} (W' : List ℕ) (free' waiting' : ℕ → Bool)
    → Inv n S W c Been → Alike n W W' → Marks n S W free waiting
    → ((i : ℕ) → free' i ≡ true → (free i ≡ true) ⊎ (waiting i ≡ true)) → ((i : ℕ) → waiting' i ≡ false)
    → Marks n W' W' free' waiting'
turn {n} {S} {W} {c} {Been} {free} {waiting} W' free' waiting' I a m f z = record {
  free_old = λ {i} h x. child i (f i h) x;
  free_new = λ {i} h x. child i (f i h) x;
  free_spared = λ {i} h x l. spared i (f i h) x l;
  not_both = λ {i} h. z i;
  waiting_new = λ {i} h x. absurd (false≢true (sym (z i) ∙ h));
  waiting_spared = λ {i} h x l. absurd (false≢true (sym (z i) ∙ h));
}
  where
    g : Good n W'
    g = mix-good n S W W' c Been I (mixed_alike W' a (all_written n S W))

    back : {k : ℕ} {e : Place} → Node n W' k e → Node n W k e
    back x = alike-node W g (alike_sym a) x

    child : {k : ℕ} {e : Place} (i : ℕ) → (free i ≡ true) ⊎ (waiting i ≡ true) → Node n W' k e → e.child ≢ i
    child i (inl h) x = m.free_new h (back x)
    child i (inr h) x = m.waiting_new h (back x)

    -- what is lost in W is lost in S
    stable : {k : ℕ} {e : Place} → Lost n W e → Node n S k e ⊎ New n S W c Been k e → Node n S k e × Lost n S e
    stable {k} {e} l (inl x) = (x, lost-before n S W W c Been I (all_written n S W) k e x l)
    stable l (inr y) = absurd (false≢true (sym l ∙ y.found))

    not_spared : {k : ℕ} {e : Place} (i : ℕ) → (free i ≡ true) ⊎ (waiting i ≡ true) → Node n S k e × Lost n S e → e.previous ≢ i
    not_spared i (inl h) x = m.free_spared h x.0 x.1
    not_spared i (inr h) x = m.waiting_spared h x.0 x.1

    spared : {k : ℕ} {e : Place} (i : ℕ) → (free i ≡ true) ⊎ (waiting i ≡ true) → Node n W' k e → Lost n W' e → e.previous ≢ i
    spared i h x l =
        not_spared i h (stable (alike-lost W g (alike_sym a) x l) (I.node (back x)))
