-- A walk over a range, in a safe store: it meets no damage, and finds the certificates of the tree as it stands, in that range, in
-- order, until there is no room, whatever was mended before or is mended on the way.
use Rattle.std.proofs.Common.{◌≡◌, ℕ, zero, suc, ◌-◌, ◌≤◌, Bool, true, false, List, [], ◌∷◌, ◌++◌, length, take, sym, refl, ap, ◌∙◌, subst, arith}
use mathlib.Core.List.{Memᴰ}
use mathlib.Core.Option.{some}
use Rattle.rules.specs.Layout.{top_kind}
use Rattle.rules.specs.Entry.{Cert, cut}
use Rattle.rules.specs.Page.{View}
use Rattle.rules.specs.Place.{root_place, kids, show}
use Rattle.rules.specs.Enter.{enter}
use Rattle.rules.specs.Walk.{Walked, unwalked, noted, enters, finds, walk_each, walk, walk_of}
use Rattle.rules.specs.Tree.{empty, join, tree_each, tree, tree_of}
use Rattle.rules.specs.declared.Asked.{Asked}
use Rattle.rules.specs.declared.Place.{Place}
use Rattle.rules.specs.declared.Session.{Session}
use Rattle.rules.proofs.Demand3.Ways.Ways.{Node}
use Rattle.rules.proofs.Demand3.Ways.Invariant.{Good, States}
use Rattle.rules.proofs.Demand3.Ways.Kids.{shown-kind}
use Rattle.rules.proofs.Demand3.Ways.Nodes.{node-root, kid-kind}
use Rattle.rules.proofs.Demand3.Epochs.Epochs.{working-good}
use Rattle.rules.proofs.Demand3.Epochs.Opens.{kid-node}
use Rattle.rules.proofs.Demand3.Epochs.Store.{Safe}
use Rattle.rules.proofs.Demand1.WalkSteps.{walk-past, walk-entered}
use Rattle.rules.proofs.Demand3.Reads.Enters.{Calm, AllHigher, none_higher, more_higher, Entering, entering}
use Rattle.rules.proofs.Demand3.Reads.TreeCerts.{certs-here, orders}
use Rattle.rules.proofs.Demand3.Reads.Gathers.{gather, gather_nil, gather_append, gather_full, gather_beside, Past, no_room_lem, beside, past}

-- ── A walk ──────────────────────────────────────────────────────────────────────────────────────────────────────

module _ (s : Session) (t S : List ℕ) (Been : States) (a : Asked) where
  -- nothing damaged was met so far, and xs was found; t is the table before all mends
  pub record Walking (xs : List Cert) (w : Walked) : Type 0 where
    pub whole : w.whole ≡ true
    pub found : w.found ≡ xs
    pub left : Calm s t S Been w.table

  abbrev Walks : ℕ → List ℕ → Place → Type 0
  Walks level above e =
      (xs : List Cert) (w : Walked) → Walking xs w
      → Walking (gather a xs (tree level s.n t e).certs) (walk level s.n s.c a above e w)

  each : (level : ℕ) (above : List ℕ) (es : List Place) → ((d : Place) → Memᴰ d es → Walks level above d)
      → (xs : List Cert) (w : Walked) → Walking xs w
      → Walking (gather a xs (tree_each (tree level s.n t) es).certs) (walk_each (walk level s.n s.c a above) es w)
  unfolding walk_each tree_each empty join
  each level above [] f xs w h = subst (λ (ys : List Cert). Walking ys w) (sym (gather_nil a xs)) h
  each level above (e ∷ es) f xs w h =
      subst (λ (ys : List Cert). Walking ys (walk_each (walk level s.n s.c a above) es (walk level s.n s.c a above e w)))
      (gather_append a xs (tree level s.n t e).certs (tree_each (tree level s.n t) es).certs)
      (each level above es (λ d m. f d (Memᴰ.tail m)) (gather a xs (tree level s.n t e).certs)
      (walk level s.n s.c a above e w) (f e (Memᴰ.head refl) xs w h))

  module _ {k : ℕ} {e : Place} {v : View} (node : Node s.n t k e) (shows : show s.n t e ≡ some v) (above : List ℕ)
      (higher : AllHigher s.n t v.kind above) (xs : List Cert) (w : Walked) (h : Walking xs w) where
    here : Entering s t S Been e v (enter s.n s.c above w.table e)
    here = entering h.left node shows above higher

    -- on entering
    begun : Walking (gather a xs v.certs) (finds a v (noted s.n e w) (enter s.n s.c above w.table e).table)
    unfolding finds
    begun =
        record {
          whole = refl;
          found = ap (λ (ys : List Cert). ys ++ take (a.room - length ys) (cut a.low a.high v.certs)) h.found;
          left = here.left;
        }

  -- the kids of a node are nodes of one kind lower
  below : {k : ℕ} {e : Place} (v : View) (level : ℕ) (above : List ℕ) → Safe s t S Been → Node s.n t k e → show s.n t e ≡ some v
      → v.kind ≤ suc level → AllHigher s.n t v.kind above
      → ((j : ℕ) (d : Place) (u : View) (above : List ℕ) → Node s.n t j d → show s.n t d ≡ some u → u.kind ≤ level
      → AllHigher s.n t u.kind above → Walks level above d)
      → (d : Place) → Memᴰ d (kids e v) → Walks level (e.child ∷ above) d
  below {k} {e} v level above x node shows low higher ih d m =
      let y = kid-node v d node shows m in
      let z = (working-good x.inv).whole y.1 in
      let l = kid-kind s.n t e v shows d.low d y.0 z.view z.shows in
      ih d.low d z.view (e.child ∷ above) y.1 z.shows (omega (arith, l))
      (more_higher above v z.view.kind node shows (omega (arith, l)) higher)

  walks : Safe s t S Been → (level k : ℕ) (e : Place) (v : View) (above : List ℕ) → Node s.n t k e → show s.n t e ≡ some v
      → v.kind ≤ level → AllHigher s.n t v.kind above → Walks level above e
  walks x zero k e v above node shows low higher xs w h = absurd (omega (arith, (shown-kind s.n t e v shows).0))
  walks x (suc level) k e v above node shows low higher xs w h = go (enters a e w) refl (below v level above x node shows low higher (walks x level))
    where
      good : Good s.n t
      good = working-good x.inv

      r : Entering s t S Been e v (enter s.n s.c above w.table e)
      r = here node shows above higher xs w h

      by : Past a e w.found → gather a xs (tree (suc level) s.n t e).certs ≡ xs
      by (no_room_lem z) = gather_full a xs (tree (suc level) s.n t e).certs (omega (arith, z, ap length h.found))
      by (beside z) =
          gather_beside a xs e.low e.high (tree (suc level) s.n t e).certs
          (orders good (suc level) k e v node shows low).within z

      go : (b : Bool) → enters a e w ≡ b → ((d : Place) → Memᴰ d (kids e v) → Walks level (e.child ∷ above) d)
          → Walking (gather a xs (tree (suc level) s.n t e).certs) (walk (suc level) s.n s.c a above e w)
      go false p ih =
          subst (λ (ys : List Cert). Walking ys (walk (suc level) s.n s.c a above e w)) (sym (by (past a e w h.whole p)))
          (subst (Walking xs) (sym (walk-past level s.n s.c a above e w p)) h)
      go true p ih =
          subst (λ (ys : List Cert). Walking ys (walk (suc level) s.n s.c a above e w))
          (gather_append a xs v.certs (tree_each (tree level s.n t) (kids e v)).certs
          ∙ ap (gather a xs) (sym (certs-here good level e v shows)))
          (subst (Walking (gather a (gather a xs v.certs) (tree_each (tree level s.n t) (kids e v)).certs))
          (sym (walk-entered level s.n s.c a above e w p r.found r.page))
          (subst (λ (u : View). Walking (gather a (gather a xs v.certs) (tree_each (tree level s.n t) (kids e v)).certs)
          (walk_each (walk level s.n s.c a (e.child ∷ above)) (kids e u)
          (finds a u (noted s.n e w) (enter s.n s.c above w.table e).table))) (sym r.view)
          (each level (e.child ∷ above) (kids e v) ih (gather a xs v.certs)
          (finds a v (noted s.n e w) (enter s.n s.c above w.table e).table) (begun node shows above higher xs w h))))

-- what a walk over a range finds in t
abbrev pub sought : ℕ → List ℕ → Asked → List Cert
sought n t a = gather a [] (tree_of n t).certs

-- u is t with some lost pages mended
pub walk_of-walking : {s : Session} {t u S : List ℕ} {Been : States} (a : Asked) → Safe s t S Been → Calm s t S Been u
    → Walking s t S Been a (sought s.n t a) (walk_of s.n s.c a u)
unfolding walk_of tree_of
walk_of-walking {s} {t} {u} {S} {Been} a x m =
    let y = node-root s.n t 0 (omega arith) in
    let z = (working-good x.inv).whole y in
    let l = shown-kind s.n t (root_place t) z.view z.shows in
    subst (λ (e : Place). Walking s t S Been a (sought s.n t a) (walk top_kind s.n s.c a [] e first)) (sym m.steady.root)
    (walks s t S Been a x top_kind 0 (root_place t) z.view [] y z.shows l.1 (none_higher s.n t z.view.kind) [] first
    (record { whole = refl; found = refl; left = m }))
  where
    first : Walked
    first = unwalked u
