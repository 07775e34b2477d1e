-- A walk over a range, in any table whose tree passes opening's tests: it meets no damage, and finds the certificates of the tree
-- in that range, in order, until there is no room.
use Prim.Native.Nat.{ℕ, zero, suc, ◌-◌, ◌≤◌}
use native.Mathlib.Omega.{arith}
use mathlib.Core.Path.{◌≡◌, refl, sym, ap, ◌∙◌, subst}
use mathlib.Core.Bool.{Bool, true, false}
use mathlib.Core.List.{List, [], ◌∷◌, ◌++◌, Memᴰ}
use mathlib.Core.Option.{some, some-injective}
use lib.ListN.{length, take}
use Rattle.rules.specs.Layout.{top_kind}
use Rattle.rules.specs.Test.{mem}
use Rattle.rules.specs.Entry.{Cert, cut}
use Rattle.rules.specs.Page.{View}
use Rattle.rules.specs.Place.{root_place, kids, show}
use Rattle.rules.specs.Enter.{enter}
use Rattle.rules.specs.Walk.{Walked, enters, finds, walk_each, walk, walk_of, unwalked, noted}
use Rattle.rules.specs.Tree.{empty, join, tree_each, tree, tree_of}
use Rattle.rules.specs.declared.Asked.{Asked}
use Rattle.rules.specs.declared.Place.{Place}
use Rattle.rules.proofs.Entries.Tests.{fails}
use Rattle.rules.proofs.Demand3.Ways.Ways.{Node}
use Rattle.rules.proofs.Demand1.WalkSteps.{walk-past, walk-entered}
use Rattle.rules.proofs.Demand3.Ways.Kids.{shown-kind}
use Rattle.rules.proofs.Demand3.Ways.Nodes.{node-root, kid-kind}
use Rattle.rules.proofs.Demand3.Epochs.Opens.{kid-node}
use Rattle.rules.proofs.Demand3.Reads.Enters.{Higher, AllHigher, none_higher, more_higher}
use Rattle.reading.proofs.Soundly.{Passing, Shows, shows_itself, Seen, enter-seen}
use Rattle.rules.proofs.Demand3.Reads.TreeCerts.{certs-here, orders}
use Rattle.rules.proofs.Demand3.Reads.Gathers.{gather, gather_nil, gather_append, gather_full, gather_beside, Past, no_room_lem, beside, past}

-- ── The walk ────────────────────────────────────────────────────────────────────────────────────────────────────

module _ {n c : ℕ} {t : List ℕ} (p : Passing n c t) (a : Asked) where
  -- nothing damaged was met so far, and xs was found
  pub record Walking (xs : List Cert) (w : Walked) : Type 0 where
    pub whole : w.whole ≡ true
    pub found : w.found ≡ xs
    pub left : Shows n c t w.table

  abbrev Gathers : ℕ → List ℕ → Place → Type 0
  Gathers level above e =
      (xs : List Cert) (w : Walked) → Walking xs w
      → Walking (gather a xs (tree level n t e).certs) (walk level n c a above e w)

  each : (level : ℕ) (above : List ℕ) (es : List Place) → ((d : Place) → Memᴰ d es → Gathers level above d)
      → (xs : List Cert) (w : Walked) → Walking xs w
      → Walking (gather a xs (tree_each (tree level n t) es).certs) (walk_each (walk level n c a above) es w)
  unfolding walk_each tree_each empty join
  each level above [] f xs w h = subst (λ (ys : List Cert). Walking ys w) (sym (gather_nil a xs)) h
  each level above (e ∷ es) f xs w h =
      subst (λ (ys : List Cert). Walking ys (walk_each (walk level n c a above) es (walk level n c a above e w)))
      (gather_append a xs (tree level n t e).certs (tree_each (tree level n t) es).certs)
      (each level above es (λ d m. f d (Memᴰ.tail m)) (gather a xs (tree level n t e).certs) (walk level n c a above e w)
      (f e (Memᴰ.head refl) xs w h))

  -- no page above is entered again
  pub apart : {k : ℕ} {e : Place} {v : View} → Node n t k e → show n t e ≡ some v → (above : List ℕ) → AllHigher n t v.kind above
      → mem e.child above ≡ false
  apart {k} {e} {v} node shows above higher = fails (mem e.child above) (λ m. clash (higher e.child m))
    where
      clash : Higher n t v.kind e.child → ⊥
      clash y =
          let q : y.place ≡ e = p.good.once y.node node y.names in
          let w : y.view ≡ v = some-injective y.view v (sym y.shows ∙ (ap (show n t) q ∙ shows)) in
          omega (arith, y.above, ap (λ (z : View). z.kind) w)

  module _ {k : ℕ} {e : Place} (v : View) (node : Node n t k e) (shows : show n t e ≡ some v) (above : List ℕ)
      (higher : AllHigher n t v.kind above) (xs : List Cert) (w : Walked) (h : Walking xs w) where
    seen : Seen n c t v (enter n c above w.table e)
    seen = enter-seen v above h.left node shows (apart node shows above higher)

    -- on entering
    begun : Walking (gather a xs v.certs) (finds a v (noted n e w) (enter n c above w.table e).table)
    unfolding finds
    begun =
        record {
          whole = refl;
          found = ap (λ (ys : List Cert). ys ++ take (a.room - length ys) (cut a.low a.high v.certs)) h.found;
          left = seen.left;
        }

  -- the kids of a node are nodes of one kind lower
  below : {k : ℕ} {e : Place} (v : View) (level : ℕ) (above : List ℕ) → Node n t k e → show n t e ≡ some v
      → v.kind ≤ suc level → AllHigher n t v.kind above
      → ((j : ℕ) (d : Place) (u : View) (above : List ℕ) → Node n t j d → show n t d ≡ some u → u.kind ≤ level
      → AllHigher n t u.kind above → Gathers level above d)
      → (d : Place) → Memᴰ d (kids e v) → Gathers level (e.child ∷ above) d
  below {k} {e} v level above node shows low higher ih d m =
      let y = kid-node v d node shows m in
      let z = p.good.whole y.1 in
      let l = kid-kind n t e v shows d.low d y.0 z.view z.shows in
      ih d.low d z.view (e.child ∷ above) y.1 z.shows (omega (arith, l))
      (more_higher above v z.view.kind node shows (omega (arith, l)) higher)

  gathers : (level k : ℕ) (e : Place) (v : View) (above : List ℕ) → Node n t k e → show n t e ≡ some v
      → v.kind ≤ level → AllHigher n t v.kind above → Gathers level above e
  gathers zero k e v above node shows low higher xs w h = absurd (omega (arith, (shown-kind n t e v shows).0))
  gathers (suc level) k e v above node shows low higher xs w h =
      go (enters a e w) refl (below v level above node shows low higher (gathers level))
    where
      r : Seen n c t v (enter n c above w.table e)
      r = seen v node shows above higher xs w h

      Goal : Type 0
      Goal = Walking (gather a xs (tree (suc level) n t e).certs) (walk (suc level) n c a above e w)

      by : Past a e w.found → gather a xs (tree (suc level) n t e).certs ≡ xs
      by (no_room_lem z) = gather_full a xs (tree (suc level) n t e).certs (omega (arith, z, ap length h.found))
      by (beside z) =
          gather_beside a xs e.low e.high (tree (suc level) n t e).certs
          (orders p.good (suc level) k e v node shows low).within z

      go : (b : Bool) → enters a e w ≡ b → ((d : Place) → Memᴰ d (kids e v) → Gathers level (e.child ∷ above) d) → Goal
      go false q ih =
          subst (λ (ys : List Cert). Walking ys (walk (suc level) n c a above e w)) (sym (by (past a e w h.whole q)))
          (subst (Walking xs) (sym (walk-past level n c a above e w q)) h)
      go true q ih =
          subst (λ (ys : List Cert). Walking ys (walk (suc level) n c a above e w))
          (gather_append a xs v.certs (tree_each (tree level n t) (kids e v)).certs
          ∙ ap (gather a xs) (sym (certs-here p.good level e v shows)))
          (subst (Walking (gather a (gather a xs v.certs) (tree_each (tree level n t) (kids e v)).certs))
          (sym (walk-entered level n c a above e w q r.page r.given))
          (subst (λ (u : View). Walking (gather a (gather a xs v.certs) (tree_each (tree level n t) (kids e v)).certs)
          (walk_each (walk level n c a (e.child ∷ above)) (kids e u) (finds a u (noted n e w) (enter n c above w.table e).table))) (sym r.view)
          (each level (e.child ∷ above) (kids e v) ih (gather a xs v.certs)
          (finds a v (noted n e w) (enter n c above w.table e).table) (begun v node shows above higher xs w h))))

  -- the whole tree
  pub walk_gathers : Walking (gather a [] (tree_of n t).certs) (walk_of n c a t)
  unfolding walk_of tree_of
  walk_gathers =
      let x = node-root n t 0 (omega arith) in
      let z = p.good.whole x in
      let l = shown-kind n t (root_place t) z.view z.shows in
      gathers top_kind 0 (root_place t) z.view [] x z.shows l.1 (none_higher n t z.view.kind) []
      (unwalked t) (record { whole = refl; found = refl; left = shows_itself p })
