-- One climb is a step of the walk: the walk from a place goes on behind the leaf of the range's first key as if it had
-- begun there, with what the leaf gave and what the climb mended; or it stops where the climb met damage. Assumes nothing.
use Prim.Native.Nat.{ℕ, zero, suc, ◌+◌, ◌≤◌, ◌<◌}
use native.Mathlib.Omega.{arith}
use mathlib.Core.Path.{◌≡◌, refl, sym, ap, ◌∙◌, subst}
use mathlib.Core.Bool.{Bool, true, false}
use mathlib.Core.List.Memᴰ
use mathlib.Core.List.{List, [], ◌∷◌, Memᴰ}
use mathlib.Core.Option.{Option, some, none, some-injective, none-ne-some}
use borrow.Author.Tests.{lt-ltb}
use Rattle.rules.specs.Layout.{top_kind, last_key}
use Rattle.rules.specs.Page.{Page, is_leaf}
use Rattle.rules.specs.Table.{read}
use Rattle.rules.specs.Place.{root_place, kids, pick}
use Rattle.rules.specs.Enter.{Entered, enter}
use Rattle.rules.specs.Walk.{Step, Way, numbers, descend, way_of, descend_report, way_report, Walked, reporting, enters, finds, stops, walk_each, walk, noted}
use Rattle.rules.specs.declared.Asked.{Asked}
use Rattle.rules.specs.declared.Place.{Place}
use Rattle.rules.specs.declared.Report.{Report}
use Rattle.rules.proofs.Entries.Tests.{fails, not_both, mem-head}
use Rattle.rules.proofs.Entries.Views.{Shaped, shaped-read}
use Rattle.rules.proofs.Entries.Places.{Fits}
use Rattle.rules.proofs.Entries.Asks.{kids-leaf, kids-mem, kids-within, pick-leaf}
use Rattle.rules.proofs.Demand1.WalkSteps.{enter-apart, descend-damaged, descend-ends, descend-below, report-damaged, report-ends, report-below, walk-past, walk-damaged, walk-entered}
use Rattle.way.proofs.Stood.{Ready, ready-next, leaf-here, Stood, stood-here}
use Rattle.climbs.specs.Rest.{rest}
use Rattle.climbs.specs.After.{after}
use Rattle.climbs.specs.Ground.{Ground, Asks}
use Rattle.climbs.proofs.Steps.{enters-of, enters_not, moved, stops-told, finds-told, finds-none, enter-standing, adds-standing, walk_skips, walk-stopped, each_append, each_past, each_same}
use Rattle.climbs.proofs.Order.{Around, around_mem, behind-mem, kids_around}
use Rattle.climbs.proofs.Alike.{Alike, walk-alike}
use Rattle.climbs.proofs.Ground.{descend-stays, stays-read, root-ready, way-root}

-- ── What is asked for behind a leaf ─────────────────────────────────────────────────────────────────────────────

-- the same as before, from there on
after-alike : (end from : ℕ) (a : Asked) → a.low ≤ end → end < from → Alike from a (after end a)
unfolding after
after-alike end from a l h = record {
  low = omega arith;
  low' = omega arith;
  high = refl;
  room = λ q. ap (λ (b : Bool). elim b [ true ↦ a.room | false ↦ 0 ]) (sym (lt-ltb end a.high (omega arith)));
}

-- ── The places of a page ────────────────────────────────────────────────────────────────────────────────────────

module _ (n c : ℕ) (a : Asked) (above : List ℕ) where
  -- a walk comes to the place of a key that nothing is asked for below
  each_comes : (level : ℕ) {k : ℕ} {es : List Place} {d : Place} (y : Around k es d) (w : Walked) → 1 ≤ level → k ≤ a.low
      → walk_each (walk level n c a above) es w ≡ walk_each (walk level n c a above) y.behind (walk level n c a above d w)
  unfolding walk_each
  each_comes level {d = d} y w l o =
      let f = walk level n c a above in
      ap (λ (es : List Place). walk_each f es w) y.are
      ∙ (each_append f y.before (d ∷ y.behind) w
      ∙ ap (walk_each f (d ∷ y.behind))
      (each_past f y.before w
      (λ b m. walk_skips level n c a above b w l (enters_not a b w (λ i. omega (arith, i.to, y.below b m))))))

  -- below the last level nothing can stand
  each_deep : (d : Place) (es : List Place) (w : Walked) → Memᴰ d es → walk_each (walk 0 n c a above) es w ≡ stops w w.table
  unfolding walk_each walk
  each_deep d [] w m = absurd (Memᴰ.not-nil m)
  each_deep d (e ∷ es) w m =
      each_past (walk 0 n c a above) es (stops w w.table) (λ b k. walk-stopped 0 n c a above b w w.table)

  -- where the walk of the key's place stops, the walk of all stops
  each_stops : (level : ℕ) {es : List Place} {d : Place} → Around a.low es d → (w v : Walked) (t : List ℕ)
      → walk level n c a above d w ≡ stops v t → walk_each (walk level n c a above) es w ≡ stops v t
  unfolding walk
  each_stops zero {es} {d} y w v t h = each_deep d es w (around_mem y) ∙ h
  each_stops (suc level) {es} {d} y w v t h =
      let f = walk (suc level) n c a above in
      each_comes (suc level) y w (omega arith) (omega arith)
      ∙ (ap (walk_each f y.behind) h
      ∙ each_past f y.behind (stops v t) (λ b m. walk-stopped (suc level) n c a above b v t))

-- ── A page entered on the way ───────────────────────────────────────────────────────────────────────────────────

-- a walk and a climb for the first key of the range stand before one place
module _ (level n c : ℕ) (a : Asked) (above : List Step) (e : Place) (w : Walked) (r : Ready n c a.low w.table e) (x : Asks a w) where
  abbrev entered : Entered
  entered = enter n c (numbers above) w.table e

  enters-here : enters a e w ≡ true
  enters-here = enters-of a e w record { whole = x.whole; room = x.room; from = omega (arith, r.low, x.low); to = r.high }

  module _ (p : Page) (h : entered.page ≡ some p) where
    here : Stood n a.low entered.table (record { place = e; page = p })
    here = stood-here r (numbers above) p h

    shaped : Shaped p.view
    shaped = subst (λ (q : Page). Shaped q.view) here.here (shaped-read entered.table e.child)

    leaf_kids : pick a.low (kids e p.view) ≡ none → kids e p.view ≡ []
    leaf_kids q = kids-leaf e p.view shaped (leaf-here r (numbers above) p h q)

    module _ (d : Place) (q : pick a.low (kids e p.view) ≡ some d) where
      abbrev up : List Step
      up = record { place = e; page = p } ∷ above

      around : Around a.low (kids e p.view) d
      around = kids_around a.low e here.fits.sound d q

      no_certs : p.view.certs ≡ []
      no_certs =
          shaped.inner
          (fails (is_leaf p.view) (λ l. none-ne-some d (sym (pick-leaf a.low e p.view shaped l) ∙ q)))

      walk_here : walk (suc level) n c a (numbers above) e w
          ≡ walk_each (walk level n c a (numbers up)) (kids e p.view) (moved (noted n e w) entered.table)
      unfolding numbers
      walk_here =
          walk-entered level n c a (numbers above) e w enters-here p h
          ∙ ap (walk_each (walk level n c a (e.child ∷ numbers above)) (kids e p.view))
          (finds-none a p.view (noted n e w) entered.table no_certs x.whole)

      ready-below : Ready n c a.low entered.table d
      ready-below = ready-next r (numbers above) p h d q

      asks-below : Asks a (moved (noted n e w) entered.table)
      asks-below = record { low = x.low; high = x.high; whole = x.whole; room = x.room }

      way-here : descend (suc level) n c a.low above w.table e ≡ descend level n c a.low up entered.table d
      way-here = descend-below level n c a.low above w.table e p h d q

      told_here : descend_report (suc level) n c a.low above w.table e w.report
          ≡ descend_report level n c a.low up entered.table d (noted n e w).report
      told_here = report-below level n c a.low above w.table e p h w.report d q

-- with what the climb from a place down mends
abbrev told : ℕ → ℕ → ℕ → Asked → List Step → Place → Walked → Walked
told level n c a above e w = reporting (descend_report level n c a.low above w.table e w.report) w

-- ── Damage ──────────────────────────────────────────────────────────────────────────────────────────────────────

climb_stops : (level n c : ℕ) (a : Asked) (above : List Step) (e : Place) (w : Walked) → Ready n c a.low w.table e → Asks a w
    → (descend level n c a.low above w.table e).steps ≡ none
    → walk level n c a (numbers above) e w ≡ stops (told level n c a above e w) (descend level n c a.low above w.table e).table
unfolding descend descend_report walk stops
climb_stops zero n c a above e w r x o = refl
climb_stops (suc level) n c a above e w r x o =
    found t.page refl (λ ss d v. climb_stops level n c a ss d v)
  where
    t : Entered
    t = enter n c (numbers above) w.table e

    Rest : Type 0
    Rest = (ss : List Step) (d : Place) (v : Walked) → Ready n c a.low v.table d → Asks a v
        → (descend level n c a.low ss v.table d).steps ≡ none
        → walk level n c a (numbers ss) d v ≡ stops (told level n c a ss d v) (descend level n c a.low ss v.table d).table

    below : (p : Page) → t.page ≡ some p → (i : Option Place) → pick a.low (kids e p.view) ≡ i → Rest
        → walk (suc level) n c a (numbers above) e w
        ≡ stops (told (suc level) n c a above e w) (descend (suc level) n c a.low above w.table e).table
    below p h none q ih =
        absurd (none-ne-some (record { place = e; page = p } ∷ above)
        (sym o ∙ ap (λ (y : Way). y.steps) (descend-ends level n c a.low above w.table e p h q)))
    below p h (some d) q ih =
        let ss : List Step = record { place = e; page = p } ∷ above in
        let v : Walked = moved (noted n e w) t.table in
        let f = way-here level n c a above e w r x p h d q in
        let z = ih ss d v (ready-below level n c a above e w r x p h d q) (asks-below level n c a above e w r x p h d q)
        (sym (ap (λ (y : Way). y.steps) f) ∙ o) in
        walk_here level n c a above e w r x p h d q
        ∙ (each_stops n c a (numbers ss) level (around level n c a above e w r x p h d q) v
        (told level n c a ss d v) (descend level n c a.low ss t.table d).table z
        ∙ stops-told w (sym (told_here level n c a above e w r x p h d q)) (ap (λ (y : Way). y.table) (sym f)))

    found : (i : Option Page) → t.page ≡ i → Rest
        → walk (suc level) n c a (numbers above) e w
        ≡ stops (told (suc level) n c a above e w) (descend (suc level) n c a.low above w.table e).table
    found none h ih =
        walk-damaged level n c a (numbers above) e w (enters-here level n c a above e w r x) h
        ∙ stops-told w (sym (report-damaged level n c a.low above w.table e w.report h))
        (ap (λ (y : Way). y.table) (sym (descend-damaged level n c a.low above w.table e h)))
    found (some p) h ih = below p h (pick a.low (kids e p.view)) refl ih

-- ── A leaf ──────────────────────────────────────────────────────────────────────────────────────────────────────

-- the leaf ends in the place's range, and the walk goes on behind it
record Passed (level n c : ℕ) (a : Asked) (above : List Step) (e : Place) (w : Walked) (leaf : Step) : Type 0 where
  from : a.low ≤ leaf.place.high
  to : leaf.place.high ≤ e.high
  same : walk level n c a (numbers above) e w
      ≡ walk level n c (after leaf.place.high a) (numbers above) e
      (finds a leaf.page.view (told level n c a above e w) (descend level n c a.low above w.table e).table)

-- a walk that is asked for nothing in a place's range passes it by
walk-behind : (level n c end : ℕ) (a : Asked) (above : List ℕ) (e : Place) (w : Walked) → e.high ≤ end
    → walk (suc level) n c (after end a) above e w ≡ w
unfolding after
walk-behind level n c end a above e w h =
    walk-past level n c (after end a) above e w (enters_not (after end a) e w (λ i. omega (arith, i.to)))

module _ (level n c : ℕ) (a : Asked) (above : List Step) (e : Place) (w : Walked) (r : Ready n c a.low w.table e) (x : Asks a w)
    (p : Page) (h : (enter n c (numbers above) w.table e).page ≡ some p) where
  -- the leaf is here
  passed_here : pick a.low (kids e p.view) ≡ none → Passed (suc level) n c a above e w (record { place = e; page = p })
  unfolding walk_each
  passed_here q =
      let t = (enter n c (numbers above) w.table e).table in
      let v = finds a p.view (noted n e w) t in
      let k : walk_each (walk level n c a (e.child ∷ numbers above)) (kids e p.view) v ≡ v
      = ap (λ (es : List Place). walk_each (walk level n c a (e.child ∷ numbers above)) es v) (leaf_kids level n c a above e w r x p h q) in
      let f = descend-ends level n c a.low above w.table e p h q in
      record {
        from = r.high;
        to = omega arith;
        same = walk-entered level n c a (numbers above) e w (enters-here level n c a above e w r x) p h
            ∙ (k
            ∙ (sym (walk-behind level n c e.high a (numbers above) e v (omega arith))
            ∙ ap (walk (suc level) n c (after e.high a) (numbers above) e)
            (finds-told a p.view w (sym (report-ends level n c a.low above w.table e p h w.report q))
            (ap (λ (y : Way). y.table) (sym f)))));
      }

  -- it is below
  module _ (d : Place) (q : pick a.low (kids e p.view) ≡ some d) (l : 1 ≤ level) (leaf : Step) where
    abbrev below : List Step
    below = record { place = e; page = p } ∷ above

    abbrev left : List ℕ
    left = (enter n c (numbers above) w.table e).table

    abbrev way : Way
    way = descend level n c a.low below left d

    abbrev next : Asked
    next = after leaf.place.high a

    abbrev come : Walked
    come = moved (noted n e w) left

    abbrev gone : Walked
    gone = finds a leaf.page.view (told level n c a below d come) way.table

    kid_around : Around a.low (kids e p.view) d
    kid_around = around level n c a above e w r x p h d q

    module _ (ih : Passed level n c a below d come leaf) where
      stood : Stood n a.low left (record { place = e; page = p })
      stood = here level n c a above e w r x p h

      within : (b : Place) → Memᴰ b (kids e p.view) → (e.low ≤ b.low) × (b.high ≤ e.high) × (b.low ≤ b.high)
      within b m =
          let z = kids-mem e stood.fits.sound b m in
          let y = kids-within e stood.fits.sound b z in
          (y.0, y.1, z.range)

      -- behind the leaf both ranges are walked alike
      goes_on : walk (suc level) n c a (numbers above) e w
          ≡ walk_each (walk level n c next (numbers below)) kid_around.behind (walk level n c next (numbers below) d gone)
      unfolding finds
      goes_on =
          let f = walk level n c a (numbers below) in
          let g = walk level n c next (numbers below) in
          walk_here level n c a above e w r x p h d q
          ∙ (each_comes n c a (numbers below) level kid_around come l (omega arith)
          ∙ (ap (walk_each f kid_around.behind) ih.same
          ∙ each_same f g kid_around.behind (g d gone)
          (λ b v m.
          walk-alike level n c (after-alike leaf.place.high (leaf.place.high + 1) a ih.from (omega arith)) (numbers below) b v
          (omega (arith, ih.to, kid_around.above b m)) (within b (behind-mem kid_around b m)).2)))

      -- the page is entered again as it stands
      there : read way.table e.child ≡ p
      unfolding numbers
      there =
          stays-read (descend-stays level n c a.low below left d (ready-below level n c a above e w r x p h d q)) e.child
          (mem-head e.child (numbers above)) ∙ stood.here

      again : enter n c (numbers above) way.table e ≡ record { table = way.table; page = some p }
      again =
          enter-standing n c (numbers above) way.table e p (enter-apart n c (numbers above) w.table e p h) there stood.fits

      -- and nothing is mended
      as_told : noted n e gone ≡ gone
      unfolding finds
      as_told =
          ap (λ (y : Report). reporting y gone)
          (adds-standing n way.table e gone.report (subst (Fits n e) (sym there) stood.fits))

      comes_back : enters next e gone ≡ true
          → walk (suc level) n c next (numbers above) e gone
          ≡ walk_each (walk level n c next (numbers below)) kid_around.behind (walk level n c next (numbers below) d gone)
      unfolding finds numbers after
      comes_back o =
          let f = walk level n c next (numbers below) in
          walk-entered level n c next (numbers above) e gone o p (ap (λ (y : Entered). y.page) again)
          ∙ (ap (λ (y : Entered). walk_each f (kids e p.view) (finds next p.view (noted n e gone) y.table)) again
          ∙ (ap (walk_each f (kids e p.view))
          (finds-none next p.view (noted n e gone) way.table (no_certs level n c a above e w r x p h d q) refl ∙ as_told)
          ∙ each_comes n c next (numbers below) level kid_around gone l (omega (arith, ih.from))))

      -- a kid is entered only where the page is
      passes_by : enters next e gone ≡ false → (b : Place) → Memᴰ b (kids e p.view)
          → walk level n c next (numbers below) b gone ≡ gone
      passes_by o b m =
          let y = within b m in
          walk_skips level n c next (numbers below) b gone l
          (enters_not next b gone (λ i.
          not_both (enters-of next e gone record {
            whole = i.whole;
            room = i.room;
            from = omega (arith, i.from, y.0);
            to = omega (arith, i.to, y.1);
          }) o))

      ends-alike : walk_each (walk level n c next (numbers below)) kid_around.behind (walk level n c next (numbers below) d gone)
          ≡ walk (suc level) n c next (numbers above) e gone
      ends-alike = go (enters next e gone) refl
        where
          go : (o : Bool) → enters next e gone ≡ o
              → walk_each (walk level n c next (numbers below)) kid_around.behind (walk level n c next (numbers below) d gone)
              ≡ walk (suc level) n c next (numbers above) e gone
          go true o = sym (comes_back o)
          go false o =
              let f = walk level n c next (numbers below) in
              ap (walk_each f kid_around.behind) (passes_by o d (around_mem kid_around))
              ∙ (each_past f kid_around.behind gone (λ b m. passes_by o b (behind-mem kid_around b m))
              ∙ sym (walk-past level n c next (numbers above) e gone o))

      passed-below : Passed (suc level) n c a above e w leaf
      unfolding finds
      passed-below = record {
        from = ih.from;
        to = omega (arith, ih.to, (within d (around_mem kid_around)).1);
        same = goes_on
            ∙ (ends-alike
            ∙ ap (walk (suc level) n c next (numbers above) e)
            (finds-told a leaf.page.view w (sym (told_here level n c a above e w r x p h d q))
            (ap (λ (y : Way). y.table) (sym (way-here level n c a above e w r x p h d q)))));
      }

-- a leaf is found on no level 0
some_level : (level n c k : ℕ) (above : List Step) (t : List ℕ) (e : Place) (ss : List Step) → (descend level n c k above t e).steps ≡ some ss → 1 ≤ level
unfolding descend
some_level zero n c k above t e ss h = absurd (none-ne-some ss h)
some_level (suc level) n c k above t e ss h = omega arith

climb_passes : (level n c : ℕ) (a : Asked) (above : List Step) (e : Place) (w : Walked) → Ready n c a.low w.table e → Asks a w
    → (leaf : Step) (ss : List Step) → (descend level n c a.low above w.table e).steps ≡ some (leaf ∷ ss)
    → Passed level n c a above e w leaf
climb_passes zero n c a above e w r x leaf ss o =
    absurd (let z = some_level 0 n c a.low above w.table e (leaf ∷ ss) o in omega arith)
climb_passes (suc level) n c a above e w r x leaf ss o =
    found t.page refl (λ us d v. climb_passes level n c a us d v)
  where
    t : Entered
    t = enter n c (numbers above) w.table e

    Rest : Type 0
    Rest = (us : List Step) (d : Place) (v : Walked) → Ready n c a.low v.table d → Asks a v
        → (leaf : Step) (ss : List Step) → (descend level n c a.low us v.table d).steps ≡ some (leaf ∷ ss)
        → Passed level n c a us d v leaf

    below : (p : Page) → t.page ≡ some p → (i : Option Place) → pick a.low (kids e p.view) ≡ i → Rest
        → Passed (suc level) n c a above e w leaf
    below p h none q ih =
        let f = sym (ap (λ (y : Way). y.steps) (descend-ends level n c a.low above w.table e p h q)) ∙ o in
        let g : record { place = e; page = p } ≡ leaf = first (some-injective (record { place = e; page = p } ∷ above) (leaf ∷ ss) f) in
        subst (Passed (suc level) n c a above e w) g (passed_here level n c a above e w r x p h q)
      where
        first : {s u : Step} {xs ys : List Step} → ◌≡◌ {A = List Step} (s ∷ xs) (u ∷ ys) → s ≡ u
        first z = cc
    below p h (some d) q ih =
        let us : List Step = record { place = e; page = p } ∷ above in
        let f = sym (ap (λ (y : Way). y.steps) (way-here level n c a above e w r x p h d q)) ∙ o in
        passed-below level n c a above e w r x p h d q
        (some_level level n c a.low us t.table d (leaf ∷ ss) f) leaf
        (ih us d (moved (noted n e w) t.table) (ready-below level n c a above e w r x p h d q) (asks-below level n c a above e w r x p h d q) leaf ss f)

    found : (i : Option Page) → t.page ≡ i → Rest → Passed (suc level) n c a above e w leaf
    found none h ih =
        absurd (none-ne-some (leaf ∷ ss)
        (sym (ap (λ (y : Way). y.steps) (descend-damaged level n c a.low above w.table e h)) ∙ o))
    found (some p) h ih = below p h (pick a.low (kids e p.view)) refl ih

-- ── From the root ───────────────────────────────────────────────────────────────────────────────────────────────

module _ {n c : ℕ} {a : Asked} {w : Walked} (g : Ground n c w.table) (x : Asks a w) where
  -- with what the way of the range's first key mends
  abbrev climbed : Walked
  climbed = reporting (way_report n c a.low w.table w.report) w

  first_key : a.low ≤ last_key
  first_key = omega (arith, x.low, x.high)

  pub climb_leaf : (leaf : Step) (above : List Step) → (way_of n c a.low w.table).steps ≡ some (leaf ∷ above)
      → rest n c a w
      ≡ rest n c (after leaf.place.high a) (finds a leaf.page.view climbed (way_of n c a.low w.table).table)
  unfolding rest way_of way_report finds numbers
  climb_leaf leaf above o =
      let y = climb_passes top_kind n c a [] (root_place w.table) w (root-ready g a.low first_key) x leaf above o in
      let u = (way_of n c a.low w.table).table in
      y.same
      ∙ ap (λ (e : Place). walk top_kind n c (after leaf.place.high a) [] e (finds a leaf.page.view climbed u))
      (sym (way-root g a.low first_key))

  pub climb_damaged : (way_of n c a.low w.table).steps ≡ none
      → rest n c a w ≡ stops climbed (way_of n c a.low w.table).table
  unfolding rest way_of way_report numbers
  climb_damaged o = climb_stops top_kind n c a [] (root_place w.table) w (root-ready g a.low first_key) x o
