-- Going on from kept pages is climbing from the root: for every table, every key and whatever pages are kept of it, the
-- way is the same, in table, steps, damage and report. Assumes nothing.
use Prim.Native.Nat.{ℕ, suc, ◌+◌, ◌-◌, ◌≤◌}
use native.Mathlib.Omega.{arith}
use mathlib.Core.Path.{◌≡◌, refl, sym, ap, ◌∙◌}
use mathlib.Core.Bool.{Bool, true, false}
use mathlib.Core.List.{List, [], ◌∷◌}
use mathlib.Core.Option.{Option, some, none}
use lib.ListN.{length}
use Rattle.rules.specs.Layout.{top_kind}
use Rattle.rules.specs.Test.{between}
use Rattle.rules.specs.Place.{kids, pick, fits}
use Rattle.rules.specs.Enter.{Entered, enter}
use Rattle.rules.specs.Report.{Reported, adds, reason_at}
use Rattle.rules.specs.Walk.{Step, Way, numbers, descend, way_of, descend_report, way_report}
use Rattle.rules.specs.declared.Place.{Place}
use Rattle.rules.specs.declared.Report.{Report}
use Rattle.rules.proofs.Entries.Tests.{between-low, between-high}
use Rattle.rules.proofs.Entries.Places.{fits_true}
use Rattle.rules.proofs.Entries.Reasons.{adds-fits}
use Rattle.rules.proofs.Entries.Asks.{kids-pick, kids-same, kids-within}
use Rattle.rules.proofs.Demand1.WalkSteps as walks
use Rattle.climbs.proofs.Steps.{enter-standing}
use Rattle.leaves.specs.Kept.{KeptStep, KeptSteps, holding, way_reported, descend_reported, resume}

-- ── One kept page ───────────────────────────────────────────────────────────────────────────────────────────────

-- entering it finds it and changes nothing
pub enter-kept : (n c : ℕ) (t : List ℕ) (s : Step) (above : List Step) → KeptStep n t s above
    → enter n c (numbers above) t s.place ≡ record { table = t; page = some s.page }
enter-kept n c t s above x =
    enter-standing n c (numbers above) t s.place s.page x.apart x.here (fits_true n s.place s.page x.fit)

-- it fits, so nothing is reported of it
report-kept : (n : ℕ) (t : List ℕ) (s : Step) (above : List Step) → KeptStep n t s above → (x : Report)
    → adds (reason_at n t s.place) x ≡ x
report-kept n t s above k x = adds-fits n t s.place x (ap (fits n s.place) k.here ∙ k.fit)

-- a key in its range lies in that of the page above, and leads from there to it
module _ {n k : ℕ} {t : List ℕ} {s u : Step} {above : List Step} (x : KeptStep n t s (u ∷ above)) (y : KeptStep n t u above)
    (p : s.place.low ≤ k) (q : k ≤ s.place.high) where
  pub range-above : (u.place.low ≤ k) × (k ≤ u.place.high)
  range-above =
      let f = (fits_true n u.place u.page y.fit).sound in
      let w = kids-within u.place f s.place (kids-pick u.place f s.place.low s.place x.asked) in
      (omega (arith, w.0), omega (arith, w.1))

  pub leads-here : pick k (kids u.place u.page.view) ≡ some s.place
  leads-here = kids-same u.place (fits_true n u.place u.page y.fit).sound s.place.low k s.place x.asked p q

-- ── Down to the deepest page whose range holds the key ──────────────────────────────────────────────────────────

both : {w v : Way} {x y : Report} → w ≡ v → x ≡ y
    → ◌≡◌ {A = Reported Way} (record { left = w; report = x }) (record { left = v; report = y })
both f g = cc

module _ (n c k : ℕ) (t : List ℕ) (x : Report) where
  descend_on : (level : ℕ) (s : Step) (above : List Step) → KeptStep n t s above → (d : Place)
      → pick k (kids s.place s.page.view) ≡ some d
      → descend_reported (suc level) n c k above t s.place x ≡ descend_reported level n c k (s ∷ above) t d x
  descend_on level s above y d q =
      let e = enter-kept n c t s above y in
      let p = ap (λ (z : Entered). z.page) e in
      both
      (walks.descend-below level n c k above t s.place s.page p d q
      ∙ ap (λ (z : Entered). descend level n c k (s ∷ above) z.table d) e)
      (walks.report-below level n c k above t s.place s.page p x d q
      ∙ (ap (λ (z : Entered). descend_report level n c k (s ∷ above) z.table d (adds (reason_at n t s.place) x)) e
      ∙ ap (descend_report level n c k (s ∷ above) t d) (report-kept n t s above y x)))

  descend-end : (level : ℕ) (s : Step) (above : List Step) → KeptStep n t s above → pick k (kids s.place s.page.view) ≡ none
      → descend_reported (suc level) n c k above t s.place x
      ≡ record { left = record { table = t; steps = some (s ∷ above) }; report = x }
  descend-end level s above y q =
      let e = enter-kept n c t s above y in
      let p = ap (λ (z : Entered). z.page) e in
      both
      (walks.descend-ends level n c k above t s.place s.page p q
      ∙ ap (λ (z : Entered). record { table = z.table; steps = some (s ∷ above) }) e)
      (walks.report-ends level n c k above t s.place s.page p x q ∙ report-kept n t s above y x)

  reaches : (s : Step) (above : List Step) → KeptSteps n t (s ∷ above) → s.place.low ≤ k → k ≤ s.place.high
      → (level : ℕ) → level + length above ≡ top_kind → way_reported n c k t x ≡ descend_reported level n c k above t s.place x
  unfolding way_of way_report
  reaches s [] y p q level h =
      ap (λ (e : Place). descend_reported top_kind n c k [] t e x) (sym y.0.asked)
      ∙ ap (λ (i : ℕ). descend_reported i n c k [] t s.place x) (omega (arith, h))
  reaches s (u ∷ above) y p q level h =
      let r = range-above y.0 y.1.0 p q in
      reaches u above y.1 r.0 r.1 (suc level) (omega (arith, h))
      ∙ descend_on level u above y.1.0 s.place (leads-here y.0 y.1.0 p q)

  resumes : (s : Step) (above : List Step) → KeptSteps n t (s ∷ above) → s.place.low ≤ k → k ≤ s.place.high
      → length above ≤ 2 → way_reported n c k t x ≡ resume n c k t x (s ∷ above)
  unfolding resume
  resumes s above y p q h =
      reaches s above y p q (suc (2 - length above)) (omega arith) ∙ go (pick k (kids s.place s.page.view)) refl
    where
      go : (o : Option Place) → pick k (kids s.place s.page.view) ≡ o
          → descend_reported (suc (2 - length above)) n c k above t s.place x ≡ resume n c k t x (s ∷ above)
      go none f = descend-end (2 - length above) s above y.0 f ∙ rw (f, resume)
      go (some d) f =
          let l : 2 - length above ≡ top_kind - length (s ∷ above) = omega arith in
          descend_on (2 - length above) s above y.0 d f
          ∙ rw (f, resume) (ap (λ (i : ℕ). descend_reported i n c k (s ∷ above) t d x) l)

-- ── The theorem ─────────────────────────────────────────────────────────────────────────────────────────────────

pub resumed : (n c k : ℕ) (t : List ℕ) (x : Report) (ss : List Step) → KeptSteps n t ss → length ss ≤ top_kind
    → way_reported n c k t x ≡ resume n c k t x (holding k ss)
unfolding holding resume
resumed n c k t x [] y h = refl
resumed n c k t x (s ∷ above) y h =
    go (between s.place.low s.place.high k) refl (resumed n c k t x above y.1 (omega arith))
  where
    go : (b : Bool) → between s.place.low s.place.high k ≡ b → way_reported n c k t x ≡ resume n c k t x (holding k above)
        → way_reported n c k t x ≡ resume n c k t x (holding k (s ∷ above))
    go true f ih =
        rw (f, holding)
        (resumes n c k t x s above y (between-low s.place.low s.place.high k f) (between-high s.place.low s.place.high k f) (omega arith))
    go false f ih = rw (f, holding) ih
