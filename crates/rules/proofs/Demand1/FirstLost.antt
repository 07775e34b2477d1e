-- On the way of one key the reason reported is that of the first lost place, read off the table as it is before the call.
-- Assumes nothing.
use Rattle.std.proofs.Common.{◌≡◌, ℕ, zero, suc, Bool, true, false, List, [], ◌∷◌, refl, ap, ◌∙◌, None, is_none}
use mathlib.Core.Option.{Option, some, none}
use Rattle.rules.specs.Layout.{top_kind}
use Rattle.rules.specs.Test.{mem}
use Rattle.rules.specs.Key.{key_of, good_parts}
use Rattle.rules.specs.Page.{Page}
use Rattle.rules.specs.Table.{read, fit0}
use Rattle.rules.specs.Place.{root_place, kids, pick, fits, mendable, mended, Why}
use Rattle.rules.specs.Enter.{mend, enter}
use Rattle.rules.specs.Report.{nothing, adds, reason_at}
use Rattle.rules.specs.Walk.{Step, numbers, descend_report, way_report}
use Rattle.rules.specs.Call.{lengths_for}
use Rattle.rules.specs.Reports.{key_report}
use Rattle.rules.specs.declared.Session.{Session}
use Rattle.rules.specs.declared.Place.{Place}
use Rattle.rules.specs.declared.Report.{Report}
use Rattle.rules.proofs.Entries.Reasons.{reason-some, adds-fits, adds-stays, adds-first}
use Rattle.rules.proofs.Demand1.WalkSteps.{enter-fits, report-damaged, report-ends, report-below}
use Rattle.rules.proofs.Demand1.Tested.{tested-done}

-- ── Words ───────────────────────────────────────────────────────────────────────────────────────────────────────

-- from a place down the way of a key, over pages that fit: the first place whose page does not. above are the numbers of
-- the pages above. No table but t is read, and no time is asked for
unfoldable pub lost_from : ℕ → ℕ → ℕ → List ℕ → List ℕ → Place → Option Place
lost_from zero n k above t e = none
lost_from (suc level) n k above t e =
    elim (mem e.child above) [
      | true ↦ none
      | false ↦ elim (fits n e (read t e.child)) [
        | false ↦ some e
        | true ↦ elim (pick k (kids e (read t e.child).view))
            [ none ↦ none | some d ↦ lost_from level n k (e.child ∷ above) t d ]
      ]
    ]

unfoldable pub first_lost : ℕ → ℕ → List ℕ → Option Place
first_lost n k t = lost_from top_kind n k [] t (root_place t)

-- why that place is mended: no reason if it is damaged, or if none is lost
unfoldable pub why_mended : ℕ → List ℕ → Option Place → Why
why_mended n t none = None
why_mended n t (some e) =
    elim (mendable n e (read t e.previous)) [ true ↦ reason_at n t e | false ↦ None ]

-- ── The first reason stays ──────────────────────────────────────────────────────────────────────────────────────

reason_kept : (level n c k : ℕ) (above : List Step) (t : List ℕ) (e : Place) (x : Report) → is_none x.reason ≡ false
    → (descend_report level n c k above t e x).reason ≡ x.reason
unfolding descend_report
reason_kept zero n c k above t e x f = refl
reason_kept (suc level) n c k above t e x f =
    found (enter n c (numbers above) t e).page refl
    (λ steps u d. reason_kept level n c k steps u d (adds (reason_at n t e) x) (ap is_none stays ∙ f))
  where
    stays : (adds (reason_at n t e) x).reason ≡ x.reason
    stays = adds-stays (reason_at n t e) x f

    Rest : Type 0
    Rest = (steps : List Step) (u : List ℕ) (d : Place)
        → (descend_report level n c k steps u d (adds (reason_at n t e) x)).reason ≡ (adds (reason_at n t e) x).reason

    below : (p : Page) → (enter n c (numbers above) t e).page ≡ some p → (o : Option Place) → pick k (kids e p.view) ≡ o
        → Rest → (descend_report (suc level) n c k above t e x).reason ≡ x.reason
    below p h none q ih = rw (descend_report, h, q) stays
    below p h (some d) q ih =
        rw (descend_report, h, q)
        (ih (record { place = e; page = p } ∷ above) (enter n c (numbers above) t e).table d ∙ stays)

    found : (o : Option Page) → (enter n c (numbers above) t e).page ≡ o → Rest
        → (descend_report (suc level) n c k above t e x).reason ≡ x.reason
    found none h ih = rw (descend_report, h)
    found (some p) h ih = below p h (pick k (kids e p.view)) refl ih

-- ── One step ────────────────────────────────────────────────────────────────────────────────────────────────────

abbrev reason_of : Report → Why
reason_of x = x.reason

module _ (level n c k : ℕ) (above : List Step) (t : List ℕ) (e : Place) where
  abbrev told : Why
  told = (descend_report (suc level) n c k above t e nothing).reason

  abbrev read_off : Why
  read_off = why_mended n t (lost_from (suc level) n k (numbers above) t e)

  -- a damaged place names no reason
  at_damage : (enter n c (numbers above) t e).page ≡ none → told ≡ None
  unfolding nothing
  at_damage h = ap reason_of (report-damaged level n c k above t e nothing h)

  -- the page is mended: its reason is the first
  at-mend : (p : Page) → (enter n c (numbers above) t e).page ≡ some p → fits n e (read t e.child) ≡ false → told ≡ reason_at n t e
  at-mend p h f = go (pick k (kids e p.view)) refl
    where
      some-reason : is_none (adds (reason_at n t e) nothing).reason ≡ false
      some-reason = ap is_none (adds-first (reason_at n t e)) ∙ reason-some n t e f

      go : (o : Option Place) → pick k (kids e p.view) ≡ o → told ≡ reason_at n t e
      go none q = ap reason_of (report-ends level n c k above t e p h nothing q) ∙ adds-first (reason_at n t e)
      go (some d) q =
          ap reason_of (report-below level n c k above t e p h nothing d q)
          ∙ (reason_kept level n c k (record { place = e; page = p } ∷ above) (enter n c (numbers above) t e).table d
          (adds (reason_at n t e) nothing) some-reason
          ∙ adds-first (reason_at n t e))

  -- the page fits: the way goes on in the same table, and there is nothing to report so far
  at-fit : mem e.child (numbers above) ≡ false → fits n e (read t e.child) ≡ true
      → ((steps : List Step) (d : Place)
      → (descend_report level n c k steps t d nothing).reason ≡ why_mended n t (lost_from level n k (numbers steps) t d))
      → told ≡ read_off
  unfolding enter lost_from why_mended numbers nothing
  at-fit m f ih = go (pick k (kids e (read t e.child).view)) refl
    where
      here : (enter n c (numbers above) t e).page ≡ some (read t e.child)
      here = rw (enter, m, f)

      go : (o : Option Place) → pick k (kids e (read t e.child).view) ≡ o → told ≡ read_off
      go none q =
          ap reason_of (report-ends level n c k above t e (read t e.child) here nothing q ∙ adds-fits n t e nothing f)
          ∙ rw (lost_from, m, f, q)
      go (some d) q =
          ap reason_of (report-below level n c k above t e (read t e.child) here nothing d q)
          ∙ rw (enter-fits n c (numbers above) t e f, adds-fits n t e nothing f, lost_from, m, f, q)
          (ih (record { place = e; page = read t e.child } ∷ above) d)

-- ── The whole way ───────────────────────────────────────────────────────────────────────────────────────────────

descend-reason : (level n c k : ℕ) (above : List Step) (t : List ℕ) (e : Place)
    → (descend_report level n c k above t e nothing).reason ≡ why_mended n t (lost_from level n k (numbers above) t e)
unfolding descend_report lost_from why_mended enter mend nothing
descend-reason zero n c k above t e = refl
descend-reason (suc level) n c k above t e =
    go (mem e.child (numbers above)) refl (fits n e (read t e.child)) refl (mendable n e (read t e.previous)) refl
    (λ steps d. descend-reason level n c k steps t d)
  where
    go : (a : Bool) → mem e.child (numbers above) ≡ a → (b : Bool) → fits n e (read t e.child) ≡ b
        → (g : Bool) → mendable n e (read t e.previous) ≡ g
        → ((steps : List Step) (d : Place)
        → (descend_report level n c k steps t d nothing).reason ≡ why_mended n t (lost_from level n k (numbers steps) t d))
        → (descend_report (suc level) n c k above t e nothing).reason ≡ why_mended n t (lost_from (suc level) n k (numbers above) t e)
    go true m b f g h ih = at_damage level n c k above t e (rw (enter, m)) ∙ rw (lost_from, m)
    go false m true f g h ih = at-fit level n c k above t e m f ih
    go false m false f true h ih =
        at-mend level n c k above t e (mended c e (read t e.previous)) (rw (enter, m, f, mend, h)) f
        ∙ rw (lost_from, m, f, why_mended, h)
    go false m false f false h ih =
        at_damage level n c k above t e (rw (enter, m, f, mend, h)) ∙ rw (lost_from, m, f, why_mended, h)

pub way-reason : (n c k : ℕ) (t : List ℕ) → (way_report n c k t nothing).reason ≡ why_mended n t (first_lost n k t)
unfolding way_report first_lost numbers
way-reason n c k t = descend-reason top_kind n c k [] t (root_place t)

-- ── Lookup and insert ───────────────────────────────────────────────────────────────────────────────────────────

-- once lengths, key and page 0 are tested
pub key-reason : (w t : List ℕ) (s : Session) (model serial issue : ℕ)
    → lengths_for s w t ≡ true → good_parts model serial issue ≡ true → fit0 s.n w ≡ true
    → (key_report w t s model serial issue).reason ≡ why_mended s.n w (first_lost s.n (key_of model serial issue) w)
unfolding key_report
key-reason w t s model serial issue l g f =
    let k = key_of model serial issue in
    ap reason_of (tested-done s w t (good_parts model serial issue) (way_report s.n s.c k w nothing) l g f)
    ∙ way-reason s.n s.c k w
