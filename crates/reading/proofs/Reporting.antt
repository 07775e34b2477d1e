-- A walk of one key that leaves the table as it was has mended nothing: a mended page stands to the end of the way, since no
-- page above is entered again, and it fits, which the page before it did not.
use Rattle.std.specs.Prelude.{None}
use Prim.Native.Nat.{ℕ, zero, suc, ◌*◌, ◌^◌, ◌≤◌, ◌<◌}
use mathlib.Core.Path.{◌≡◌, refl, sym, ap, ◌∙◌}
use mathlib.Core.Bool.{Bool, true, false}
use mathlib.Core.List.{List, [], ◌∷◌}
use mathlib.Core.Option.{Option, some, none}
use lib.ListN.{length}
use Rattle.fields.specs.Field.{Bytes}
use Rattle.rules.specs.Layout.{page_size, top_kind, last_key}
use Rattle.rules.specs.Test.{mem}
use Rattle.rules.specs.Key.{key_of, good_parts}
use Rattle.rules.specs.Page.{Page}
use Rattle.rules.specs.Table.{read, fit0}
use Rattle.rules.specs.Place.{root_place, kids, pick, fits, Why}
use Rattle.rules.specs.Enter.{enter}
use Rattle.rules.specs.Report.{nothing}
use Rattle.rules.specs.Walk.{Step, Way, numbers, descend, descend_report, way_of, way_report}
use Rattle.rules.specs.Call.{lengths_for}
use Rattle.rules.specs.Insert.{insert}
use Rattle.rules.specs.Lookup.{lookup}
use Rattle.rules.specs.Reports.{key_report, insert_reported, withdraw_reported, lookup_reported}
use Rattle.rules.specs.declared.Session.{Session}
use Rattle.rules.specs.declared.Place.{Place}
use Rattle.rules.specs.declared.Report.{Report}
use Rattle.rules.proofs.Entries.Tests.{not_both, mem-head, mem_tail}
use Rattle.rules.proofs.Entries.Places.{fits-of}
use Rattle.rules.proofs.Entries.Reasons.{adds-fits}
use Rattle.rules.proofs.Bytes.Lengths.{lengths_for_true}
use Rattle.rules.proofs.Demand1.WalkSteps.{enter-fits, report-damaged, report-ends, report-below, descend-ends, descend-below}
use Rattle.rules.proofs.Demand1.Tested.{tested-length, tested-key, tested-zero, tested-done}
use Rattle.rules.proofs.Demand1.Reports.{lookup-walked, lookup-quiet, insert-walked, insert-quiet}
use Rattle.rules.proofs.Demand1.Withdrawals.{withdraw-leaves}
use Rattle.way.proofs.Stood.{Ready, ready-root, ready-stays, ready-next, stood-here}
use Rattle.reading.specs.Leaving.{Typed}
use Rattle.reading.specs.Reporting.{LookupTells, InsertTells, WithdrawTells}
use Rattle.reading.proofs.Refused.{key-bound}

abbrev reason_of : Report → Why
reason_of x = x.reason

-- ── A page above stays to the end of the way ────────────────────────────────────────────────────────────────────

descend-stays : (level n c k : ℕ) (above : List Step) (t : List ℕ) (e : Place) → Ready n c k t e
    → (i : ℕ) → mem i (numbers above) ≡ true → read (descend level n c k above t e).table i ≡ read t i
unfolding descend numbers
descend-stays zero n c k above t e r i m = refl
descend-stays (suc level) n c k above t e r i m =
    found (enter n c (numbers above) t e).page refl (λ ss u d. descend-stays level n c k ss u d)
  where
    here : read (enter n c (numbers above) t e).table i ≡ read t i
    here = ready-stays r (numbers above) i m

    Rest : Type 0
    Rest = (ss : List Step) (u : List ℕ) (d : Place) → Ready n c k u d → (j : ℕ) → mem j (numbers ss) ≡ true
        → read (descend level n c k ss u d).table j ≡ read u j

    below : (p : Page) → (enter n c (numbers above) t e).page ≡ some p → (o : Option Place) → pick k (kids e p.view) ≡ o
        → Rest → read (descend (suc level) n c k above t e).table i ≡ read t i
    below p h none q ih = rw (descend, h, q) here
    below p h (some d) q ih =
        rw (descend, h, q)
        (ih (record { place = e; page = p } ∷ above) (enter n c (numbers above) t e).table d (ready-next r (numbers above) p h d q) i
        (mem_tail i e.child (numbers above) m)
        ∙ here)

    found : (o : Option Page) → (enter n c (numbers above) t e).page ≡ o → Rest
        → read (descend (suc level) n c k above t e).table i ≡ read t i
    found none h ih = rw (descend, h) here
    found (some p) h ih = below p h (pick k (kids e p.view)) refl ih

-- the page entered stands there
entered-stays : (level n c k : ℕ) (above : List Step) (t : List ℕ) (e : Place) → Ready n c k t e → (p : Page)
    → (enter n c (numbers above) t e).page ≡ some p → read (descend (suc level) n c k above t e).table e.child ≡ p
unfolding numbers
entered-stays level n c k above t e r p h = go (pick k (kids e p.view)) refl
  where
    here : read (enter n c (numbers above) t e).table e.child ≡ p
    here = (stood-here r (numbers above) p h).here

    go : (o : Option Place) → pick k (kids e p.view) ≡ o → read (descend (suc level) n c k above t e).table e.child ≡ p
    go none q = ap (λ (w : Way). read w.table e.child) (descend-ends level n c k above t e p h q) ∙ here
    go (some d) q =
        ap (λ (w : Way). read w.table e.child) (descend-below level n c k above t e p h d q)
        ∙ (descend-stays level n c k (record { place = e; page = p } ∷ above) (enter n c (numbers above) t e).table d
        (ready-next r (numbers above) p h d q) e.child (mem-head e.child (numbers above))
        ∙ here)

-- ── A table as it was ───────────────────────────────────────────────────────────────────────────────────────────

descend-untold : (level n c k : ℕ) (above : List Step) (t : List ℕ) (e : Place) → Ready n c k t e
    → (descend level n c k above t e).table ≡ t → (descend_report level n c k above t e nothing).reason ≡ None
unfolding descend_report nothing
descend-untold zero n c k above t e r same = refl
descend-untold (suc level) n c k above t e r same =
    found (enter n c (numbers above) t e).page refl (λ ss u d. descend-untold level n c k ss u d)
  where
    u : List ℕ
    u = (enter n c (numbers above) t e).table

    Rest : Type 0
    Rest = (ss : List Step) (v : List ℕ) (d : Place) → Ready n c k v d → (descend level n c k ss v d).table ≡ v
        → (descend_report level n c k ss v d nothing).reason ≡ None

    Goal : Type 0
    Goal = (descend_report (suc level) n c k above t e nothing).reason ≡ None

    -- the page fits: the way goes on
    below : (p : Page) → (enter n c (numbers above) t e).page ≡ some p → fits n e (read t e.child) ≡ true
        → (o : Option Place) → pick k (kids e p.view) ≡ o → Rest → Goal
    below p h f none q ih = ap reason_of (report-ends level n c k above t e p h nothing q ∙ adds-fits n t e nothing f)
    below p h f (some d) q ih =
        ap reason_of (report-below level n c k above t e p h nothing d q)
        ∙ (ap (λ (x : Report). (descend_report level n c k (record { place = e; page = p } ∷ above) u d x).reason) (adds-fits n t e nothing f)
        ∙ ih (record { place = e; page = p } ∷ above) u d (ready-next r (numbers above) p h d q)
        (sym (ap (λ (w : Way). w.table) (descend-below level n c k above t e p h d q)) ∙ same ∙ sym (enter-fits n c (numbers above) t e f)))

    -- it does not: what stands there in the end does
    entered : (p : Page) → (enter n c (numbers above) t e).page ≡ some p → (b : Bool) → fits n e (read t e.child) ≡ b → Rest → Goal
    entered p h true f ih = below p h f (pick k (kids e p.view)) refl ih
    entered p h false f ih =
        let stands = ap (λ (v : List ℕ). read v e.child) (sym same) ∙ entered-stays level n c k above t e r p h in
        absurd (not_both (ap (fits n e) stands ∙ fits-of n e p (stood-here r (numbers above) p h).fits) f)

    found : (o : Option Page) → (enter n c (numbers above) t e).page ≡ o → Rest → Goal
    found none h ih = ap reason_of (report-damaged level n c k above t e nothing h)
    found (some p) h ih = entered p h (fits n e (read t e.child)) refl ih

way-untold : (n c k : ℕ) (w : List ℕ) → length w ≡ n * page_size → fit0 n w ≡ true → Bytes w → c < 256 ^ 4 → k ≤ last_key
    → (way_of n c k w).table ≡ w → (way_report n c k w nothing).reason ≡ None
unfolding way_of way_report
way-untold n c k w l f b m h = descend-untold top_kind n c k [] w (root_place w) (ready-root n c k w l f b m h)

-- ── Lookup, insert and withdraw ─────────────────────────────────────────────────────────────────────────────────

-- a call that leaves the table of its way, once its tests are passed
key-untold : (w t : List ℕ) (s : Session) (model serial issue : ℕ) → Typed w s model serial issue
    → (lengths_for s w t ≡ true → good_parts model serial issue ≡ true → fit0 s.n w ≡ true
    → (way_of s.n s.c (key_of model serial issue) w).table ≡ w)
    → (key_report w t s model serial issue).reason ≡ None
unfolding key_report nothing
key-untold w t s model serial issue y same =
    go (lengths_for s w t) refl (good_parts model serial issue) refl (fit0 s.n w) refl
  where
    k : ℕ
    k = key_of model serial issue

    good : Bool
    good = good_parts model serial issue

    x : Report
    x = way_report s.n s.c k w nothing

    go : (a : Bool) → lengths_for s w t ≡ a → (b : Bool) → good_parts model serial issue ≡ b → (c : Bool) → fit0 s.n w ≡ c
        → (key_report w t s model serial issue).reason ≡ None
    go false l b g c f = ap reason_of (tested-length s w t good x l)
    go true l false g c f = ap reason_of (tested-key s w t good x l g)
    go true l true g false f = ap reason_of (tested-zero s w t good x l g f)
    go true l true g true f =
        ap reason_of (tested-done s w t good x l g f)
        ∙ way-untold s.n s.c k w (lengths_for_true s w t l).working f y.bytes y.counter (key-bound y) (same l g f)

pub lookup-tells : LookupTells
unfolding LookupTells lookup_reported lookup
lookup-tells w t s model serial issue y = record {
  unchanged = λ h. (lookup-quiet w t s model serial issue h).table;
  untold = λ same. key-untold w t s model serial issue y
      (λ l g f. sym (lookup-walked (key_of model serial issue) s w t) ∙ (rw (lookup, l, g, f) at same));
}

pub insert-tells : InsertTells
unfolding InsertTells insert_reported insert
insert-tells w t s model serial issue x y r = record {
  unchanged = λ h. (insert-quiet w t s model serial issue x r h).table;
  untold = λ same. key-untold w t s model serial issue y
      (λ l g f.
      sym (insert-walked (key_of model serial issue) x s w t (λ e. r (rw (insert, l, g, f) e)))
      ∙ (rw (insert, l, g, f) at same));
}

pub withdraw-tells : WithdrawTells
unfolding WithdrawTells withdraw_reported LookupTells lookup_reported
withdraw-tells w t s model serial issue y r =
    let e = withdraw-leaves w t s model serial issue r in
    let x = lookup-tells w t s model serial issue y in
    record { unchanged = λ h. e ∙ x.unchanged h; untold = λ same. x.untold (sym e ∙ same) }
