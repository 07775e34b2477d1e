-- What a report tells of the table. Where its reason is none nothing was mended: the table is as it was, and the count is
-- 0. Of any bytes, of the way of one key and of a walk over a range. Assumes nothing.
use Rattle.std.proofs.Common.{◌≡◌, ℕ, zero, suc, Bool, true, false, ◌&&◌, ltb, List, [], ◌∷◌, sym, refl, ap, ◌∙◌, true≢false, Ok, None}
use mathlib.Core.Option.{Option, some, none}
use Rattle.rules.specs.Layout.{top_kind}
use Rattle.rules.specs.Page.{Page}
use Rattle.rules.specs.Table.{fit0}
use Rattle.rules.specs.Key.{key_of, good_parts}
use Rattle.rules.specs.Place.{root_place, kids, pick}
use Rattle.rules.specs.Enter.{enter}
use Rattle.rules.specs.Report.{nothing, adds, reason_at}
use Rattle.rules.specs.Walk.{Step, numbers, descend, descend_report, way_of, way_report, Walked, unwalked, noted, enters, finds, stops, walk_each, walk, walk_of}
use Rattle.rules.specs.Call.{lengths_for}
use Rattle.rules.specs.Insert.{insert, insert_key, insert_refused}
use Rattle.rules.specs.Lookup.{lookup, lookup_key, lookup_left}
use Rattle.rules.specs.Newest.{newest, newest_meter, newest_left, meter}
use Rattle.rules.specs.List.{list, list_from, list_done, list_refused, up_from}
use Rattle.rules.specs.Reports.{once_tested, key_report, insert_reported, lookup_reported, newest_reported, list_reported}
use Rattle.rules.specs.declared.Session.{Session}
use Rattle.rules.specs.declared.Place.{Place}
use Rattle.rules.specs.declared.Asked.{Asked}
use Rattle.rules.specs.declared.Report.{Report}
use Rattle.rules.proofs.Entries.Reasons.{adds_none, adds-fits}
use Rattle.rules.proofs.Demand1.WalkSteps.{enter-damaged, enter-fits}
use Rattle.rules.proofs.Demand1.Refusals.{along_refused}
use Rattle.rules.proofs.Demand1.Tested.{tested-length, tested-key, tested-zero, tested-done}

-- ── Words ───────────────────────────────────────────────────────────────────────────────────────────────────────

-- t came to u without a mend, and the report says so
pub record Quiet (t u : List ℕ) (x : Report) : Type 0 where
  pub table : u ≡ t
  pub report : x ≡ nothing

-- a report without a reason is right to have none
abbrev Honest : List ℕ → List ℕ → Report → Type 0
Honest t u x = x.reason ≡ None → Quiet t u x

-- ── Entering ────────────────────────────────────────────────────────────────────────────────────────────────────

module _ (n c : ℕ) (above t u : List ℕ) (e : Place) (x : Report) (q : Honest t u x) where
  entered_honest : Honest t (enter n c above u e).table (adds (reason_at n u e) x)
  entered_honest r =
      let f = adds_none n u e x r in
      let a = adds-fits n u e x f in
      let y = q (sym (ap (λ (z : Report). z.reason) a) ∙ r) in
      record { table = enter-fits n c above u e f ∙ y.table; report = a ∙ y.report }

  damaged_honest : (enter n c above u e).page ≡ none → Honest t (enter n c above u e).table x
  damaged_honest h r = record { table = enter-damaged n c above u e h ∙ (q r).table; report = (q r).report }

-- ── The way of a key ────────────────────────────────────────────────────────────────────────────────────────────

descend_honest : (level n c k : ℕ) (above : List Step) (t u : List ℕ) (e : Place) (x : Report) → Honest t u x
    → Honest t (descend level n c k above u e).table (descend_report level n c k above u e x)
unfolding descend descend_report
descend_honest zero n c k above t u e x q = q
descend_honest (suc level) n c k above t u e x q =
    found (enter n c (numbers above) u e).page refl (λ steps d. descend_honest level n c k steps t left d (adds (reason_at n u e) x) entered)
  where
    left : List ℕ
    left = (enter n c (numbers above) u e).table

    entered : Honest t left (adds (reason_at n u e) x)
    entered = entered_honest n c (numbers above) t u e x q

    Goal : Type 0
    Goal = Honest t (descend (suc level) n c k above u e).table (descend_report (suc level) n c k above u e x)

    Rest : Type 0
    Rest = (steps : List Step) (d : Place)
        → Honest t (descend level n c k steps left d).table (descend_report level n c k steps left d (adds (reason_at n u e) x))

    below : (p : Page) → (enter n c (numbers above) u e).page ≡ some p
        → (o : Option Place) → pick k (kids e p.view) ≡ o → Rest → Goal
    below p h none g ih = rw (descend, descend_report, h, g) entered
    below p h (some d) g ih = rw (descend, descend_report, h, g) (ih (record { place = e; page = p } ∷ above) d)

    found : (o : Option Page) → (enter n c (numbers above) u e).page ≡ o → Rest → Goal
    found none h ih = rw (descend, descend_report, h) (damaged_honest n c (numbers above) t u e x q h)
    found (some p) h ih = below p h (pick k (kids e p.view)) refl ih

pub way-quiet : (n c k : ℕ) (t : List ℕ) → (way_report n c k t nothing).reason ≡ None
    → Quiet t (way_of n c k t).table (way_report n c k t nothing)
unfolding way_of way_report
way-quiet n c k t =
    descend_honest top_kind n c k [] t t (root_place t) nothing (λ r. record { table = refl; report = refl })

-- ── The pages that meet a range ─────────────────────────────────────────────────────────────────────────────────

abbrev HonestWalk : List ℕ → Walked → Type 0
HonestWalk t w = Honest t w.table w.report

each_honest : (t : List ℕ) (f : Place → Walked → Walked) → ((e : Place) (w : Walked) → HonestWalk t w → HonestWalk t (f e w))
    → (es : List Place) (w : Walked) → HonestWalk t w → HonestWalk t (walk_each f es w)
unfolding walk_each
each_honest t f h [] w q = q
each_honest t f h (e ∷ es) w q = each_honest t f h es (f e w) (h e w q)

walk_honest : (level n c : ℕ) (a : Asked) (above t : List ℕ) (e : Place) (w : Walked) → HonestWalk t w
    → HonestWalk t (walk level n c a above e w)
unfolding walk stops finds
walk_honest zero n c a above t e w q = q
walk_honest (suc level) n c a above t e w q =
    go (enters a e w) refl (enter n c above w.table e).page refl (λ d v r. walk_honest level n c a (e.child ∷ above) t d v r)
  where
    go : (b : Bool) → enters a e w ≡ b → (o : Option Page) → (enter n c above w.table e).page ≡ o
        → ((d : Place) (v : Walked) → HonestWalk t v → HonestWalk t (walk level n c a (e.child ∷ above) d v))
        → HonestWalk t (walk (suc level) n c a above e w)
    go false p o h rest = rw (walk, p) q
    go true p none h rest = rw (walk, p, h) (damaged_honest n c above t w.table e w.report q h)
    go true p (some x) h rest =
        rw (walk, p, h)
        (each_honest t (walk level n c a (e.child ∷ above)) rest (kids e x.view)
        (finds a x.view (noted n e w) (enter n c above w.table e).table)
        (entered_honest n c above t w.table e w.report q))

pub walk_of-quiet : (n c : ℕ) (a : Asked) (t : List ℕ) → (walk_of n c a t).report.reason ≡ None
    → Quiet t (walk_of n c a t).table (walk_of n c a t).report
unfolding walk_of
walk_of-quiet n c a t =
    walk_honest top_kind n c a [] t (root_place t) (unwalked t) (λ r. record { table = refl; report = refl })

-- ── The calls ───────────────────────────────────────────────────────────────────────────────────────────────────

-- what a call leaves that makes its tests in this order: the table as it was, unless its walk began
module _ (s : Session) (w t : List ℕ) (good : Bool) (x : Report) (left : List ℕ)
    (at_length : lengths_for s w t ≡ false → left ≡ w)
    (at_key : lengths_for s w t ≡ true → good ≡ false → left ≡ w)
    (at_zero : lengths_for s w t ≡ true → good ≡ true → fit0 s.n w ≡ false → left ≡ w)
    (walked : lengths_for s w t ≡ true → good ≡ true → fit0 s.n w ≡ true → Honest w left x) where
  tested_honest : Honest w left (once_tested s w t good x)
  tested_honest h = go (lengths_for s w t) refl good refl (fit0 s.n w) refl
    where
      go : (a : Bool) → lengths_for s w t ≡ a → (b : Bool) → good ≡ b → (c : Bool) → fit0 s.n w ≡ c
          → Quiet w left (once_tested s w t good x)
      go false l b g c f = record { table = at_length l; report = tested-length s w t good x l }
      go true l false g c f = record { table = at_key l g; report = tested-key s w t good x l g }
      go true l true g false f = record { table = at_zero l g f; report = tested-zero s w t good x l g f }
      go true l true g true f =
          let d = tested-done s w t good x l g f in
          let q = walked l g f (sym (ap (λ (z : Report). z.reason) d) ∙ h) in
          record { table = q.table; report = d ∙ q.report }

pub lookup-walked : (k : ℕ) (s : Session) (w t : List ℕ) → (lookup_key k s w t).working ≡ (way_of s.n s.c k w).table
unfolding lookup_key lookup_left
lookup-walked k s w t = go (way_of s.n s.c k w).steps refl
  where
    go : (o : Option (List Step)) → (way_of s.n s.c k w).steps ≡ o → (lookup_key k s w t).working ≡ (way_of s.n s.c k w).table
    go none h = rw (lookup_key, h)
    go (some steps) h = rw (lookup_key, h)

pub lookup-quiet : (w t : List ℕ) (s : Session) (model serial issue : ℕ)
    → let r = lookup_reported w t s model serial issue in
    r.report.reason ≡ None → Quiet w r.left.working r.report
unfolding lookup_reported key_report lookup lookup_left
lookup-quiet w t s model serial issue =
    let k = key_of model serial issue in
    tested_honest s w t (good_parts model serial issue) (way_report s.n s.c k w nothing) (lookup w t s model serial issue).working
    (λ l. rw (lookup, l)) (λ l g. rw (lookup, l, g)) (λ l g f. rw (lookup, l, g, f))
    (λ l g f h.
    let q = way-quiet s.n s.c k w h in
    record { table = rw (lookup, l, g, f) (lookup-walked k s w t ∙ q.table); report = q.report })

pub insert-walked : (k x : ℕ) (s : Session) (w t : List ℕ) → ((insert_key k x s w t).answer ≡ Ok tt → ⊥)
    → (insert_key k x s w t).working ≡ (way_of s.n s.c k w).table
unfolding insert_key insert_refused
insert-walked k x s w t r = go (way_of s.n s.c k w).steps refl
  where
    go : (o : Option (List Step)) → (way_of s.n s.c k w).steps ≡ o → (insert_key k x s w t).working ≡ (way_of s.n s.c k w).table
    go none h = rw (insert_key, h)
    go (some steps) h =
        rw (insert_key, h) (along_refused k x s steps (way_of s.n s.c k w).table t (λ e. r (rw (insert_key, h) e))).working

pub insert-quiet : (w t : List ℕ) (s : Session) (model serial issue x : ℕ)
    → ((insert w t s model serial issue x).answer ≡ Ok tt → ⊥)
    → let r = insert_reported w t s model serial issue x in
    r.report.reason ≡ None → Quiet w r.left.working r.report
unfolding insert_reported key_report insert insert_refused
insert-quiet w t s model serial issue x r =
    let k = key_of model serial issue in
    tested_honest s w t (good_parts model serial issue) (way_report s.n s.c k w nothing) (insert w t s model serial issue x).working
    (λ l. rw (insert, l)) (λ l g. rw (insert, l, g)) (λ l g f. rw (insert, l, g, f))
    (λ l g f h.
    let q = way-quiet s.n s.c k w h in
    record {
      table = rw (insert, l, g, f) (insert-walked k x s w t (λ e. r (rw (insert, l, g, f) e)) ∙ q.table);
      report = q.report;
    })

pub newest-walked : (a : Asked) (s : Session) (w t : List ℕ) → (newest_meter a s w t).working ≡ (walk_of s.n s.c a w).table
unfolding newest_meter newest_left
newest-walked a s w t = go (walk_of s.n s.c a w).whole refl
  where
    go : (b : Bool) → (walk_of s.n s.c a w).whole ≡ b → (newest_meter a s w t).working ≡ (walk_of s.n s.c a w).table
    go false h = rw (newest_meter, h)
    go true h = rw (newest_meter, h)

pub newest-quiet : (w t : List ℕ) (s : Session) (model serial : ℕ)
    → let r = newest_reported w t s model serial in
    r.report.reason ≡ None → Quiet w r.left.working r.report
unfolding newest_reported newest newest_left
newest-quiet w t s model serial =
    let a = meter model serial in
    tested_honest s w t (ltb 0 model && ltb 0 serial) (walk_of s.n s.c a w).report (newest w t s model serial).working
    (λ l. rw (newest, l)) (λ l g. rw (newest, l, g)) (λ l g f. rw (newest, l, g, f))
    (λ l g f h.
    let q = walk_of-quiet s.n s.c a w h in
    record { table = rw (newest, l, g, f) (newest-walked a s w t ∙ q.table); report = q.report })

pub list-walked : (s : Session) (w t : List ℕ) (start : ℕ) (ks xs : List ℕ)
    → (list_from s w t start ks xs).working ≡ (walk_of s.n s.c (up_from start ks xs) w).table
unfolding list_from list_done list_refused
list-walked s w t start ks xs = go (walk_of s.n s.c (up_from start ks xs) w).whole refl
  where
    go : (b : Bool) → (walk_of s.n s.c (up_from start ks xs) w).whole ≡ b
        → (list_from s w t start ks xs).working ≡ (walk_of s.n s.c (up_from start ks xs) w).table
    go false h = rw (list_from, h)
    go true h = rw (list_from, h)

pub list-quiet : (w t : List ℕ) (s : Session) (start : ℕ) (ks xs : List ℕ)
    → let r = list_reported w t s start ks xs in
    r.report.reason ≡ None → Quiet w r.left.working r.report
unfolding list_reported list list_refused
list-quiet w t s start ks xs =
    let a = up_from start ks xs in
    tested_honest s w t true (walk_of s.n s.c a w).report (list w t s start ks xs).working
    (λ l. rw (list, l)) (λ l g. absurd (true≢false g)) (λ l g f. rw (list, l, f))
    (λ l g f h.
    let q = walk_of-quiet s.n s.c a w h in
    record { table = rw (list, l, f) (list-walked s w t start ks xs ∙ q.table); report = q.report })
