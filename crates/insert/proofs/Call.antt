-- What an insert answers, test after test, and what its walk comes to. Assumes nothing.
use Rattle.std.specs.Prelude.{Ok, Err}
use Prim.Native.Nat.{ℕ, ◌*◌, ◌^◌, ◌≤◌, ◌<◌}
use native.Mathlib.Omega.{arith}
use mathlib.Core.Path.{◌≡◌, refl, sym, ap, ◌∙◌, subst}
use mathlib.Core.Bool.{Bool, true, false}
use mathlib.Core.List.{List, []}
use Rattle.std.specs.Prelude.{Some, None}
use lib.ListN.{length}
use Rattle.fields.specs.Field.{Bytes}
use Rattle.rules.specs.Layout.{page_size, most_pages, last_key}
use Rattle.rules.specs.Key.{key_of, good_parts}
use Rattle.rules.specs.Entry.{find}
use Rattle.rules.specs.Table.{fit0}
use Rattle.rules.specs.Report.{nothing}
use Rattle.rules.specs.Walk.{certs_at}
use Rattle.rules.specs.Walk as rules
use Rattle.rules.specs.Marks.{begun, counted}
use Rattle.rules.specs.Call.{lengths_for}
use Rattle.rules.specs.Insert.{insert, insert_key, insert_along, insert_done, insert_refused}
use Rattle.rules.specs.Reports.{key_report, insert_reported}
use Rattle.rules.specs.declared.Session.{Session}
use Rattle.rules.specs.declared.Report.{Report}
use Rattle.rules.specs.Answer.{Inserted}
use Rattle.rules.specs.declared.InsertError.{InsertError}
use Rattle.rules.proofs.Demand1.Tested.{tested-length, tested-key, tested-zero, tested-done}
use Rattle.rules.proofs.Bytes.Lengths.{lengths_for_true}
use Rattle.way.specs.Ways.{walking, told}
use Rattle.way.specs.declared.Step.{Step}
use Rattle.way.proofs.Stood.{WayStands, way-stands}
use Rattle.way.proofs.Linked.{WayLinked, way-linked}
use Rattle.plan.specs.Plan.{chosen_by, plan_of}
use Rattle.apply.specs.Leads.{steps_in, ReadyWay, done}
use Rattle.rules.specs.Handing.{left_as as left, leaving}
use Rattle.insert.specs.Inserts.{present_in, Walked, decided_on, Deciding, tested_by}
use Rattle.insert.proofs.Went.{Went, went, went-nowhere, steps-here, walked}
use Rattle.insert.proofs.Along.{refused_along, done_along, ready}

-- ── The walk ────────────────────────────────────────────────────────────────────────────────────────────────────

-- what is known behind a walk: an insert along the way is the rules' insert under the key
pub record Going (k : ℕ) (s : Session) (t u : List ℕ) (w : List Step) : Type 0 where
  pub walked : Walked k u s w
  pub along : (x : ℕ) (stable : List ℕ) → insert_along k x s (steps_in u w) u stable ≡ insert_key k x s t stable

module _ (k : ℕ) (s : Session) (t : List ℕ) (long : length t ≡ s.n * page_size) (fit : fit0 s.n t ≡ true) (bytes : Bytes t)
    (counter : s.c < 256 ^ 4) (key : k ≤ last_key) (u : List ℕ) where
  abbrev way : rules.Way
  way = rules.way_of s.n s.c k t

  -- a damaged place was met
  pub key-nowhere : walking u None ≡ told way → (x : ℕ) (stable : List ℕ) → left (Err InsertError.Damaged) s u stable ≡ insert_key k x s t stable
  unfolding insert_key insert_refused
  key-nowhere h x stable =
      let d = went-nowhere way u h in
      rw (insert_key, d.0) (ap (λ (v : List ℕ). insert_refused (Err InsertError.Damaged) s v stable) d.1)

  module _ (w : List Step) (h : walking u (Some w) ≡ told way) where
    gone : Went way u w
    gone = went way u w h

    stood : WayStands s.n k way.table gone.steps
    stood = way-stands s.n s.c k t long fit bytes counter key gone.steps gone.found

    linked : WayLinked s.n k 3 gone.steps
    linked = way-linked s.n s.c k t long fit bytes counter key gone.steps gone.found

    pub going : s.n ≤ most_pages → length u ≡ s.n * page_size → Bytes u → Going k s t u w
    unfolding insert_key
    going few l b = record {
      walked = walked gone stood linked s refl (record { long = l; few = few; bytes = b; counter = counter });
      along = λ x stable.
          ap (λ (ss : List rules.Step). insert_along k x s ss u stable) (steps-here gone stood linked)
          ∙ (ap (λ (v : List ℕ). insert_along k x s gone.steps v stable) gone.table ∙ rw (insert_key, gone.found));
    }

module _ {k : ℕ} {s : Session} {t u : List ℕ} {w : List Step} (G : Going k s t u w) (y : List ℕ) (q : y ≡ chosen_by s w) where
  abbrev pub deciding : Deciding s.c k u w y
  deciding = record { session = s; counter = refl; chosen = q; walked = G.walked }

  -- ── The answer ──────────────────────────────────────────────────────────────────────────────────────────────────

  module _ (a : Inserted) (f : a ≡ decided_on k s w u) where
    by_plan : a ≡ plan_of s (present_in (find k (certs_at (steps_in u w)))) (steps_in u w)
    unfolding decided_on
    by_plan = f

    pub key-refused : (x : ℕ) (stable : List ℕ) → (a ≡ Ok tt → ⊥) → left a s u stable ≡ insert_key k x s t stable
    key-refused x stable n = refused_along k x s (steps_in u w) u stable a by_plan n ∙ G.along x stable

    module _ (g : a ≡ Ok tt) where
      pub key-ready : ReadyWay k u (counted s) w y
      key-ready = ready G.walked y q (sym by_plan ∙ g)

      pub key-done : (x : ℕ) (stable : List ℕ) (r : Session) (v : List ℕ)
          → done r v stable ≡ insert_done k x (counted s) (steps_in u w) u stable → left a r v stable ≡ insert_key k x s t stable
      key-done x stable r v e = done_along k x s (steps_in u w) u stable a by_plan g r v e ∙ G.along x stable

-- ── The tests before it ─────────────────────────────────────────────────────────────────────────────────────────

-- a table of the right length has a page
pub has-page : (n : ℕ) (w t : List ℕ) (r : Bool) → ((s : Session) → s.n ≡ n → r ≡ lengths_for s w t) → r ≡ true → page_size ≤ length w
has-page n w t r f e =
    let l = lengths_for_true (begun n 0 0 [] []) w t (sym (f (begun n 0 0 [] []) refl) ∙ e) in
    omega (arith, l.working, l.least)

module _ (w t : List ℕ) (s : Session) (model serial issue : ℕ) where
  pub length-tested : lengths_for s w t ≡ false → (Err InsertError.Length) ≡ tested_by s w t model serial issue
  unfolding tested_by
  length-tested l = rw (tested_by, l)

  module _ (l : lengths_for s w t ≡ true) where
    pub key-tested : good_parts model serial issue ≡ false → (Err InsertError.BadKey) ≡ tested_by s w t model serial issue
    unfolding tested_by
    key-tested g = rw (tested_by, l, g)

    module _ (g : good_parts model serial issue ≡ true) where
      pub zero-tested : fit0 s.n w ≡ false → (Err InsertError.Damaged) ≡ tested_by s w t model serial issue
      unfolding tested_by
      zero-tested f = rw (tested_by, l, g, f)

      pub all_tested : fit0 s.n w ≡ true → Ok tt ≡ tested_by s w t model serial issue
      unfolding tested_by
      all_tested f = rw (tested_by, l, g, f)

  -- what the rules make of them
  module _ (x : ℕ) where
    pub record Passed : Type 0 where
      pub lengths : lengths_for s w t ≡ true
      pub parts : good_parts model serial issue ≡ true
      pub zero : fit0 s.n w ≡ true
      pub keyed : insert w t s model serial issue x ≡ insert_key (key_of model serial issue) x s w t

    abbrev Told : Inserted → Type 0
    Told a =
        (a ≡ Ok tt → Passed)
        × ((a ≡ Ok tt → ⊥) → insert_refused a s w t ≡ insert w t s model serial issue x)

    good : Bool
    good = good_parts model serial issue

    along : Report
    along = rules.way_report s.n s.c (key_of model serial issue) w nothing

    -- a call that the tests refuse has nothing to report
    quiet : (tested_by s w t model serial issue ≡ Ok tt → ⊥) → key_report w t s model serial issue ≡ nothing
    unfolding key_report good along
    quiet n = go (lengths_for s w t) refl (good_parts model serial issue) refl (fit0 s.n w) refl
      where
        go : (a : Bool) → lengths_for s w t ≡ a → (b : Bool) → good_parts model serial issue ≡ b → (d : Bool) → fit0 s.n w ≡ d
            → key_report w t s model serial issue ≡ nothing
        go false l b g d f = tested-length s w t good along l
        go true l false g d f = tested-key s w t good along l g
        go true l true g false f = tested-zero s w t good along l g f
        go true l true g true f = absurd (n (sym (all_tested l g f)))

    tests : Told (tested_by s w t model serial issue)
    unfolding tested_by insert
    tests = go (lengths_for s w t) refl (good_parts model serial issue) refl (fit0 s.n w) refl
      where
        go : (a : Bool) → lengths_for s w t ≡ a → (b : Bool) → good_parts model serial issue ≡ b → (d : Bool) → fit0 s.n w ≡ d
            → Told (tested_by s w t model serial issue)
        go false l b g d f = rw (tested_by, l) ((λ e. let z : ◌≡◌ {A = ℕ} 0 1 = cc in absurd (omega arith)), (λ n. rw (insert, l)))
        go true l false g d f = rw (tested_by, l, g) ((λ e. let z : ◌≡◌ {A = ℕ} 0 1 = cc in absurd (omega arith)), (λ n. rw (insert, l, g)))
        go true l true g false f = rw (tested_by, l, g, f) ((λ e. let z : ◌≡◌ {A = ℕ} 0 1 = cc in absurd (omega arith)), (λ n. rw (insert, l, g, f)))
        go true l true g true f =
            rw (tested_by, l, g, f) ((λ e. record { lengths = l; parts = g; zero = f; keyed = rw (insert, l, g, f) }), (λ n. absurd (n refl)))

    -- what is left and what is reported, together
    pub told_too : {a : Inserted} {r : Session} {u : List ℕ} {y : Report} → left a r u t ≡ insert w t s model serial issue x
        → y ≡ key_report w t s model serial issue
        → leaving (record { answer = a; report = y; session = r }) u t ≡ insert_reported w t s model serial issue x
    unfolding insert_reported
    told_too p q = cc

    pub passed-report : Passed → key_report w t s model serial issue ≡ rules.way_report s.n s.c (key_of model serial issue) w nothing
    unfolding key_report good along
    passed-report p = tested-done s w t good along p.lengths p.parts p.zero

    module _ (a : Inserted) (e : a ≡ tested_by s w t model serial issue) where
      pub nothing-told : (a ≡ Ok tt → ⊥) → key_report w t s model serial issue ≡ nothing
      nothing-told n = quiet (λ q. n (e ∙ q))

      pub test_refused : (a ≡ Ok tt → ⊥) → left a s w t ≡ insert w t s model serial issue x
      unfolding insert_refused
      test_refused n = (subst Told (sym e) tests).1 n

      pub test_passed : a ≡ Ok tt → Passed
      test_passed g = (subst Told (sym e) tests).0 g
