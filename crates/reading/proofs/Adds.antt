-- After an insert that is done a lookup of its key finds the record, and of every other key what it found before: demand 3, said of
-- the call.
use Rattle.std.specs.Prelude.{Ok, Err}
use Prim.Native.Nat.{ℕ, ◌^◌, ◌≤◌, ◌<◌}
use native.Mathlib.Omega.{arith}
use mathlib.Core.Path.{◌≡◌, refl, sym, ap, ◌∙◌, subst}
use mathlib.Core.Logic.{◌≢◌}
use mathlib.Core.Bool.{Bool, true, false}
use mathlib.Core.List.{List, [], ◌∷◌, ◌++◌}
use mathlib.Core.Option.{Option, some, none, none-ne-some}
use borrow.Author.Tests.{eq-eqb, ne_eqb}
use Rattle.rules.specs.Layout.{last_key}
use Rattle.rules.specs.Key.{key_of, good_parts}
use Rattle.rules.specs.Entry.{find}
use Rattle.rules.specs.Table.{fit0}
use Rattle.rules.specs.Walk.{Step, certs_at, way_of}
use Rattle.rules.specs.Marks.{counted}
use Rattle.rules.specs.Call.{Left, lengths_for, looked_no, find_error_no}
use Rattle.rules.specs.Lookup.{found_in, lookup_left, lookup_key, lookup}
use Rattle.rules.specs.History.{Event, inserts, State, latest, record_in, content, gains, after_insert, step, run, start, Proper, AllProper}
use Rattle.rules.specs.Demand.{lookup_now, Serves, Demand3, OpenedTold}
use Rattle.rules.specs.declared.Session.{Session}
use Rattle.rules.specs.Answer.{Inserted, Looked}
use Rattle.rules.specs.declared.FindError.{FindError}
use Rattle.rules.proofs.Bytes.Keys.{model_of-key_of, serial_of-key_of, issue_of-key_of, key_of-bound}
use Rattle.rules.proofs.Demand3.Histories.Histories.{demand3, session-tells}
use Rattle.reading.specs.Inserting.{inserted, Adds, InsertAdds}
use Rattle.reading.specs.Agreeing.{answer_for}
use Rattle.reading.proofs.Marking.{done-n}
use Rattle.reading.proofs.Changes.{insert_done_lem}

-- ── What a lookup answers, by what it found ─────────────────────────────────────────────────────────────────────

found_for : (k : ℕ) (steps : List Step) → found_in k steps ≡ answer_for (record_in (found_in k steps))
unfolding found_in record_in answer_for
found_for k steps = go (find k (certs_at steps)) refl
  where
    go : (o : Option ℕ) → find k (certs_at steps) ≡ o → found_in k steps ≡ answer_for (record_in (found_in k steps))
    go none o = rw (found_in, o)
    go (some y) o = rw (found_in, o)

key_for : (k : ℕ) (s : Session) (w t : List ℕ) → ((lookup_key k s w t).answer ≡ Err FindError.Damaged → ⊥)
    → (lookup_key k s w t).answer ≡ answer_for (record_in (lookup_key k s w t).answer)
unfolding lookup_key lookup_left
key_for k s w t h = go (way_of s.n s.c k w).steps refl
  where
    go : (o : Option (List Step)) → (way_of s.n s.c k w).steps ≡ o
        → (lookup_key k s w t).answer ≡ answer_for (record_in (lookup_key k s w t).answer)
    go none o = absurd (h (rw (lookup_key, o)))
    go (some steps) o = rw (lookup_key, o) (found_for k steps)

module _ (w t : List ℕ) (s : Session) (model serial issue : ℕ) (l : lengths_for s w t ≡ true) where
  pub lookup_for : good_parts model serial issue ≡ true → ((lookup w t s model serial issue).answer ≡ Err FindError.Damaged → ⊥)
      → (lookup w t s model serial issue).answer ≡ answer_for (record_in (lookup w t s model serial issue).answer)
  unfolding lookup lookup_left
  lookup_for g h = go (fit0 s.n w) refl
    where
      go : (b : Bool) → fit0 s.n w ≡ b
          → (lookup w t s model serial issue).answer ≡ answer_for (record_in (lookup w t s model serial issue).answer)
      go false o = absurd (h (rw (lookup, l, g, o)))
      go true o = rw (lookup, l, g, o) (key_for (key_of model serial issue) s w t (λ e. h (rw (lookup, l, g, o) e)))

  lookup_bad : good_parts model serial issue ≡ false → (lookup w t s model serial issue).answer ≡ Err FindError.BadKey
  unfolding lookup lookup_left
  lookup_bad g = rw (lookup, l, g)

-- a lookup that finds something had tables of the right length
found-lengths : (w t : List ℕ) (s : Session) (model serial issue x : ℕ) → (lookup w t s model serial issue).answer ≡ Ok x
    → lengths_for s w t ≡ true
unfolding lookup lookup_left find_error_no
found-lengths w t s model serial issue x h = go (lengths_for s w t) refl
  where
    go : (b : Bool) → lengths_for s w t ≡ b → lengths_for s w t ≡ true
    go true l = l
    go false l = absurd (omega (arith, ap looked_no (rw (lookup, l) at h)))

some-found : (a : Looked) (x : ℕ) → record_in a ≡ some x → a ≡ Ok x
unfolding record_in
some-found (Ok y) x h = cc
some-found (Err e) x h = absurd (none-ne-some x h)

-- what a lookup of a key finds, by its parts
pub content-of : (s : Session) (w t : List ℕ) (model serial issue : ℕ) → serial < 2 ^ 32 → issue < 2 ^ 16
    → content s w t (key_of model serial issue) ≡ record_in (lookup w t s model serial issue).answer
unfolding content
content-of s w t model serial issue a b = rw (model_of-key_of model serial issue a b, serial_of-key_of model serial issue a b, issue_of-key_of model serial issue a b)

pub key-within : (model serial issue : ℕ) → model < 65536 → serial < 4294967296 → issue < 65536 → key_of model serial issue ≤ last_key
key-within model serial issue a b c = omega (arith, key_of-bound model serial issue (omega arith) (omega arith) (omega arith))

-- ── One event more ──────────────────────────────────────────────────────────────────────────────────────────────

pub run-then : (h : List Event) (e : Event) (m : State) → run (h ++ (e ∷ [])) m ≡ step e (run h m)
unfolding run
run-then [] e m = refl
run-then (x ∷ h) e m = run-then h e (step x m)

pub proper_then : (n : ℕ) (h : List Event) (e : Event) → AllProper n h → Proper n e → AllProper n (h ++ (e ∷ []))
unfolding AllProper
proper_then n [] e t y = (y, tt)
proper_then n (x ∷ h) e t y = (t.0, proper_then n h e t.1 y)

past-done : (k x : ℕ) (m : State) (r : Left Inserted) → r.answer ≡ Ok tt → (after_insert k x m r).past ≡ gains k (some x) m.past
unfolding after_insert
past-done k x m r h = rw (h, after_insert)

pub gains-own : (k : ℕ) (state : Option ℕ) (past : ℕ → List (Option ℕ)) → latest (gains k state past k) ≡ state
unfolding gains latest
gains-own k state past = rw (eq-eqb k k refl, gains)

pub gains-other : (k : ℕ) (state : Option ℕ) (j : ℕ) (past : ℕ → List (Option ℕ)) → j ≢ k → latest (gains k state past j) ≡ latest (past j)
unfolding gains latest
gains-other k state j past d = rw (ne_eqb j k d, gains)

-- a key whose last state is the same answers the same
module _ (m r : State) (before : Serves m) (after : Serves r) (lengths : lengths_for m.session m.working m.stable ≡ true)
    (lengths' : lengths_for r.session r.working r.stable ≡ true) (model serial issue : ℕ)
    (wide_model : model < 65536) (wide_serial : serial < 4294967296) (wide_issue : issue < 65536)
    (same : latest (r.past (key_of model serial issue)) ≡ latest (m.past (key_of model serial issue))) where
  abbrev here : Looked
  here = (lookup_now m model serial issue).answer

  abbrev there : Looked
  there = (lookup_now r model serial issue).answer

  same_record : record_in there ≡ record_in here
  same_record =
      let j-bound = key-within model serial issue wide_model wide_serial wide_issue in
      sym (content-of r.session r.working r.stable model serial issue (omega arith) (omega arith))
      ∙ (after.looks_up (key_of model serial issue) j-bound
      ∙ (same
      ∙ (sym (before.looks_up (key_of model serial issue) j-bound)
      ∙ content-of m.session m.working m.stable model serial issue (omega arith) (omega arith))))

  pub answer-stays : there ≡ here
  answer-stays = go (good_parts model serial issue) refl
    where
      go : (g : Bool) → good_parts model serial issue ≡ g → there ≡ here
      go true g =
          lookup_for r.working r.stable r.session model serial issue lengths' g (after.lookup_whole model serial issue)
          ∙ (ap answer_for same_record
          ∙ sym (lookup_for m.working m.stable m.session model serial issue lengths g (before.lookup_whole model serial issue)))
      go false g =
          lookup_bad r.working r.stable r.session model serial issue lengths' g
          ∙ sym (lookup_bad m.working m.stable m.session model serial issue lengths g)

-- ── The theorem ─────────────────────────────────────────────────────────────────────────────────────────────────

module _ (m : State) (model serial issue x : ℕ) (wide_model : model < 65536) (wide_serial : serial < 4294967296) (wide_issue : issue < 65536)
    (before : Serves m) (after : Serves (step (inserts model serial issue x) m)) (done : (inserted m model serial issue x).answer ≡ Ok tt) where
  abbrev k : ℕ
  k = key_of model serial issue

  abbrev r : Left Inserted
  r = inserted m model serial issue x

  abbrev next : State
  next = step (inserts model serial issue x) m

  past-now : (j : ℕ) → latest (next.past j) ≡ latest (gains k (some x) m.past j)
  unfolding step
  past-now j = ap (λ (p : ℕ → List (Option ℕ)). latest (p j)) (past-done k x m r done)

  own : (lookup r.working r.stable r.session model serial issue).answer ≡ Ok x
  unfolding step after_insert
  own =
      some-found (lookup r.working r.stable r.session model serial issue).answer x
      (sym (content-of r.session r.working r.stable model serial issue (omega arith) (omega arith))
      ∙ (after.looks_up k (key-within model serial issue wide_model wide_serial wide_issue) ∙ (past-now k ∙ gains-own k (some x) m.past)))

  others : (model' serial' issue' : ℕ) → model' < 65536 → serial' < 4294967296 → issue' < 65536 → key_of model' serial' issue' ≢ k
      → (lookup r.working r.stable r.session model' serial' issue').answer
      ≡ (lookup m.working m.stable m.session model' serial' issue').answer
  unfolding step after_insert
  others model' serial' issue' a b c d =
      answer-stays m next before after (insert_done_lem m.working m.stable m.session model serial issue x done).lengths
      (found-lengths r.working r.stable r.session model serial issue x own) model' serial' issue' a b c
      (past-now (key_of model' serial' issue') ∙ gains-other k (some x) (key_of model' serial' issue') m.past d)

  adds : Adds m model serial issue x r
  adds = record { own = own; others = others }

-- an insert that is done leaves the session's number of pages
pub done-pages : (w s : List ℕ) (h : List Event) (model serial issue x : ℕ) → (inserted (run h (start w s)) model serial issue x).answer ≡ Ok tt
    → (run (h ++ (inserts model serial issue x ∷ [])) (start w s)).session.n ≡ (run h (start w s)).session.n
unfolding step after_insert
done-pages w s h model serial issue x done =
    let m = run h (start w s) in
    let y = insert_done_lem m.working m.stable m.session model serial issue x done in
    ap (λ (q : State). q.session.n) (run-then h (inserts model serial issue x) (start w s))
    ∙ (ap (λ (q : Left Inserted). q.session.n) y.is
    ∙ done-n (key_of model serial issue) x (counted m.session) y.steps
    (way_of m.session.n m.session.c (key_of model serial issue) m.working).table m.stable)

pub insert-adds : InsertAdds
unfolding InsertAdds Demand3 OpenedTold Proper
insert-adds n w s l h t z model serial issue x a b c d done =
    adds (run h (start w s)) model serial issue x a b c ((demand3 n w s l h t).1 ((session-tells n w s l h t).done z))
    (subst Serves (run-then h e (start w s))
    ((demand3 n w s l (h ++ (e ∷ [])) more).1 ((session-tells n w s l (h ++ (e ∷ [])) more).done (done-pages w s h model serial issue x done ∙ z)))) done
  where
    e : Event
    e = inserts model serial issue x

    more : AllProper n (h ++ (e ∷ []))
    more = proper_then n h e t (a, b, c, d)
