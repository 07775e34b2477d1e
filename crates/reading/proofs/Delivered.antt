-- Between the items of a batch lengths and the number of pages stay: so no item answers 1. Assumes nothing.
use Rattle.std.specs.Prelude.{Ok, Err}
use Prim.Native.Nat.{ℕ, ◌^◌, ◌<◌}
use native.Mathlib.Omega.{arith}
use mathlib.Core.Path.{◌≡◌, refl, sym, ap, ◌∙◌, subst}
use mathlib.Core.Logic.{inl, inr}
use mathlib.Core.Bool.{true}
use mathlib.Core.List.{List, [], ◌∷◌}
use lib.ListN.{length}
use Rattle.fields.specs.Field.{Bytes}
use Rattle.rules.specs.Test.{mem}
use Rattle.rules.specs.Key.{key_of}
use Rattle.rules.specs.Page.{View, touch}
use Rattle.rules.specs.Table.{read, Tables}
use Rattle.rules.specs.Walk.{Step, way_of}
use Rattle.rules.specs.Marks.{counted, free_pages}
use Rattle.rules.specs.Report.{nothing}
use Rattle.rules.specs.Call.{Left, lengths_for, inserted_no, insert_error_no}
use Rattle.rules.specs.Insert.{changed, insert}
use Rattle.rules.specs.Reports.{insert_reported}
use Rattle.rules.specs.Batch.{Between, between, insert_item, after_item, item_no, answered, items_answered}
use Rattle.rules.specs.declared.Session.{Session}
use Rattle.rules.specs.Answer.{Inserted}
use Rattle.rules.specs.declared.InsertError.{InsertError}
use Rattle.rules.specs.declared.Item.{Item}
use Rattle.rules.proofs.Bytes.All.{All, nil, cons}
use Rattle.rules.proofs.Bytes.Tables.{bytes-build, bytes-change}
use Rattle.rules.proofs.Bytes.Lengths.{lengths_for_true, tables-lengths_for}
use Rattle.rules.proofs.Demand1.Mending.{Mends, same, then}
use Rattle.rules.proofs.Demand1.Refusals as rules
use Rattle.answers.specs.Given.{Cause, Given}
use Rattle.answers.specs.Causes.{insert_causes}
use Rattle.answers.proofs.Exactly.{given-number}
use Rattle.answers.proofs.Tells.{good_lengths_lem}
use Rattle.answers.proofs.Inserts.{insert-given}
use Rattle.reading.specs.Leaving.{Typed, InsertRefused}
use Rattle.reading.specs.Inserting.{InsertChanges}
use Rattle.reading.specs.Delivering.{Steady, TypedItem, ItemAnswer, InsertSteady, ItemsAnswer}
use Rattle.reading.proofs.WayLeft.{way-left}
use Rattle.reading.proofs.Refused.{key-bound, insert_refused_lem}
use Rattle.reading.proofs.Marking.{done-n, done-c}
use Rattle.reading.proofs.Changes.{insert-went, gone, same-done, insert_changes}

-- ── Bytes stay bytes ────────────────────────────────────────────────────────────────────────────────────────────

mends-bytes : (n c : ℕ) (w u : List ℕ) → Mends n c w u → Bytes w → Bytes u
mends-bytes n c w u same h = h
mends-bytes n c w u (then {u = v} m e lost p) h = bytes-build v e.child _ (mends-bytes n c w v m h)

changed-bytes : (c : ℕ) (f : View → View) (t : List ℕ) (i : ℕ) → Bytes t → Bytes (changed c f t i)
unfolding changed
changed-bytes c f t i h = bytes-change t i (touch c (f (read t i).view) (read t i)) h

-- ── An insert ───────────────────────────────────────────────────────────────────────────────────────────────────

module _ (w t : List ℕ) (s : Session) (model serial issue x : ℕ) (y : Typed w s model serial issue) where
  abbrev k : ℕ
  k = key_of model serial issue

  abbrev r : Left Inserted
  r = insert w t s model serial issue x

  done-steady : r.answer ≡ Ok tt → Steady w s r
  unfolding InsertChanges free_pages
  done-steady h =
      let g = insert-went w t s model serial issue x y h in
      let L = way-left s.n s.c k w g.tables.working g.fit y.bytes y.counter (key-bound y) in
      let G = gone w t (counted s) k x g.tables L y.counter g.first g.rest g.way g.leads g.short g.leaf g.roomy in
      let e = g.is ∙ same-done w t (counted s) k x g.tables L y.counter g.first g.rest g.way g.leads g.short g.leaf g.roomy in
      record {
        length_stays = (insert_changes w t s model serial issue x y h).length_stays;
        bytes = subst (λ (q : Left Inserted). Bytes q.working) (sym e) (changed-bytes s.c _ _ _ G.whole.bytes);
        pages = ap (λ (q : Left Inserted). q.session.n) g.is ∙ done-n k x (counted s) (g.first ∷ g.rest) (way_of s.n s.c k w).table t;
        counter = ap (λ (q : Left Inserted). q.session.c) g.is ∙ done-c k x (counted s) (g.first ∷ g.rest) (way_of s.n s.c k w).table t;
      }

  refused-steady : (r.answer ≡ Ok tt → ⊥) → Steady w s r
  unfolding InsertRefused
  refused-steady h =
      let o = insert_refused_lem w t s model serial issue x y h in
      record {
        length_stays = o.length_stays;
        bytes = mends-bytes s.n s.c w r.working (rules.insert_refused_lem w t s model serial issue x h).working y.bytes;
        pages = ap (λ (q : Session). q.n) o.session;
        counter = ap (λ (q : Session). q.c) o.session;
      }

  steady : Steady w s r
  unfolding insert_error_no
  steady = go r.answer refl
    where
      not : (a : Inserted) → r.answer ≡ a → (inserted_no a ≡ 0 → ⊥) → Steady w s r
      not a h o = refused-steady (λ e. o (ap inserted_no (sym h ∙ e)))

      go : (a : Inserted) → r.answer ≡ a → Steady w s r
      go (Ok tt) h = done-steady h
      go (Err InsertError.Length) h = not (Err InsertError.Length) h (λ e. omega (arith, e))
      go (Err InsertError.BadKey) h = not (Err InsertError.BadKey) h (λ e. omega (arith, e))
      go (Err InsertError.Damaged) h = not (Err InsertError.Damaged) h (λ e. omega (arith, e))
      go (Err InsertError.Present) h = not (Err InsertError.Present) h (λ e. omega (arith, e))
      go (Err InsertError.SyncFirst) h = not (Err InsertError.SyncFirst) h (λ e. omega (arith, e))
      go (Err InsertError.Full) h = not (Err InsertError.Full) h (λ e. omega (arith, e))

pub insert-steady : InsertSteady
unfolding InsertSteady
insert-steady = steady

-- ── The items ───────────────────────────────────────────────────────────────────────────────────────────────────

lengths-stay : (w t : List ℕ) (s : Session) (r : Left Inserted) → Steady w s r → lengths_for s w t ≡ true
    → lengths_for r.session r.working t ≡ true
lengths-stay w t s r d h =
    let T = lengths_for_true s w t h in
    tables-lengths_for r.session
    (subst (λ (n : ℕ). Tables n r.working t) (sym d.pages)
    (record { least = T.least; most = T.most; working = d.length_stays ∙ T.working; stable = T.stable }))

-- a table of answers without its first line
abbrev below : List Cause → List Cause
below [] = []
below (c ∷ cs) = cs

-- what a batch knows between two items
record Ready (t : List ℕ) (m : Between) : Type 0 where
  pub lengths : lengths_for m.session m.working t ≡ true
  pub bytes : Bytes m.working
  pub counter : m.session.c < 256 ^ 4

module _ (t : List ℕ) (m : Between) (d : Ready t m) (x : Item) (y : TypedItem x) where
  still : Steady m.working m.session (insert m.working t m.session x.model x.serial x.issue x.value)
  still =
      steady m.working t m.session x.model x.serial x.issue x.value
      (record { bytes = d.bytes; counter = d.counter; wide_model = y.0; wide_serial = y.1; wide_issue = y.2 })

  ready-next : Ready t (after_item t m x)
  unfolding after_item insert_item insert_reported
  ready-next = record {
    lengths = lengths-stay m.working t m.session _ still d.lengths;
    bytes = still.bytes;
    counter = omega (arith, still.counter, d.counter);
  }

  item-answer : ItemAnswer (answered (item_no t m x) x)
  unfolding answered item_no insert_item insert_reported
  item-answer = go (insert-given m.working t m.session x.model x.serial x.issue x.value)
    where
      go : Given (insert_causes m.working t m.session x.model x.serial x.issue) (item_no t m x)
          → ItemAnswer (answered (item_no t m x) x)
      go (inl p) = absurd (good_lengths_lem m.working t m.session d.lengths p.1)
      go (inr p) = given-number (below (insert_causes m.working t m.session x.model x.serial x.issue)) (item_no t m x) p.1

items-answer-from : (t : List ℕ) (m : Between) → Ready t m → (xs : List Item) → All TypedItem xs → All ItemAnswer (items_answered t m xs)
unfolding items_answered
items-answer-from t m d [] nil = nil
items-answer-from t m d (x ∷ xs) (cons y ys) =
    cons (item-answer t m d x y) (items-answer-from t (after_item t m x) (ready-next t m d x y) xs ys)

pub items-answer : ItemsAnswer
unfolding ItemsAnswer
items-answer w t s xs h b c ys =
    items-answer-from t (between w s nothing) (record { lengths = h; bytes = b; counter = c }) xs ys
