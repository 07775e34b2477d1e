-- The turns of a batch, one after another, make the rules' batch. Assumes nothing.
use mathlib.Core.Path.{◌≡◌, refl, sym, ap, ◌∙◌, subst}
use Prim.Native.Nat.{ℕ, suc, ◌+◌, ◌<◌}
use mathlib.Core.Bool.{Bool, true, false}
use mathlib.Core.List.{List, [], ◌∷◌, ◌++◌}
use Rattle.std.proofs.Common.{length, take, drop, get_or, set, arith, add-one, append_assoc, Ok, Err}
use Rattle.std.proofs.Math.Seq.{drop-cons, take-suc-set, drop-set-lt, drop-length, take-length}
use Rattle.std.proofs.lemmas.List.{append-nil}
use Rattle.rules.specs.Report.{Reported, nothing}
use Rattle.rules.specs.Call.{lengths_for, inserted_no}
use Rattle.rules.specs.Reports.{insert_reported}
use Rattle.rules.specs.Batch.{Between, between, insert_item, joins, after_item, after_items, items_answered, answered, item_no, BatchLeft, batch}
use Rattle.rules.specs.declared.Session.{Session}
use Rattle.rules.specs.declared.Item.{Item}
use Rattle.rules.specs.declared.Report.{Report}
use Rattle.rules.specs.Handing.{Inserting}
use Rattle.rules.specs.Answer.{Batched}
use Rattle.rules.specs.declared.LengthError.{LengthError}
use Rattle.rules.specs.Handing.{Batching}
use Rattle.rules.specs.Handing.{leaving as inserted}
use Rattle.rules.proofs.Demand1.Batches.{batch_refused, batch-done}
use Rattle.batch.specs.Turns.{Running, Turning, running, turning, leaving, standing, begun, tried_of, turn_of, goes, fills}

-- ── One turn more ───────────────────────────────────────────────────────────────────────────────────────────────

module _ (t : List ℕ) (m : Running) (x : Item) (xs : List Item) (r : Turning) (e : r ≡ turn_of t m x) where
  pub goes-more : goes t m (x ∷ xs) ≡ goes t r.running xs
  unfolding goes
  goes-more = ap (λ (y : Turning). goes t y.running xs) (sym e)

  pub fills-more : fills t m (x ∷ xs) ≡ r.item ∷ fills t r.running xs
  unfolding fills
  fills-more = ap (λ (y : Turning). y.item ∷ fills t y.running xs) (sym e)

-- ── The list while its items are gone through: those before the turn's are as they are to be, the rest as they came ─

module _ (t : List ℕ) (ys : List Item) (i : ℕ) (d : Item) (below : i < length ys) (m : Running) (r : Turning)
    (e : r ≡ turn_of t m (get_or ys i d)) where
  kept : drop (suc i) (set ys i r.item) ≡ drop (suc i) ys
  kept = drop-set-lt (suc i) ys i r.item (omega arith)

  pub stands_next : goes t m (drop i ys) ≡ goes t r.running (drop (i + 1) (set ys i r.item))
  stands_next =
      rw (add-one, kept)
      (ap (goes t m) (drop-cons ys i d below) ∙ goes-more t m (get_or ys i d) (drop (suc i) ys) r e)

  pub filled_next : take i ys ++ fills t m (drop i ys)
      ≡ take (i + 1) (set ys i r.item) ++ fills t r.running (drop (i + 1) (set ys i r.item))
  filled_next =
      rw (add-one, kept, take-suc-set ys i r.item below)
      (ap (λ (xs : List Item). take i ys ++ fills t m xs) (drop-cons ys i d below)
      ∙ ap (λ (xs : List Item). take i ys ++ xs) (fills-more t m (get_or ys i d) (drop (suc i) ys) r e)
      ∙ sym (append_assoc (take i ys) (r.item ∷ []) (fills t r.running (drop (suc i) ys))))

-- at the end no item is left
module _ (t : List ℕ) (ys : List Item) (i : ℕ) (end : i ≡ length ys) (m : Running) where
  none_left : drop i ys ≡ []
  none_left = rw end (drop-length ys)

  pub stands_all : goes t m (drop i ys) ≡ m
  unfolding goes
  stands_all = rw none_left

  pub filled_all : take i ys ++ fills t m (drop i ys) ≡ ys
  unfolding fills
  filled_all = rw (none_left, append-nil, end) (take-length ys)

-- ── An item that is left as it is ───────────────────────────────────────────────────────────────────────────────

pub left_alone : (t w : List ℕ) (m : Batching) (x : Item) (e : LengthError) → m.answer ≡ Err e
    → turning (record { item = x; made = m }) w ≡ turn_of t (running m w) x
unfolding turn_of
left_alone t w m x e h =
    subst
    (λ (a : Batched). turning (record { item = x; made = record { answer = a; report = m.report; session = m.session } }) w
    ≡ turn_of t (running (record { answer = a; report = m.report; session = m.session }) w) x)
    (sym h) refl

-- ── An item that is tried ───────────────────────────────────────────────────────────────────────────────────────

pub tried-is : (w t : List ℕ) (m : Batching) (x : Item) (r : Inserting) (l : List ℕ) (k : ℕ) (q : Report)
    → inserted r l t ≡ insert_reported w t m.session x.model x.serial x.issue x.value
    → k ≡ inserted_no r.answer → q ≡ joins m.report r.report
    → turning (record { item = answered k x; made = record { answer = Ok tt; report = q; session = r.session } }) l
    ≡ tried_of t (running m w) x
unfolding tried_of item_no after_item insert_item
tried-is w t m x r l k q e f g =
    (λ i. made (f i) (g i) r.session l)
    ∙ (λ i. made (inserted_no (e i).left.answer) (joins m.report (e i).report) (e i).left.session (e i).left.working)
  where
    made : ℕ → Report → Session → List ℕ → Turning
    made j y s v = record {
      item = answered j x;
      running = running (record { answer = Ok tt; report = y; session = s }) v;
    }

-- ── All turns ───────────────────────────────────────────────────────────────────────────────────────────────────

module _ (t : List ℕ) where
  refused-goes : (m : Between) (xs : List Item) → goes t (standing (Err LengthError.Length) m) xs ≡ standing (Err LengthError.Length) m
  unfolding goes turn_of
  refused-goes m [] = refl
  refused-goes m (x ∷ xs) = refused-goes m xs

  refused-fills : (m : Between) (xs : List Item) → fills t (standing (Err LengthError.Length) m) xs ≡ xs
  unfolding fills turn_of
  refused-fills m [] = refl
  refused-fills m (x ∷ xs) = ap (λ (ys : List Item). x ∷ ys) (refused-fills m xs)

  done-goes : (m : Between) (xs : List Item) → goes t (standing (Ok tt) m) xs ≡ standing (Ok tt) (after_items t m xs)
  unfolding goes turn_of tried_of after_items
  done-goes m [] = refl
  done-goes m (x ∷ xs) = done-goes (after_item t m x) xs

  done-fills : (m : Between) (xs : List Item) → fills t (standing (Ok tt) m) xs ≡ items_answered t m xs
  unfolding fills turn_of tried_of items_answered
  done-fills m [] = refl
  done-fills m (x ∷ xs) = ap (λ (ys : List Item). answered (item_no t m x) x ∷ ys) (done-fills (after_item t m x) xs)

-- ── The call ────────────────────────────────────────────────────────────────────────────────────────────────────

abbrev left_by : List ℕ → Running → List Item → Reported BatchLeft
left_by t m ys = leaving m.made m.working t ys

pub turns-batch : (w t : List ℕ) (s : Session) (xs : List Item) (m : Running) (ys : List Item)
    → goes t (begun w t s) xs ≡ m → fills t (begun w t s) xs ≡ ys → leaving m.made m.working t ys ≡ batch w t s xs
unfolding begun
turns-batch w t s xs m ys g f = (λ i. left_by t (sym g i) (sym f i)) ∙ go (lengths_for s w t) refl
  where
    go : (a : Bool) → lengths_for s w t ≡ a
        → left_by t (goes t (begun w t s) xs) (fills t (begun w t s) xs) ≡ batch w t s xs
    go false h =
        rw (begun, h)
        ((λ i. left_by t (refused-goes t (between w s nothing) xs i) (refused-fills t (between w s nothing) xs i))
        ∙ sym (batch_refused w t s xs h))
    go true h =
        rw (begun, h)
        ((λ i. left_by t (done-goes t (between w s nothing) xs i) (done-fills t (between w s nothing) xs i))
        ∙ sym (batch-done w t s xs h))
