-- A batch: a delivery in one call. Its items are tried one after another in list order, each as a single insert into what the
-- items before it left, the refused ones included, and each gets its answer's number. The batch itself tests lengths alone, once,
-- before anything is touched; page 0 is tested by each item's insert, so an empty batch leaves all as it was and answers 0.
use Rattle.std.specs.Prelude.{ℕ, ◌+◌, ◌%◌, true, false, List, [], ◌∷◌, Ok, Err}
use Rattle.rules.specs.Report.{Reported, nothing, first_of}
use Rattle.rules.specs.Call.{Left, lengths_for, inserted_no}
use Rattle.rules.specs.Reports.{insert_reported}
use Rattle.rules.specs.declared.Session.{Session}
use Rattle.rules.specs.declared.Report.{Report}
use Rattle.rules.specs.Answer.{Inserted, Batched}
use Rattle.rules.specs.declared.LengthError.{LengthError}
use Rattle.rules.specs.declared.Item.{Item}

-- ── One item ────────────────────────────────────────────────────────────────────────────────────────────────────

-- the single insert that an item asks for
unfoldable pub insert_item : List ℕ → List ℕ → Session → Item → Reported (Left Inserted)
insert_item w t s x = insert_reported w t s x.model x.serial x.issue x.value

-- an item with its answer filled in
unfoldable pub answered : ℕ → Item → Item
answered k x = record { model = x.model; serial = x.serial; issue = x.issue; value = x.value; answer = k }

-- two reports, one after the other, as one: the count has 32 bits and wraps
unfoldable pub joins : Report → Report → Report
joins x y = record {
  mended = (x.mended + y.mended) % 4294967296;
  reason = first_of x.reason y.reason;
}

-- ── All items ───────────────────────────────────────────────────────────────────────────────────────────────────

-- what stands between two items: working table, session, and the report so far
pub record Between : Type 0 where
  pub working : List ℕ
  pub session : Session
  pub report : Report

abbrev pub between : List ℕ → Session → Report → Between
between w s x = record { working = w; session = s; report = x }

-- what an item leaves
unfoldable pub after_item : List ℕ → Between → Item → Between
after_item t m x =
    let r = insert_item m.working t m.session x in
    between r.left.working r.left.session (joins m.report r.report)

-- what it is answered
unfoldable pub item_no : List ℕ → Between → Item → ℕ
item_no t m x = inserted_no (insert_item m.working t m.session x).left.answer

unfoldable pub after_items : List ℕ → Between → List Item → Between
after_items t m [] = m
after_items t m (x ∷ xs) = after_items t (after_item t m x) xs

unfoldable pub items_answered : List ℕ → Between → List Item → List Item
items_answered t m [] = []
items_answered t m (x ∷ xs) = answered (item_no t m x) x ∷ items_answered t (after_item t m x) xs

-- ── The call ────────────────────────────────────────────────────────────────────────────────────────────────────

-- a batch leaves the items too
pub record BatchLeft : Type 0 where
  pub answer : Batched
  pub session : Session
  pub working : List ℕ
  pub stable : List ℕ
  pub items : List Item

abbrev pub batch_left : Batched → List ℕ → Between → List Item → Reported BatchLeft
batch_left answer t m xs = record {
  left = record { answer = answer; session = m.session; working = m.working; stable = t; items = xs };
  report = m.report;
}

unfoldable pub batch : List ℕ → List ℕ → Session → List Item → Reported BatchLeft
batch w t s xs =
    let m = between w s nothing in
    elim (lengths_for s w t) [
      | false ↦ batch_left (Err LengthError.Length) t m xs
      | true ↦ batch_left (Ok tt) t (after_items t m xs) (items_answered t m xs)
    ]
