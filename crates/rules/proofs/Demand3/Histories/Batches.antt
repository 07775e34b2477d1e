-- A batch is a row of inserts in a history: it leaves what they leave, the refused ones included, so histories need no event
-- of its own. Assumes nothing.
use Rattle.std.proofs.Common.{◌≡◌, ℕ, ◌<◌, Bool, true, false, List, [], ◌∷◌, refl, ap, ◌∙◌, Err}
use Rattle.rules.specs.Report.{nothing}
use Rattle.rules.specs.Call.{Left, lengths_for}
use Rattle.rules.specs.Insert.{insert_refused, insert}
use Rattle.rules.specs.Reports.{insert_reported}
use Rattle.rules.specs.Batch.{Between, between, insert_item, after_item, after_items, batch}
use Rattle.rules.specs.History.{Event, inserts, State, after_insert, step, run, Proper, AllProper}
use Rattle.rules.specs.declared.Session.{Session}
use Rattle.rules.specs.Answer.{Inserted}
use Rattle.rules.specs.declared.InsertError.{InsertError}
use Rattle.rules.specs.declared.Item.{Item}
use Rattle.rules.proofs.Demand1.Refusals.{insert_stable}
use Rattle.rules.proofs.Demand1.Batches.{batch_refused, batch-done}

-- an item as an event, and the items of a batch as a row of them
unfoldable pub event_of : Item → Event
event_of x = inserts x.model x.serial x.issue x.value

unfoldable pub row_of : List Item → List Event
row_of [] = []
row_of (x ∷ xs) = event_of x ∷ row_of xs

-- a history leaves these
pub record Leaves (w t : List ℕ) (s : Session) (m : State) : Type 0 where
  pub working : m.working ≡ w
  pub stable : m.stable ≡ t
  pub session : m.session ≡ s

-- numbers within the width of their type
abbrev pub ProperItem : Item → Type 0
ProperItem x = (x.model < 65536) × (x.serial < 4294967296) × (x.issue < 65536) × (x.value < 4294967296)

unfoldable pub ProperItems : List Item → Type 0
ProperItems [] = Unit {0}
ProperItems (x ∷ xs) = ProperItem x × ProperItems xs

pub row_proper : (n : ℕ) (xs : List Item) → ProperItems xs → AllProper n (row_of xs)
unfolding row_of event_of ProperItems AllProper Proper
row_proper n [] h = tt
row_proper n (x ∷ xs) h = (h.0, row_proper n xs h.1)

-- ── Lengths that fit ────────────────────────────────────────────────────────────────────────────────────────────

item-step : (t : List ℕ) (b : Between) (m : State) (x : Item) → Leaves b.working t b.session m
    → Leaves (after_item t b x).working t (after_item t b x).session (step (event_of x) m)
unfolding event_of step after_insert after_item insert_item insert_reported
item-step t b m x h =
    let same : insert m.working m.stable m.session x.model x.serial x.issue x.value
    ≡ insert b.working t b.session x.model x.serial x.issue x.value
    = λ i. insert (h.working i) (h.stable i) (h.session i) x.model x.serial x.issue x.value in
    record {
      working = ap (λ (r : Left Inserted). r.working) same;
      stable = ap (λ (r : Left Inserted). r.stable) same ∙ insert_stable b.working t b.session x.model x.serial x.issue x.value;
      session = ap (λ (r : Left Inserted). r.session) same;
    }

items-run : (t : List ℕ) (b : Between) (m : State) (xs : List Item) → Leaves b.working t b.session m
    → Leaves (after_items t b xs).working t (after_items t b xs).session (run (row_of xs) m)
unfolding row_of run after_items
items-run t b m [] h = h
items-run t b m (x ∷ xs) h = items-run t (after_item t b x) (step (event_of x) m) xs (item-step t b m x h)

-- ── Lengths that do not ─────────────────────────────────────────────────────────────────────────────────────────

length-refused : (w t : List ℕ) (s : Session) → lengths_for s w t ≡ false → (model serial issue x : ℕ)
    → insert w t s model serial issue x ≡ insert_refused (Err InsertError.Length) s w t
unfolding insert
length-refused w t s off model serial issue x = rw (insert, off)

refused-step : (w t : List ℕ) (s : Session) → lengths_for s w t ≡ false → (m : State) (x : Item) → Leaves w t s m
    → Leaves w t s (step (event_of x) m)
unfolding event_of step after_insert insert_refused
refused-step w t s off m x h =
    let same : insert m.working m.stable m.session x.model x.serial x.issue x.value ≡ insert_refused (Err InsertError.Length) s w t
    = (λ i. insert (h.working i) (h.stable i) (h.session i) x.model x.serial x.issue x.value) ∙ length-refused w t s off x.model x.serial x.issue x.value in
    record {
      working = ap (λ (r : Left Inserted). r.working) same;
      stable = ap (λ (r : Left Inserted). r.stable) same;
      session = ap (λ (r : Left Inserted). r.session) same;
    }

refused-run : (w t : List ℕ) (s : Session) → lengths_for s w t ≡ false → (m : State) (xs : List Item) → Leaves w t s m
    → Leaves w t s (run (row_of xs) m)
unfolding row_of run
refused-run w t s off m [] h = h
refused-run w t s off m (x ∷ xs) h = refused-run w t s off (step (event_of x) m) xs (refused-step w t s off m x h)

-- ── The call ────────────────────────────────────────────────────────────────────────────────────────────────────

-- whatever the state: tables and session are those of the row of inserts
pub batch-is_row : (m : State) (xs : List Item)
    → let r = batch m.working m.stable m.session xs in
    Leaves r.left.working r.left.stable r.left.session (run (row_of xs) m)
batch-is_row m xs = go (lengths_for m.session m.working m.stable) refl
  where
    as_is : Leaves m.working m.stable m.session m
    as_is = record { working = refl; stable = refl; session = refl }

    go : (a : Bool) → lengths_for m.session m.working m.stable ≡ a
        → let r = batch m.working m.stable m.session xs in
        Leaves r.left.working r.left.stable r.left.session (run (row_of xs) m)
    go false h =
        rw (batch_refused m.working m.stable m.session xs h)
        (refused-run m.working m.stable m.session h m xs as_is)
    go true h =
        rw (batch-done m.working m.stable m.session xs h)
        (items-run m.stable (between m.working m.session nothing) m xs as_is)
