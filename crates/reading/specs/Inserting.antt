-- What an insert that is done changes: which pages, which marks, and what is found afterwards.
use Rattle.std.specs.Prelude.{ℕ, ◌^◌, ◌≤◌, ◌<◌, ◌≡◌, true, false, List, [], ◌∷◌, length, take, get_or, Ok}
use Rattle.std.proofs.Math.Option.{some}
use Rattle.rules.specs.Key.{key_of}
use Rattle.rules.specs.Test.{mem}
use Rattle.rules.specs.Table.{page_at}
use Rattle.rules.specs.Walk.{Step, numbers, way_of}
use Rattle.rules.specs.Marks.{free_pages}
use Rattle.rules.specs.Call.{Left}
use Rattle.rules.specs.Insert.{root_splits, new_pages, insert}
use Rattle.rules.specs.Lookup.{lookup}
use Rattle.rules.specs.History.{Event, State, run, start, AllProper}
use Rattle.rules.specs.Demand.{Lent}
use Rattle.rules.specs.declared.Session.{Session}
use Rattle.rules.specs.Answer.{Inserted}
use Rattle.reading.specs.Leaving.{Typed}

-- ── Pages and marks ─────────────────────────────────────────────────────────────────────────────────────────────

-- the numbers that an insert along a way takes: the lowest free ones, as many as it needs
unfoldable pub taken_for : Session → List Step → List ℕ
taken_for s steps = take (new_pages steps) (free_pages s (numbers steps))

-- how many that can be: two for each split, one for a new root; a root over three levels never splits
abbrev pub few : List ℕ
few = 0 ∷ (2 ∷ (3 ∷ (4 ∷ (5 ∷ []))))

pub record SameMarks (s r : Session) (i : ℕ) : Type 0 where
  pub free : get_or r.free i false ≡ get_or s.free i false
  pub waiting : get_or r.waiting i false ≡ get_or s.waiting i false

pub record FewChange (w : List ℕ) (s : Session) (k : ℕ) (r : Left Inserted) : Type 0 where
  pub steps : List Step
  pub way : (way_of s.n s.c k w).steps ≡ some steps
  pub count : mem (new_pages steps) few ≡ true
  pub as_many : length (taken_for s steps) ≡ new_pages steps
  pub length_stays : length r.working ≡ length w
  -- every page but page 0, those entered and those taken is as it was, byte for byte
  pub page : (i : ℕ) → 1 ≤ i → mem i (numbers steps) ≡ false → mem i (taken_for s steps) ≡ false
      → page_at r.working i ≡ page_at w i
  pub page0 : root_splits steps ≡ false → page_at r.working 0 ≡ page_at w 0
  -- those taken were free and no longer are; no other mark moves but those of pages entered
  pub taken : (i : ℕ) → mem i (taken_for s steps) ≡ true
      → (get_or s.free i false ≡ true) × (get_or r.session.free i false ≡ false)
  pub marks : (i : ℕ) → mem i (numbers steps) ≡ false → mem i (taken_for s steps) ≡ false → SameMarks s r.session i

-- in tables of any bytes, with any session
unfoldable pub InsertChanges : Type 0
InsertChanges =
    (w t : List ℕ) (s : Session) (model serial issue x : ℕ) → Typed w s model serial issue
    → (insert w t s model serial issue x).answer ≡ Ok tt
    → FewChange w s (key_of model serial issue) (insert w t s model serial issue x)

-- ── What is found afterwards ────────────────────────────────────────────────────────────────────────────────────

-- a lookup of the key answers 0 with the record, and has nothing to mend
pub record FoundThen (r : Left Inserted) (model serial issue x : ℕ) : Type 0 where
  pub answer : (lookup r.working r.stable r.session model serial issue).answer ≡ Ok x
  pub working : (lookup r.working r.stable r.session model serial issue).working ≡ r.working

-- in tables of any bytes, with any session
unfoldable pub InsertFound : Type 0
InsertFound =
    (w t : List ℕ) (s : Session) (model serial issue x : ℕ) → Typed w s model serial issue → x < 256 ^ 4
    → (insert w t s model serial issue x).answer ≡ Ok tt
    → FoundThen (insert w t s model serial issue x) model serial issue x

-- an insert into a store of a history
abbrev pub inserted : State → ℕ → ℕ → ℕ → ℕ → Left Inserted
inserted m model serial issue x = insert m.working m.stable m.session model serial issue x

-- a lookup of the key answers 0 with the record, one of any other key as before
pub record Adds (m : State) (model serial issue x : ℕ) (r : Left Inserted) : Type 0 where
  pub own : (lookup r.working r.stable r.session model serial issue).answer ≡ Ok x
  pub others : (model' serial' issue' : ℕ) → model' < 65536 → serial' < 4294967296 → issue' < 65536
      → (key_of model' serial' issue' ≡ key_of model serial issue → ⊥)
      → (lookup r.working r.stable r.session model' serial' issue').answer
      ≡ (lookup m.working m.stable m.session model' serial' issue').answer

-- at every point of every history while the last opening was done
unfoldable pub InsertAdds : Type 0
InsertAdds =
    (n : ℕ) (w s : List ℕ) → Lent n w s → (h : List Event) → AllProper n h → (run h (start w s)).session.n ≡ n
    → (model serial issue x : ℕ) → model < 65536 → serial < 4294967296 → issue < 65536 → x < 4294967296
    → (inserted (run h (start w s)) model serial issue x).answer ≡ Ok tt
    → Adds (run h (start w s)) model serial issue x (inserted (run h (start w s)) model serial issue x)
