-- A batch as its loop goes: what stands between two turns, what one turn makes of it, and all turns in a row.
use Rattle.std.specs.Prelude.{ℕ, true, false, List, [], ◌∷◌, Ok, Err}
use Rattle.rules.specs.Report.{Reported, nothing}
use Rattle.rules.specs.Call.{lengths_for}
use Rattle.rules.specs.Batch.{Between, between, answered, item_no, after_item, BatchLeft}
use Rattle.rules.specs.declared.Session.{Session}
use Rattle.rules.specs.declared.Item.{Item}
use Rattle.rules.specs.Answer.{Batched}
use Rattle.rules.specs.declared.LengthError.{LengthError}
use Rattle.rules.specs.Handing.{Batching}
use Rattle.batch.specs.declared.Turned.{Turned}

-- what the call would hand back now, and the working table
pub record Running : Type 0 where
  pub made : Batching
  pub working : List ℕ

-- an item as its turn leaves it, and what then stands
pub record Turning : Type 0 where
  pub item : Item
  pub running : Running

abbrev pub running : Batching → List ℕ → Running
running b w = record { made = b; working = w }

abbrev pub turning : Turned → List ℕ → Turning
turning r w = record { item = r.item; running = running r.made w }

-- what the call leaves
abbrev pub leaving : Batching → List ℕ → List ℕ → List Item → Reported BatchLeft
leaving r w t xs = record {
  left = record { answer = r.answer; session = r.session; working = w; stable = t; items = xs };
  report = r.report;
}

-- a batch with this answer so far
abbrev pub standing : Batched → Between → Running
standing answer m = running (record { answer = answer; report = m.report; session = m.session }) m.working

abbrev pub stands_at : Running → Between
stands_at m = between m.working m.made.session m.made.report

unfoldable pub begun : List ℕ → List ℕ → Session → Running
begun w t s =
    elim (lengths_for s w t) [
      | false ↦ standing (Err LengthError.Length) (between w s nothing)
      | true ↦ standing (Ok tt) (between w s nothing)
    ]

-- an item is inserted
unfoldable pub tried_of : List ℕ → Running → Item → Turning
tried_of t m x = record {
  item = answered (item_no t (stands_at m) x) x;
  running = standing (Ok tt) (after_item t (stands_at m) x);
}

-- unless the batch is refused
unfoldable pub turn_of : List ℕ → Running → Item → Turning
turn_of t m x =
    elim m.made.answer
    [ Err e ↦ record { item = x; running = m } | Ok u ↦ tried_of t m x ]

-- what stands after all turns, and the items
unfoldable pub goes : List ℕ → Running → List Item → Running
goes t m [] = m
goes t m (x ∷ xs) = goes t (turn_of t m x).running xs

unfoldable pub fills : List ℕ → Running → List Item → List Item
fills t m [] = []
fills t m (x ∷ xs) = (turn_of t m x).item ∷ fills t (turn_of t m x).running xs
