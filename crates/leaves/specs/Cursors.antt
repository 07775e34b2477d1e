-- A cursor as the code hands it on, and what a step to a leaf leaves and answers.
use Rattle.std.specs.Prelude.{ℕ, ◌+◌, ◌*◌, ◌≤◌, ◌≡◌, true, false, List, [], ◌∷◌, eqb, length, Result, Ok, Err}
use Rattle.std.proofs.Math.Option.{Option, some, none}
use Rattle.rules.specs.Layout.{page_size}
use Rattle.rules.specs.Test.{between}
use Rattle.rules.specs.Entry.{keys}
use Rattle.rules.specs.Page.{count}
use Rattle.rules.specs.Table.{read}
use Rattle.rules.specs.Place.{root_place, pick}
use Rattle.rules.specs.Walk as rules
use Rattle.rules.specs.declared.Place.{Place}
use Rattle.rules.specs.declared.Report.{Report}
use Rattle.entries.specs.Spot.{spot_of}
use Rattle.head.proofs.Headers.{head_of}
use Rattle.enter.specs.declared.Above.{Above}
use Rattle.way.specs.Ways.{way_for, above_in, places_below, Leads}
use Rattle.leaves.specs.Kept.{KeptSteps}
use Rattle.leaves.specs.declared.Leaf.{Leaf}

-- ── The pages that a cursor keeps ───────────────────────────────────────────────────────────────────────────────

abbrev pub no_cursor : Above
no_cursor = record { parent = 0; top = 0 }

-- a cursor has their numbers; the table has the rest
abbrev pub cursor_of : List rules.Step → Above
cursor_of ss = above_in (way_for ss)

-- what a cursor must be for the next step: its pages are kept in the table
pub record Kept (n : ℕ) (t : List ℕ) (x : Above) : Type 0 where
  pub steps : List rules.Step
  pub are : x ≡ cursor_of steps
  pub short : length steps ≤ 2
  pub kept : KeptSteps n t steps

-- ── What is left and answered ───────────────────────────────────────────────────────────────────────────────────

pub record Nexting : Type 0 where
  pub table : List ℕ
  pub next : Result Leaf Report

abbrev pub nexting : List ℕ → Result Leaf Report → Nexting
nexting t x = record { table = t; next = x }

-- a leaf with the key that led to it, how many of its keys are not above one, the pages above it, and what was reported down to it
abbrev pub leaf_of : ℕ → ℕ → rules.Step → List rules.Step → Report → Leaf
leaf_of key upto s above x = record {
  child = s.place.child;
  count = count s.page.view;
  from = key;
  high = s.place.high;
  spot = spot_of upto (keys s.page.view.certs);
  behind = cursor_of above;
  report = x;
}

unfoldable pub next_or : ℕ → ℕ → Option (List rules.Step) → Report → Result Leaf Report
next_or key upto none x = Err x
next_or key upto (some []) x = Err x
next_or key upto (some (s ∷ above)) x = Ok (leaf_of key upto s above x)

-- the end of a way, and what is kept of it; the report is handed back with damage too
unfoldable pub next_of : ℕ → ℕ → rules.Way → Report → Nexting
next_of key upto w x = nexting w.table (next_or key upto w.steps x)

-- ── Where a step begins ─────────────────────────────────────────────────────────────────────────────────────────

-- the page above a leaf is passed over if its range misses the key; the one above that is the root, which holds all
unfoldable pub holding_in : ℕ → List ℕ → Above → Above
holding_in k t x =
    elim (eqb x.parent 0) [
      | true ↦ x
      | false ↦ elim (between (read t x.parent).low (read t x.parent).high k)
          [ true ↦ x | false ↦ record { parent = x.top; top = 0 } ]
    ]

-- how many levels lie below
unfoldable pub levels_in : Above → ℕ
levels_in x = elim (eqb x.parent 0) [ true ↦ 3 | false ↦ elim (eqb x.top 0) [ true ↦ 2 | false ↦ 1 ] ]

-- the place that a key leads to below the deepest page, or the root's
unfoldable pub place_in : ℕ → List ℕ → Above → Option Place
place_in k t x =
    elim (eqb x.parent 0) [
      | true ↦ some (root_place t)
      | false ↦ pick k (places_below (head_of (read t x.parent)) (read t x.parent).view)
    ]

-- the deepest page lies in the table, and leads on where its range holds the key
abbrev pub Lies : List ℕ → Above → Type 0
Lies t x = (x.parent ≡ 0 → ⊥) → (x.parent + 1) * page_size ≤ length t

abbrev pub LeadsOn : ℕ → List ℕ → Above → Type 0
LeadsOn k t x = (x.parent ≡ 0 → ⊥) → Leads k (head_of (read t x.parent)) (read t x.parent).view
