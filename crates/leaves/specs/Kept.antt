-- Pages of a way that are kept for the next one, and going on from them. Nothing here speaks of code.
use Rattle.std.specs.Prelude.{ℕ, ◌-◌, ◌≡◌, true, false, List, [], ◌∷◌, length}
use Rattle.std.proofs.Math.Option.{some, none}
use Rattle.rules.specs.Layout.{top_kind}
use Rattle.rules.specs.Test.{between, mem}
use Rattle.rules.specs.Page.{is_leaf}
use Rattle.rules.specs.Table.{read}
use Rattle.rules.specs.Place.{root_place, kids, pick, fits}
use Rattle.rules.specs.Report.{Reported}
use Rattle.rules.specs.Walk.{Step, Way, numbers, descend, way_of, descend_report, way_report}
use Rattle.rules.specs.declared.Place.{Place}
use Rattle.rules.specs.declared.Report.{Report}

-- a place is asked for by the page above it, or by page 0
abbrev pub AskedBy : List ℕ → Place → List Step → Type 0
AskedBy t e [] = e ≡ root_place t
AskedBy t e (u ∷ above) = pick e.low (kids u.place u.page.view) ≡ some e

-- a page kept below others: an inner page that is read as it was entered, fits its place, and is none of those above
pub record KeptStep (n : ℕ) (t : List ℕ) (s : Step) (above : List Step) : Type 0 where
  pub here : read t s.place.child ≡ s.page
  pub fit : fits n s.place s.page ≡ true
  pub inner : is_leaf s.page.view ≡ false
  pub apart : mem s.place.child (numbers above) ≡ false
  pub asked : AskedBy t s.place above

-- pages kept, the deepest first
abbrev pub KeptSteps : ℕ → List ℕ → List Step → Type 0
KeptSteps n t [] = Unit {0}
KeptSteps n t (s ∷ above) = KeptStep n t s above × KeptSteps n t above

-- those from the deepest on whose range holds a key
unfoldable pub holding : ℕ → List Step → List Step
holding k [] = []
holding k (s ∷ above) =
    elim (between s.place.low s.place.high k) [ true ↦ s ∷ above | false ↦ holding k above ]

-- a way with what it reports after the report x, from page 0 and from a place down
abbrev pub way_reported : ℕ → ℕ → ℕ → List ℕ → Report → Reported Way
way_reported n c k t x = record { left = way_of n c k t; report = way_report n c k t x }

abbrev pub descend_reported : ℕ → ℕ → ℕ → ℕ → List Step → List ℕ → Place → Report → Reported Way
descend_reported level n c k above t e x = record {
  left = descend level n c k above t e;
  report = descend_report level n c k above t e x;
}

-- the way that goes on from the deepest of them without entering it again; from page 0 if there is none
unfoldable pub resume : ℕ → ℕ → ℕ → List ℕ → Report → List Step → Reported Way
resume n c k t x [] = way_reported n c k t x
resume n c k t x (s ∷ above) =
    elim (pick k (kids s.place s.page.view)) [
      | none ↦ record { left = record { table = t; steps = some (s ∷ above) }; report = x }
      | some e ↦ descend_reported (top_kind - length (s ∷ above)) n c k (s ∷ above) t e x
    ]
