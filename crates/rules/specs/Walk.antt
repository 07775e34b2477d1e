-- Walks: which pages a call enters, root first, in key order, mending as it goes.
use Rattle.std.specs.Prelude.{ℕ, zero, suc, ◌-◌, Bool, true, false, List, [], ◌∷◌, ◌++◌, length, take, nat_le, nat_lt}
use Rattle.std.proofs.Math.Option.{Option, some, none}
use Rattle.rules.specs.Layout.{top_kind}
use Rattle.rules.specs.Test.{every}
use Rattle.rules.specs.Entry.{Cert, cut}
use Rattle.rules.specs.Page.{View, Page}
use Rattle.rules.specs.Place.{root_place, kids, pick}
use Rattle.rules.specs.Enter.{enter}
use Rattle.rules.specs.Report.{nothing, adds, reason_at}
use Rattle.rules.specs.declared.Asked.{Asked}
use Rattle.rules.specs.declared.Place.{Place}
use Rattle.rules.specs.declared.Report.{Report}

-- ── The way of one key ──────────────────────────────────────────────────────────────────────────────────────────

pub record Step : Type 0 where
  pub place : Place
  pub page : Page

unfoldable pub numbers : List Step → List ℕ
numbers [] = []
numbers (s ∷ ss) = s.place.child ∷ numbers ss

-- what the leaf at the end of a way holds
unfoldable pub certs_at : List Step → List Cert
certs_at [] = []
certs_at (s ∷ above) = s.page.view.certs

-- the number of that leaf
unfoldable pub leaf_at : List Step → ℕ
leaf_at [] = 0
leaf_at (s ∷ above) = s.place.child

-- the pages entered, leaf first, and the table with what was mended; none: a damaged place was met
pub record Way : Type 0 where
  pub table : List ℕ
  pub steps : Option (List Step)

abbrev pub no_way : List ℕ → Way
no_way t = record { table = t; steps = none }

-- from a place down; level bounds the kind of page that can stand there, so it never runs out
unfoldable pub descend : ℕ → ℕ → ℕ → ℕ → List Step → List ℕ → Place → Way
descend zero n c k above t e = no_way t
descend (suc level) n c k above t e =
    let entered = enter n c (numbers above) t e in
    elim entered.page [
      | none ↦ no_way entered.table
      | some p ↦
          let steps : List Step = record { place = e; page = p } ∷ above in
          elim (pick k (kids e p.view)) [
            | none ↦ record { table = entered.table; steps = some steps }
            | some e' ↦ descend level n c k steps entered.table e'
          ]
    ]

unfoldable pub way_of : ℕ → ℕ → ℕ → List ℕ → Way
way_of n c k t = descend top_kind n c k [] t (root_place t)

-- what the same way reports, after what was reporting before it
unfoldable pub descend_report : ℕ → ℕ → ℕ → ℕ → List Step → List ℕ → Place → Report → Report
descend_report zero n c k above t e x = x
descend_report (suc level) n c k above t e x =
    let entered = enter n c (numbers above) t e in
    elim entered.page [
      | none ↦ x
      | some p ↦
          let steps : List Step = record { place = e; page = p } ∷ above in
          elim (pick k (kids e p.view)) [
            | none ↦ adds (reason_at n t e) x
            | some e' ↦ descend_report level n c k steps entered.table e' (adds (reason_at n t e) x)
          ]
    ]

unfoldable pub way_report : ℕ → ℕ → ℕ → List ℕ → Report → Report
way_report n c k t x = descend_report top_kind n c k [] t (root_place t) x

-- ── The pages that meet a range ─────────────────────────────────────────────────────────────────────────────────

-- the table so far, whether no damaged place was met, the certificates read on entering, and what was mended
pub record Walked : Type 0 where
  pub table : List ℕ
  pub whole : Bool
  pub found : List Cert
  pub report : Report

-- before a walk
abbrev pub unwalked : List ℕ → Walked
unwalked t = record { table = t; whole = true; found = []; report = nothing }

-- a walk with another report
abbrev pub reporting : Report → Walked → Walked
reporting x w = record { table = w.table; whole = w.whole; found = w.found; report = x }

-- a place was entered: its page fitted, or was mended for a reason
abbrev pub noted : ℕ → Place → Walked → Walked
noted n e w = reporting (adds (reason_at n w.table e) w.report) w

-- a place is entered if its range meets the asked one, while there is room
unfoldable pub enters : Asked → Place → Walked → Bool
enters a e w =
    every (w.whole ∷ nat_lt (length w.found) a.room ∷ nat_le e.low a.high ∷ nat_le a.low e.high ∷ [])

unfoldable pub finds : Asked → View → Walked → List ℕ → Walked
finds a v w t = record {
  table = t;
  whole = true;
  found = w.found ++ take (a.room - length w.found) (cut a.low a.high v.certs);
  report = w.report;
}

unfoldable pub stops : Walked → List ℕ → Walked
stops w t = record { table = t; whole = false; found = w.found; report = w.report }

-- each place of a page, in key order
unfoldable pub walk_each : (Place → Walked → Walked) → List Place → Walked → Walked
walk_each walk [] w = w
walk_each walk (e ∷ es) w = walk_each walk es (walk e w)

unfoldable pub walk : ℕ → ℕ → ℕ → Asked → List ℕ → Place → Walked → Walked
walk zero n c a above e w = stops w w.table
walk (suc level) n c a above e w =
    elim (enters a e w) [
      | false ↦ w
      | true ↦
          let entered = enter n c above w.table e in
          elim entered.page [
            | none ↦ stops w entered.table
            | some p ↦
                walk_each (walk level n c a (e.child ∷ above)) (kids e p.view)
                (finds a p.view (noted n e w) entered.table)
          ]
    ]

unfoldable pub walk_of : ℕ → ℕ → Asked → List ℕ → Walked
walk_of n c a t = walk top_kind n c a [] (root_place t) (unwalked t)
