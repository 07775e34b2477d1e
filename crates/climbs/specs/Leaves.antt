-- The leaves of a range, climbed to one after the other, each from the root.
use Rattle.std.specs.Prelude.{ℕ, zero, suc, true, false, List, [], ◌∷◌, ltb, length}
use Rattle.std.proofs.Math.Option.{some, none}
use Rattle.rules.specs.Walk.{Step, way_of, way_report, Walked, reporting, finds, stops}
use Rattle.rules.specs.declared.Asked.{Asked}
use Rattle.climbs.specs.After.{after}

-- the leaf's certificates, then the leaves behind it
unfoldable pub passes : (Asked → Walked → Walked) → Asked → Walked → List ℕ → List Step → Walked
passes on a w t [] = w
passes on a w t (leaf ∷ above) = on (after leaf.place.high a) (finds a leaf.page.view w t)

-- in at most so many turns
unfoldable pub leaves : ℕ → ℕ → ℕ → Asked → Walked → Walked
leaves zero n c a w = w
leaves (suc turns) n c a w =
    elim (ltb (length w.found) a.room) [
      | false ↦ w
      | true ↦
          let way = way_of n c a.low w.table in
          let told = reporting (way_report n c a.low w.table w.report) w in
          elim way.steps [ none ↦ stops told way.table | some ss ↦ passes (leaves turns n c) a told way.table ss ]
    ]
