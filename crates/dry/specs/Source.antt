-- Which page shows a place to the dry walk.
use Rattle.std.specs.Prelude.{ℕ, Bool, true, false, Option, Some, None, List, eqb, set}
use Rattle.rules.specs.Test.{mem}
use Rattle.rules.specs.declared.Place.{Place}
use Rattle.dry.specs.Walk.{keeps, helps}

-- the child, or the previous page that it would be mended from; none: the place is damaged
unfoldable pub source_lost : ℕ → List ℕ → List Bool → Place → Option ℕ
source_lost n t m e = elim (helps n t m e) [ true ↦ Some e.previous | false ↦ None ]

unfoldable pub source : ℕ → List ℕ → List ℕ → List Bool → Place → Option ℕ
source n above t m e =
    elim (mem e.child above) [
      | true ↦ None
      | false ↦ elim (keeps n t m e) [ true ↦ Some e.child | false ↦ source_lost n t m e ]
    ]

-- the marks after a place was entered by its source: a child that is not its own source is mended
unfoldable pub marked_by : ℕ → Place → List Bool → List Bool
marked_by i e m = elim (eqb i e.child) [ true ↦ m | false ↦ set m e.child true ]
