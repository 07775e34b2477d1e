-- The walk over a range, from the root, that goes on from what it has.
use Rattle.std.specs.Prelude.{ℕ, []}
use Rattle.rules.specs.Layout.{top_kind}
use Rattle.rules.specs.Place.{root_place}
use Rattle.rules.specs.Walk.{Walked, walk}
use Rattle.rules.specs.declared.Asked.{Asked}

unfoldable pub rest : ℕ → ℕ → Asked → Walked → Walked
rest n c a w = walk top_kind n c a [] (root_place w.table) w
