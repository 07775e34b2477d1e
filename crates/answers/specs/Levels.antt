-- A walk never runs out of levels, whatever the bytes: with more of them it is the same. So a walk or a tree that is cut
-- short was cut by a damaged place.
use Rattle.std.specs.Prelude.{ℕ, ◌+◌, ◌≡◌, List, []}
use Rattle.rules.specs.Layout.{top_kind}
use Rattle.rules.specs.Place.{root_place}
use Rattle.rules.specs.Walk.{descend, way_of, walk, walk_of, unwalked}
use Rattle.rules.specs.Tree.{tree, tree_of}
use Rattle.rules.specs.declared.Asked.{Asked}

pub record Levels : Type 0 where
  pub way : (n c k : ℕ) (t : List ℕ) (more : ℕ) → descend (more + top_kind) n c k [] t (root_place t) ≡ way_of n c k t
  pub range : (n c : ℕ) (a : Asked) (t : List ℕ) (more : ℕ)
      → walk (more + top_kind) n c a [] (root_place t) (unwalked t) ≡ walk_of n c a t
  pub whole_tree : (n : ℕ) (t : List ℕ) (more : ℕ) → tree (more + top_kind) n t (root_place t) ≡ tree_of n t
