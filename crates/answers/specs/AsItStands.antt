-- The tree as it stands, place by place, and what opening must not find there.
use Rattle.std.specs.Prelude.{ℕ, ◌≡◌, true, false}
use mathlib.Core.List.{List, ◌++◌, Memᴰ}
use Rattle.std.proofs.Math.Option.{some, none}
use Rattle.rules.specs.Test.{mem}
use Rattle.rules.specs.Page.{View}
use Rattle.rules.specs.Table.{read}
use Rattle.rules.specs.Place.{root_place, kids, fits, show}
use Rattle.rules.specs.Tree.{tree_of}
use Rattle.rules.specs.declared.Place.{Place}

-- the places of the tree: the root's, and what the entries of what is shown ask for
pub data InTree (n : ℕ) (t : List ℕ) : Place → Type 0 where
  at_root_lem : {e : Place} → e ≡ root_place t → InTree n t e
  below : {e : Place} (d : Place) (v : View) → InTree n t d → show n t d ≡ some v → Memᴰ e (kids d v) → InTree n t e

-- a damaged place
pub record HasDamage (n : ℕ) (t : List ℕ) : Type 0 where
  pub place : Place
  pub stands : InTree n t place
  pub damaged : show n t place ≡ none

-- a number named twice as child
pub record NamedTwice (n : ℕ) (t : List ℕ) : Type 0 where
  pub number : ℕ
  pub first : List ℕ
  pub others : List ℕ
  pub children : (tree_of n t).children ≡ first ++ others
  pub in_first : mem number first ≡ true
  pub in_others : mem number others ≡ true

-- a child that a lost entry names as previous
pub record ChildSpared (n : ℕ) (t : List ℕ) : Type 0 where
  pub place : Place
  pub stands : InTree n t place
  pub lost : fits n place (read t place.child) ≡ false
  pub child : mem place.previous (tree_of n t).children ≡ true
