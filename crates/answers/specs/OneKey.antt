-- The walk of one key, place by place: where it comes, whether it meets damage, and what it may mend.
use Rattle.std.specs.Prelude.{ℕ, ◌≡◌, true, false, List, [], ◌∷◌}
use Rattle.std.proofs.Math.Option.{some, none}
use Rattle.rules.specs.Test.{mem}
use Rattle.rules.specs.Table.{read, build}
use Rattle.rules.specs.Place.{root_place, kids, pick, fits, mendable, mended}
use Rattle.rules.specs.Enter.{enter}
use Rattle.rules.specs.Walk.{Step, numbers}
use Rattle.rules.specs.declared.Place.{Place}

-- the walk of key k in table t reaches a place: first the root's, then one that a page entered asks for at the key.
-- above are the pages entered, the last one first; u is the table by now
abbrev pub Reaches : ℕ → ℕ → ℕ → List ℕ → List Step → List ℕ → Place → Type 0
Reaches n c k t [] u e = (u ≡ t) × (e ≡ root_place t)
Reaches n c k t (s ∷ above) u e =
    (v : List ℕ) × Reaches n c k t above v s.place
    × (enter n c (numbers above) v s.place ≡ record { table = u; page = some s.page })
    × (pick k (kids s.place s.page.view) ≡ some e)

-- a place that the walk reaches is damaged
pub record MeetsDamage (n c k : ℕ) (t : List ℕ) : Type 0 where
  pub above : List Step
  pub table : List ℕ
  pub place : Place
  pub reached : Reaches n c k t above table place
  pub damaged : (enter n c (numbers above) table place).page ≡ none

-- u is the table in which the walk ends: that in which it reached a damaged place, or that in which it entered a page
-- that asks for nothing more at the key. Every place above was entered, and mended where it was lost
pub data EndsIn (n c k : ℕ) (t u : List ℕ) : Type 0 where
  at_damage : (above : List Step) (e : Place) → Reaches n c k t above u e → (enter n c (numbers above) u e).page ≡ none
      → EndsIn n c k t u
  at_leaf : (s : Step) (above : List Step) (v : List ℕ) → Reaches n c k t above v s.place
      → enter n c (numbers above) v s.place ≡ record { table = u; page = some s.page }
      → pick k (kids s.place s.page.view) ≡ none → EndsIn n c k t u

-- a table that comes of t by what the walk mends: lost children of places that it reaches, each by the mending rule
pub data MendedBy (n c k : ℕ) (t : List ℕ) : List ℕ → Type 0 where
  nothing : MendedBy n c k t t
  also : {u : List ℕ} → MendedBy n c k t u → (above : List Step) (e : Place) → Reaches n c k t above u e
      → mem e.child (numbers above) ≡ false
      → fits n e (read u e.child) ≡ false
      → mendable n e (read u e.previous) ≡ true
      → MendedBy n c k t (build u e.child (mended c e (read u e.previous)))
