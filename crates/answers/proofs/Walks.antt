-- The walk of one key mends nothing but lost children of the places that it comes to. Assumes nothing.
use Prim.Native.Nat.{ℕ, zero, suc}
use mathlib.Core.Path.{◌≡◌, refl}
use mathlib.Core.Bool.{Bool, true, false}
use mathlib.Core.List.{List, [], ◌∷◌}
use mathlib.Core.Option.{Option, some, none}
use Rattle.rules.specs.Test.{mem}
use Rattle.rules.specs.Page.{Page}
use Rattle.rules.specs.Table.{read}
use Rattle.rules.specs.Place.{root_place, kids, pick, fits, mendable}
use Rattle.rules.specs.Enter.{mend, enter}
use Rattle.rules.specs.Walk.{Step, numbers, descend, way_of}
use Rattle.rules.specs.declared.Place.{Place}
use Rattle.answers.specs.OneKey.{Reaches, MendedBy, nothing, also}

module _ (n c k : ℕ) (t : List ℕ) where
  enter-mended : (above : List Step) (u : List ℕ) (e : Place) → Reaches n c k t above u e
      → MendedBy n c k t u → MendedBy n c k t (enter n c (numbers above) u e).table
  unfolding enter mend
  enter-mended above u e at m =
      go (mem e.child (numbers above)) refl (fits n e (read u e.child)) refl (mendable n e (read u e.previous)) refl
    where
      go : (a : Bool) → mem e.child (numbers above) ≡ a → (b : Bool) → fits n e (read u e.child) ≡ b
          → (d : Bool) → mendable n e (read u e.previous) ≡ d
          → MendedBy n c k t (enter n c (numbers above) u e).table
      go true p b q d o = rw (p, enter) m
      go false p true q d o = rw (p, enter, q) m
      go false p false q true o = rw (p, enter, q, mend, o) (also m above e at p q o)
      go false p false q false o = rw (p, enter, q, mend, o) m

  -- one step down, given what the rest of the walk does
  descend-step : (level : ℕ) (above : List Step) (u : List ℕ) (e : Place) → Reaches n c k t above u e → MendedBy n c k t u
      → ((p : Page) → (enter n c (numbers above) u e).page ≡ some p → (e' : Place) → pick k (kids e p.view) ≡ some e'
      → MendedBy n c k t
      (descend level n c k (record { place = e; page = p } ∷ above) (enter n c (numbers above) u e).table e').table)
      → MendedBy n c k t (descend (suc level) n c k above u e).table
  unfolding descend
  descend-step level above u e at m rest = found (enter n c (numbers above) u e).page refl
    where
      picked : (p : Page) → (enter n c (numbers above) u e).page ≡ some p
          → (o : Option Place) → pick k (kids e p.view) ≡ o
          → MendedBy n c k t (descend (suc level) n c k above u e).table
      picked p h none q = rw (descend, h, q) (enter-mended above u e at m)
      picked p h (some e') q = rw (descend, h, q) (rest p h e' q)

      found : (o : Option Page) → (enter n c (numbers above) u e).page ≡ o
          → MendedBy n c k t (descend (suc level) n c k above u e).table
      found none h = rw (descend, h) (enter-mended above u e at m)
      found (some p) h = picked p h (pick k (kids e p.view)) refl

  descend-mended : (level : ℕ) (above : List Step) (u : List ℕ) (e : Place) → Reaches n c k t above u e
      → MendedBy n c k t u → MendedBy n c k t (descend level n c k above u e).table
  unfolding descend
  descend-mended zero above u e at m = m
  descend-mended (suc level) above u e at m =
      descend-step level above u e at m
      (λ p h e' q.
      descend-mended level (record { place = e; page = p } ∷ above) (enter n c (numbers above) u e).table e'
      (u, at, (λ i. record { table = (enter n c (numbers above) u e).table; page = h i }), q) (enter-mended above u e at m))

  pub way-mended : MendedBy n c k t (way_of n c k t).table
  unfolding way_of
  way-mended = descend-mended 3 [] t (root_place t) (refl, refl) nothing
