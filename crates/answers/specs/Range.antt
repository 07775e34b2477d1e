-- The walk over a range, place by place: where it comes, whether it meets damage, and what it may mend.
use Rattle.std.specs.Prelude.{ℕ, ◌≡◌, true, false, List, [], ◌∷◌, ◌++◌}
use Rattle.std.proofs.Math.Option.{some, none}
use Rattle.rules.specs.Layout.{top_kind}
use Rattle.rules.specs.Test.{mem}
use Rattle.rules.specs.Page.{Page}
use Rattle.rules.specs.Table.{read, build}
use Rattle.rules.specs.Place.{root_place, kids, fits, mendable, mended}
use Rattle.rules.specs.Enter.{enter}
use Rattle.rules.specs.Walk.{Walked, enters, finds, walk_each, walk, unwalked, noted}
use Rattle.rules.specs.declared.Place.{Place}
use Rattle.rules.specs.declared.Asked.{Asked}

-- a page on the way down: the table once it was entered, its places passed, and those that come after this one
pub record Parent : Type 0 where
  pub place : Place
  pub page : Page
  pub table : List ℕ
  pub passed : List Place
  pub later : List Place

abbrev pub numbers_of : List Parent → List ℕ
numbers_of [] = []
numbers_of (s ∷ above) = s.place.child ∷ numbers_of above

-- the walk of a range in table t comes to a place, with w found by now: first to the root's, then to each place of a
-- page entered, once those before it are walked
abbrev pub Comes : ℕ → ℕ → Asked → List ℕ → List Parent → Walked → Place → Type 0
Comes n c a t [] w e = (w ≡ unwalked t) × (e ≡ root_place t)
Comes n c a t (s ∷ above) w e =
    (v : Walked) × Comes n c a t above v s.place
    × (enters a s.place v ≡ true)
    × (enter n c (numbers_of above) v.table s.place ≡ record { table = s.table; page = some s.page })
    × (kids s.place s.page.view ≡ s.passed ++ (e ∷ s.later))
    × (w ≡ walk_each (walk top_kind n c a (numbers_of (s ∷ above))) s.passed (finds a s.page.view (noted n s.place v) s.table))

-- a place that the walk comes to and enters is damaged
pub record MeetsDamageIn (n c : ℕ) (a : Asked) (t : List ℕ) : Type 0 where
  pub above : List Parent
  pub found : Walked
  pub place : Place
  pub comes : Comes n c a t above found place
  pub entered : enters a place found ≡ true
  pub damaged : (enter n c (numbers_of above) found.table place).page ≡ none

-- u is the table in which the walk came to the damaged place
pub record StopsIn (n c : ℕ) (a : Asked) (t u : List ℕ) : Type 0 where
  pub meets : MeetsDamageIn n c a t
  pub left : u ≡ meets.found.table

-- a table that comes of t by what the walk mends: lost children of places that it comes to and enters, each by the
-- mending rule
pub data MendedIn (n c : ℕ) (a : Asked) (t : List ℕ) : List ℕ → Type 0 where
  nothing : MendedIn n c a t t
  also : (above : List Parent) (w : Walked) (e : Place) → MendedIn n c a t w.table → Comes n c a t above w e
      → enters a e w ≡ true
      → mem e.child (numbers_of above) ≡ false
      → fits n e (read w.table e.child) ≡ false
      → mendable n e (read w.table e.previous) ≡ true
      → MendedIn n c a t (build w.table e.child (mended c e (read w.table e.previous)))
