-- Induction over the walk of a range, place by place; so it mends nothing but lost children of the places that it enters.
-- Assumes nothing.
use Prim.Native.Nat.{ℕ, zero, suc, ◌+◌}
use native.Mathlib.Nat.{suc-add, add-suc}
use native.Mathlib.Omega.{arith}
use mathlib.Core.Path.{◌≡◌, refl, sym, ◌∙◌}
use mathlib.Core.Logic.{inl}
use mathlib.Core.Bool.{Bool, true, false}
use mathlib.Core.List.{List, [], ◌∷◌, ◌++◌, append_assoc}
use mathlib.Core.Option.{Option, some, none}
use Rattle.rules.specs.Layout.{top_kind}
use Rattle.rules.specs.Test.{mem}
use Rattle.rules.specs.Page.{Page}
use Rattle.rules.specs.Table.{read}
use Rattle.rules.specs.Place.{root_place, kids, fits, mendable}
use Rattle.rules.specs.Enter.{mend, enter}
use Rattle.rules.specs.Walk.{Walked, enters, finds, stops, walk_each, walk, walk_of, unwalked, noted}
use Rattle.rules.specs.declared.Place.{Place}
use Rattle.rules.specs.declared.Asked.{Asked}
use Rattle.rules.proofs.Demand1.WalkSteps.{walk-past, walk-entered, walk-damaged}
use Rattle.answers.specs.Range.{Parent, numbers_of, Comes, MendedIn, nothing, also}
use Rattle.answers.proofs.Deep.{Deep, not_out}
use Rattle.answers.proofs.RangeSteps.{none-walked, parent, next-comes, next-deep, next-walked}

-- ── What every step of a walk keeps, the walk keeps ─────────────────────────────────────────────────────────────

module _ (n c : ℕ) (a : Asked) (t : List ℕ) (P : Walked → Type 0)
    (stopped : (above : List Parent) (w : Walked) (e : Place) → Comes n c a t above w e → enters a e w ≡ true
    → (enter n c (numbers_of above) w.table e).page ≡ none → P w → P (stops w (enter n c (numbers_of above) w.table e).table))
    (entered : (above : List Parent) (w : Walked) (e : Place) (x : Page) → Comes n c a t above w e → enters a e w ≡ true
    → (enter n c (numbers_of above) w.table e).page ≡ some x → P w
    → P (finds a x.view (noted n e w) (enter n c (numbers_of above) w.table e).table)) where
  -- what walking one place at a level keeps
  abbrev Keeps : ℕ → Type 0
  Keeps level =
      (above : List Parent) (w : Walked) (e : Place) → Comes n c a t above w e → Deep level e → P w
      → P (walk level n c a (numbers_of above) e w)

  module _ (level over : ℕ) (sum : over + level ≡ top_kind) (rest : Keeps level) (above : List Parent) (w : Walked) (e : Place)
      (comes : Comes n c a t above w e) (deep : Deep (suc level) e) (p : enters a e w ≡ true)
      (x : Page) (h : (enter n c (numbers_of above) w.table e).page ≡ some x) where
    abbrev nums : List ℕ
    nums = e.child ∷ numbers_of above

    abbrev begun : Walked
    begun = finds a x.view (noted n e w) (enter n c (numbers_of above) w.table e).table

    each_keeps : (later passed : List Place) → kids e x.view ≡ passed ++ later
        → (y : Walked) → y ≡ walk_each (walk top_kind n c a nums) passed begun → P y → P (walk_each (walk level n c a nums) later y)
    unfolding walk_each
    each_keeps [] passed q y k m = m
    each_keeps (d ∷ later) passed q y k m =
        each_keeps later (passed ++ (d ∷ [])) (q ∙ sym (append_assoc passed (d ∷ []) later)) (walk level n c a nums d y)
        (next-walked n c a t level over sum above w e comes deep p x h passed later d q y k)
        (rest (parent n c a t level over sum above w e comes deep p x h passed later d q y k ∷ above) y d
        (next-comes n c a t level over sum above w e comes deep p x h passed later d q y k)
        (next-deep n c a t level over sum above w e comes deep p x h passed later d q y k) m)

  keeps-more : (level over : ℕ) → over + level ≡ top_kind → Keeps level → Keeps (suc level)
  keeps-more level over sum rest above w e comes deep m =
      go (enters a e w) refl (enter n c (numbers_of above) w.table e).page refl
    where
      go : (b : Bool) → enters a e w ≡ b → (o : Option Page) → (enter n c (numbers_of above) w.table e).page ≡ o
          → P (walk (suc level) n c a (numbers_of above) e w)
      go false p o h = rw (walk-past level n c a (numbers_of above) e w p) m
      go true p none h = rw (walk-damaged level n c a (numbers_of above) e w p h) (stopped above w e comes p h m)
      go true p (some x) h =
          let u = (enter n c (numbers_of above) w.table e).table in
          rw (walk-entered level n c a (numbers_of above) e w p x h)
          (each_keeps level over sum rest above w e comes deep p x h (kids e x.view) [] refl (finds a x.view (noted n e w) u)
          (none-walked (walk top_kind n c a (e.child ∷ numbers_of above)) (finds a x.view (noted n e w) u))
          (entered above w e x comes p h m))

  keeps : (level over : ℕ) → over + level ≡ top_kind → Keeps level
  keeps zero over sum = λ above w e comes deep m. absurd (not_out e deep)
  keeps (suc level) over sum =
      let more : suc over + level ≡ top_kind = suc-add over level ∙ (sym (add-suc over level) ∙ sum) in
      keeps-more level (suc over) more (keeps level (suc over) more)

  pub walk-keeps : P (unwalked t) → P (walk_of n c a t)
  unfolding walk_of root_place
  walk-keeps m =
      keeps top_kind 0 refl [] (unwalked t) (root_place t) (refl, refl)
      (inl (refl, omega arith)) m

-- ── What is mended ──────────────────────────────────────────────────────────────────────────────────────────────

module _ (n c : ℕ) (a : Asked) (t : List ℕ) where
  enter-mended : (above : List Parent) (w : Walked) (e : Place) → Comes n c a t above w e → enters a e w ≡ true
      → MendedIn n c a t w.table → MendedIn n c a t (enter n c (numbers_of above) w.table e).table
  unfolding enter mend
  enter-mended above w e comes s m =
      go (mem e.child (numbers_of above)) refl (fits n e (read w.table e.child)) refl
      (mendable n e (read w.table e.previous)) refl
    where
      go : (b : Bool) → mem e.child (numbers_of above) ≡ b → (f : Bool) → fits n e (read w.table e.child) ≡ f
          → (g : Bool) → mendable n e (read w.table e.previous) ≡ g
          → MendedIn n c a t (enter n c (numbers_of above) w.table e).table
      go true p f q g o = rw (p, enter) m
      go false p true q g o = rw (p, enter, q) m
      go false p false q true o = rw (p, enter, q, mend, o) (also above w e m comes s p q o)
      go false p false q false o = rw (p, enter, q, mend, o) m

  pub range-mended : MendedIn n c a t (walk_of n c a t).table
  unfolding stops finds
  range-mended =
      walk-keeps n c a t (λ w. MendedIn n c a t w.table) (λ above w e comes p h m. enter-mended above w e comes p m)
      (λ above w e x comes p h m. enter-mended above w e comes p m) nothing
