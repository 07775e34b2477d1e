-- A walk mends the pages that its companion in Mends computes, in that order, and does nothing else. Assumes nothing.
use Rattle.std.proofs.Common.{◌≡◌, ℕ, zero, suc, Bool, true, false, List, [], ◌∷◌, ◌++◌, refl}
use mathlib.Core.Option.{Option, some, none}
use Rattle.rules.specs.Layout.{top_kind}
use Rattle.rules.specs.Test.{mem}
use Rattle.rules.specs.Page.{Page}
use Rattle.rules.specs.Table.{read}
use Rattle.rules.specs.Place.{root_place, kids, pick, fits, mendable}
use Rattle.rules.specs.Enter.{mend, enter}
use Rattle.rules.specs.Walk.{Step, numbers, descend, way_of, Walked, unwalked, noted, enters, finds, stops, walk_each, walk, walk_of}
use Rattle.rules.specs.Mends.{lost_mends, enter_mends, descend_mends, way_mends, each_mends, walk_mends, walk_of_mends, InTurn, no_mend, mend_next}
use Rattle.rules.specs.declared.Asked.{Asked}
use Rattle.rules.specs.declared.Place.{Place}

-- these pages, then those
pub turns_then : (n c : ℕ) {xs ys t u v : List ℕ} → InTurn n c xs t u → InTurn n c ys u v → InTurn n c (xs ++ ys) t v
turns_then n c no_mend y = y
turns_then n c (mend_next e lost can x) y = mend_next e lost can (turns_then n c x y)

-- ── Entering ────────────────────────────────────────────────────────────────────────────────────────────────────

module _ (n c : ℕ) (t : List ℕ) (e : Place) where
  mend-turns : fits n e (read t e.child) ≡ false → InTurn n c (lost_mends n t e) t (mend n c t e).table
  unfolding mend lost_mends
  mend-turns lost = go (mendable n e (read t e.previous)) refl
    where
      go : (b : Bool) → mendable n e (read t e.previous) ≡ b → InTurn n c (lost_mends n t e) t (mend n c t e).table
      go true p = rw (mend, lost_mends, p) (mend_next e lost p no_mend)
      go false p = rw (mend, lost_mends, p) no_mend

  enter-turns : (above : List ℕ) → InTurn n c (enter_mends n above t e) t (enter n c above t e).table
  unfolding enter enter_mends
  enter-turns above = go (mem e.child above) refl (fits n e (read t e.child)) refl
    where
      go : (a : Bool) → mem e.child above ≡ a → (b : Bool) → fits n e (read t e.child) ≡ b
          → InTurn n c (enter_mends n above t e) t (enter n c above t e).table
      go true p b q = rw (enter, enter_mends, p) no_mend
      go false p true q = rw (enter, enter_mends, p, q) no_mend
      go false p false q = rw (enter, enter_mends, p, q) (mend-turns q)

-- ── The way of a key ────────────────────────────────────────────────────────────────────────────────────────────

descend-turns : (level n c k : ℕ) (above : List Step) (t : List ℕ) (e : Place)
    → InTurn n c (descend_mends level n c k above t e) t (descend level n c k above t e).table
unfolding descend descend_mends
descend-turns zero n c k above t e = no_mend
descend-turns (suc level) n c k above t e =
    found (enter n c (numbers above) t e).page refl (λ steps d. descend-turns level n c k steps left d)
  where
    left : List ℕ
    left = (enter n c (numbers above) t e).table

    entered : InTurn n c (enter_mends n (numbers above) t e) t left
    entered = enter-turns n c t e (numbers above)

    Goal : Type 0
    Goal = InTurn n c (descend_mends (suc level) n c k above t e) t (descend (suc level) n c k above t e).table

    Rest : Type 0
    Rest = (steps : List Step) (d : Place)
        → InTurn n c (descend_mends level n c k steps left d) left (descend level n c k steps left d).table

    below : (p : Page) → (enter n c (numbers above) t e).page ≡ some p
        → (o : Option Place) → pick k (kids e p.view) ≡ o → Rest → Goal
    below p h none g rest = rw (descend, descend_mends, h, g) entered
    below p h (some d) g rest =
        rw (descend, descend_mends, h, g) (turns_then n c entered (rest (record { place = e; page = p } ∷ above) d))

    found : (o : Option Page) → (enter n c (numbers above) t e).page ≡ o → Rest → Goal
    found none h rest = rw (descend, descend_mends, h) entered
    found (some p) h rest = below p h (pick k (kids e p.view)) refl rest

pub way-turns : (n c k : ℕ) (t : List ℕ) → InTurn n c (way_mends n c k t) t (way_of n c k t).table
unfolding way_of way_mends
way-turns n c k t = descend-turns top_kind n c k [] t (root_place t)

-- ── The pages that meet a range ─────────────────────────────────────────────────────────────────────────────────

each_turns : (n c : ℕ) (f : Place → Walked → Walked) (g : Place → Walked → List ℕ)
    → ((e : Place) (w : Walked) → InTurn n c (g e w) w.table (f e w).table)
    → (es : List Place) (w : Walked) → InTurn n c (each_mends f g es w) w.table (walk_each f es w).table
unfolding walk_each each_mends
each_turns n c f g h [] w = no_mend
each_turns n c f g h (e ∷ es) w = turns_then n c (h e w) (each_turns n c f g h es (f e w))

walk-turns : (level n c : ℕ) (a : Asked) (above : List ℕ) (e : Place) (w : Walked)
    → InTurn n c (walk_mends level n c a above e w) w.table (walk level n c a above e w).table
unfolding walk walk_mends stops finds
walk-turns zero n c a above e w = no_mend
walk-turns (suc level) n c a above e w =
    go (enters a e w) refl (enter n c above w.table e).page refl (λ d v. walk-turns level n c a (e.child ∷ above) d v)
  where
    left : List ℕ
    left = (enter n c above w.table e).table

    entered : InTurn n c (enter_mends n above w.table e) w.table left
    entered = enter-turns n c w.table e above

    down : Place → Walked → Walked
    down = walk level n c a (e.child ∷ above)

    mends : Place → Walked → List ℕ
    mends = walk_mends level n c a (e.child ∷ above)

    go : (b : Bool) → enters a e w ≡ b → (o : Option Page) → (enter n c above w.table e).page ≡ o
        → ((d : Place) (v : Walked) → InTurn n c (mends d v) v.table (down d v).table)
        → InTurn n c (walk_mends (suc level) n c a above e w) w.table (walk (suc level) n c a above e w).table
    go false p o h rest = rw (walk, walk_mends, p) no_mend
    go true p none h rest = rw (walk, walk_mends, p, h) entered
    go true p (some x) h rest =
        rw (walk, walk_mends, p, h)
        (turns_then n c entered
        (each_turns n c down mends rest (kids e x.view) (finds a x.view (noted n e w) left)))

pub walk_of-turns : (n c : ℕ) (a : Asked) (t : List ℕ) → InTurn n c (walk_of_mends n c a t) t (walk_of n c a t).table
unfolding walk_of walk_of_mends
walk_of-turns n c a t = walk-turns top_kind n c a [] (root_place t) (unwalked t)
