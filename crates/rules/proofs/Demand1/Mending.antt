-- A walk changes nothing but the pages it mends, each by the mending rule.
use Rattle.std.proofs.Common.{◌≡◌, ℕ, zero, suc, Bool, true, false, List, [], ◌∷◌, refl}
use mathlib.Core.Option.{Option, some, none}
use Rattle.rules.specs.Test.{mem}
use Rattle.rules.specs.Page.{Page}
use Rattle.rules.specs.Table.{read, build}
use Rattle.rules.specs.Place.{root_place, kids, pick, fits, mendable, mended}
use Rattle.rules.specs.Enter.{mend, enter}
use Rattle.rules.specs.Walk.{Step, numbers, descend, way_of, Walked, unwalked, noted, enters, finds, stops, walk_each, walk, walk_of}
use Rattle.rules.specs.declared.Place.{Place}
use Rattle.rules.specs.declared.Asked.{Asked}

-- ── One table comes of another by mending lost pages ────────────────────────────────────────────────────────────

pub data Mends (n c : ℕ) : List ℕ → List ℕ → Type 0 where
  same : {t : List ℕ} → Mends n c t t
  then : {t u : List ℕ} → Mends n c t u → (e : Place)
      → fits n e (read u e.child) ≡ false → mendable n e (read u e.previous) ≡ true
      → Mends n c t (build u e.child (mended c e (read u e.previous)))

-- ── Entering ────────────────────────────────────────────────────────────────────────────────────────────────────

module _ (n c : ℕ) (t u : List ℕ) (m : Mends n c t u) where
  mend-mends : (e : Place) → fits n e (read u e.child) ≡ false → Mends n c t (mend n c u e).table
  unfolding mend
  mend-mends e lost = go (mendable n e (read u e.previous)) refl
    where
      go : (b : Bool) → mendable n e (read u e.previous) ≡ b → Mends n c t (mend n c u e).table
      go true p = rw (p, mend) (then m e lost p)
      go false p = rw (p, mend) m

  pub enter_mends_lem : (above : List ℕ) (e : Place) → Mends n c t (enter n c above u e).table
  unfolding enter
  enter_mends_lem above e = go (mem e.child above) refl (fits n e (read u e.child)) refl
    where
      go : (a : Bool) → mem e.child above ≡ a → (b : Bool) → fits n e (read u e.child) ≡ b
          → Mends n c t (enter n c above u e).table
      go true p b q = rw (p, enter) m
      go false p true q = rw (p, enter, q) m
      go false p false q = rw (p, enter, q) (mend-mends e q)

-- ── The way of a key ────────────────────────────────────────────────────────────────────────────────────────────

-- one step of the descent, given what the rest of it does
descend-step : (level n c k : ℕ) (above : List Step) (t u : List ℕ) → Mends n c t u → (e : Place)
    → ((steps : List Step) (e' : Place)
    → Mends n c t (descend level n c k steps (enter n c (numbers above) u e).table e').table)
    → Mends n c t (descend (suc level) n c k above u e).table
unfolding descend
descend-step level n c k above t u m e rest = found (enter n c (numbers above) u e).page refl
  where
    below : (p : Page) → (enter n c (numbers above) u e).page ≡ some p
        → (o : Option Place) → pick k (kids e p.view) ≡ o
        → Mends n c t (descend (suc level) n c k above u e).table
    below p h none q = rw (descend, h, q) (enter_mends_lem n c t u m (numbers above) e)
    below p h (some e') q = rw (descend, h, q) (rest (record { place = e; page = p } ∷ above) e')

    found : (o : Option Page) → (enter n c (numbers above) u e).page ≡ o
        → Mends n c t (descend (suc level) n c k above u e).table
    found none h = rw (descend, h) (enter_mends_lem n c t u m (numbers above) e)
    found (some p) h = below p h (pick k (kids e p.view)) refl

pub descend_mends_lem : (level n c k : ℕ) (above : List Step) (t u : List ℕ) → Mends n c t u → (e : Place)
    → Mends n c t (descend level n c k above u e).table
unfolding descend
descend_mends_lem zero n c k above t u m e = m
descend_mends_lem (suc level) n c k above t u m e =
    descend-step level n c k above t u m e
    (λ steps e'.
    descend_mends_lem level n c k steps t (enter n c (numbers above) u e).table
    (enter_mends_lem n c t u m (numbers above) e) e')

pub way_mends_lem : (n c k : ℕ) (t : List ℕ) → Mends n c t (way_of n c k t).table
unfolding way_of
way_mends_lem n c k t = descend_mends_lem 3 n c k [] t t same (root_place t)

-- ── The pages that meet a range ─────────────────────────────────────────────────────────────────────────────────

each_mends_lem : (n c : ℕ) (t : List ℕ) (f : Place → Walked → Walked)
    → ((e : Place) (w : Walked) → Mends n c t w.table → Mends n c t (f e w).table)
    → (es : List Place) (w : Walked) → Mends n c t w.table → Mends n c t (walk_each f es w).table
unfolding walk_each
each_mends_lem n c t f h [] w m = m
each_mends_lem n c t f h (e ∷ es) w m = each_mends_lem n c t f h es (f e w) (h e w m)

walk_step : (level n c : ℕ) (a : Asked) (above : List ℕ) (t : List ℕ) (e : Place) (w : Walked) → Mends n c t w.table
    → ((above' : List ℕ) (e' : Place) (w' : Walked) → Mends n c t w'.table
    → Mends n c t (walk level n c a above' e' w').table)
    → Mends n c t (walk (suc level) n c a above e w).table
unfolding walk stops finds
walk_step level n c a above t e w m rest = go (enters a e w) refl (enter n c above w.table e).page refl
  where
    entered : Mends n c t (enter n c above w.table e).table
    entered = enter_mends_lem n c t w.table m above e

    go : (b : Bool) → enters a e w ≡ b → (o : Option Page) → (enter n c above w.table e).page ≡ o
        → Mends n c t (walk (suc level) n c a above e w).table
    go false p o q = rw (walk, p) m
    go true p none q = rw (walk, p, q) entered
    go true p (some x) q =
        rw (walk, p, q)
        (each_mends_lem n c t (walk level n c a (e.child ∷ above)) (rest (e.child ∷ above)) (kids e x.view)
        (finds a x.view (noted n e w) (enter n c above w.table e).table) entered)

pub walk_mends_lem : (level n c : ℕ) (a : Asked) (above : List ℕ) (t : List ℕ) (e : Place) (w : Walked)
    → Mends n c t w.table → Mends n c t (walk level n c a above e w).table
unfolding walk stops
walk_mends_lem zero n c a above t e w m = m
walk_mends_lem (suc level) n c a above t e w m =
    walk_step level n c a above t e w m (λ above' e' w' m'. walk_mends_lem level n c a above' t e' w' m')

pub walk_of_mends_lem : (n c : ℕ) (a : Asked) (t : List ℕ) → Mends n c t (walk_of n c a t).table
unfolding walk_of
walk_of_mends_lem n c a t = walk_mends_lem 3 n c a [] t (root_place t) (unwalked t) same
