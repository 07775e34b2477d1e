-- One step of the rules' walks, down a key's way and over a range, by the answer of entering the page. Assumes nothing.
use Rattle.std.proofs.Common.{◌≡◌, ℕ, suc, Bool, true, false, List, [], ◌∷◌, sym, refl, arith, le-ltb}
use mathlib.Core.Option.{some, none, none-ne-some}
use Rattle.rules.specs.Test.{every, mem}
use Rattle.rules.specs.Page.{Page}
use Rattle.rules.specs.Table.{read}
use Rattle.rules.specs.Place.{root_place, kids, pick, fits, mendable, mended}
use Rattle.rules.specs.Enter.{mend, enter}
use Rattle.rules.specs.Report.{adds, reason_at}
use Rattle.rules.specs.Walk.{Step, no_way, numbers, descend, descend_report, Walked, unwalked, noted, enters, finds, stops, walk_each, walk, walk_of}
use Rattle.rules.specs.declared.Asked.{Asked}
use Rattle.rules.specs.declared.Place.{Place}
use Rattle.rules.specs.declared.Report.{Report}

-- a page above is never entered again
pub enter-apart : (n c : ℕ) (above t : List ℕ) (e : Place) (p : Page) → (enter n c above t e).page ≡ some p → mem e.child above ≡ false
unfolding enter
enter-apart n c above t e p h = go (mem e.child above) refl
  where
    go : (b : Bool) → mem e.child above ≡ b → mem e.child above ≡ false
    go true q = absurd (none-ne-some p (rw (enter, q) at h))
    go false q = q

-- a damaged place leaves the table as it is, and so does a page that fits
pub enter-damaged : (n c : ℕ) (above t : List ℕ) (e : Place) → (enter n c above t e).page ≡ none → (enter n c above t e).table ≡ t
unfolding enter mend
enter-damaged n c above t e h =
    go (mem e.child above) refl (fits n e (read t e.child)) refl (mendable n e (read t e.previous)) refl
  where
    go : (a : Bool) → mem e.child above ≡ a → (b : Bool) → fits n e (read t e.child) ≡ b
        → (d : Bool) → mendable n e (read t e.previous) ≡ d → (enter n c above t e).table ≡ t
    go true m b f d g = rw (m, enter)
    go false m true f d g = rw (m, enter, f)
    go false m false f true g = absurd (none-ne-some (mended c e (read t e.previous)) (sym (rw (m, enter, f, mend, g) at h)))
    go false m false f false g = rw (m, enter, f, mend, g)

pub enter-fits : (n c : ℕ) (above t : List ℕ) (e : Place) → fits n e (read t e.child) ≡ true → (enter n c above t e).table ≡ t
unfolding enter
enter-fits n c above t e f = go (mem e.child above) refl
  where
    go : (a : Bool) → mem e.child above ≡ a → (enter n c above t e).table ≡ t
    go true m = rw (m, enter)
    go false m = rw (m, enter, f)

-- ── Down a way ──────────────────────────────────────────────────────────────────────────────────────────────────

module _ (level n c k : ℕ) (above : List Step) (t : List ℕ) (e : Place) where
  pub report-damaged : (x : Report) → (enter n c (numbers above) t e).page ≡ none → descend_report (suc level) n c k above t e x ≡ x
  unfolding descend_report
  report-damaged x h = rw (descend_report, h)

  pub descend-damaged : (enter n c (numbers above) t e).page ≡ none
      → descend (suc level) n c k above t e ≡ no_way (enter n c (numbers above) t e).table
  unfolding descend
  descend-damaged h = rw (descend, h)

  module _ (p : Page) (h : (enter n c (numbers above) t e).page ≡ some p) where
    pub descend-ends : pick k (kids e p.view) ≡ none
        → descend (suc level) n c k above t e
        ≡ record { table = (enter n c (numbers above) t e).table; steps = some (record { place = e; page = p } ∷ above) }
    unfolding descend
    descend-ends q = rw (descend, h, q)

    pub report-ends : (x : Report) → pick k (kids e p.view) ≡ none
        → descend_report (suc level) n c k above t e x ≡ adds (reason_at n t e) x
    unfolding descend_report
    report-ends x q = rw (descend_report, h, q)

    pub report-below : (x : Report) (d : Place) → pick k (kids e p.view) ≡ some d
        → descend_report (suc level) n c k above t e x
        ≡ descend_report level n c k (record { place = e; page = p } ∷ above) (enter n c (numbers above) t e).table d (adds (reason_at n t e) x)
    unfolding descend_report
    report-below x d q = rw (descend_report, h, q)

    pub descend-below : (d : Place) → pick k (kids e p.view) ≡ some d
        → descend (suc level) n c k above t e
        ≡ descend level n c k (record { place = e; page = p } ∷ above) (enter n c (numbers above) t e).table d
    unfolding descend
    descend-below d q = rw (descend, h, q)

-- ── Over a range ────────────────────────────────────────────────────────────────────────────────────────────────

module _ (level n c : ℕ) (a : Asked) (above : List ℕ) (e : Place) (w : Walked) where
  pub walk-past : enters a e w ≡ false → walk (suc level) n c a above e w ≡ w
  unfolding walk
  walk-past h = rw (walk, h)

  pub walk-damaged : enters a e w ≡ true → (enter n c above w.table e).page ≡ none
      → walk (suc level) n c a above e w ≡ stops w (enter n c above w.table e).table
  unfolding walk
  walk-damaged h p = rw (walk, h, p)

  pub walk-entered : enters a e w ≡ true → (p : Page) → (enter n c above w.table e).page ≡ some p
      → walk (suc level) n c a above e w
      ≡ walk_each (walk level n c a (e.child ∷ above)) (kids e p.view) (finds a p.view (noted n e w) (enter n c above w.table e).table)
  unfolding walk
  walk-entered h p q = rw (walk, h, q)

-- with no room the walk ends before the root, and the table stays
pub walk_none : (n c : ℕ) (a : Asked) (t : List ℕ) → a.room ≡ 0 → walk_of n c a t ≡ unwalked t
unfolding walk_of enters every
walk_none n c a t h = walk-past 2 n c a [] (root_place t) (unwalked t) (rw (le-ltb 0 a.room (omega arith)))
