-- The way of a key: the places that a table asks for it, from the root down, mending nothing. A node is a place on some
-- key's way. Every statement about crashes speaks of nodes, so it needs no list of pages and no ranges that tile.
use Rattle.std.proofs.Common.{◌≡◌, ℕ, zero, suc, true, false, List, [], ◌∷◌}
use mathlib.Core.Option.{Option, some, none}
use Rattle.rules.specs.Layout.{leaf_kind}
use Rattle.rules.specs.Entry.{find}
use Rattle.rules.specs.Page.{View}
use Rattle.rules.specs.Table.{read}
use Rattle.rules.specs.Place.{root_place, kids, pick, fits, show}
use Rattle.rules.specs.declared.Place.{Place}

-- ── The place at a depth ────────────────────────────────────────────────────────────────────────────────────────

-- one step down from a place that shows something
unfoldable pub under : ℕ → Place → Option View → Option Place
under k e none = none
under k e (some v) = pick k (kids e v)

unfoldable pub below : ℕ → List ℕ → ℕ → Option Place → Option Place
below n t k none = none
below n t k (some e) = under k e (show n t e)

-- the place at a depth on the way of k: none below the leaf, or below a damaged place
unfoldable pub at : ℕ → List ℕ → ℕ → ℕ → Option Place
at n t k zero = pick k (root_place t ∷ [])
at n t k (suc i) = below n t k (at n t k i)

-- a place on the way of k
pub record Node (n : ℕ) (t : List ℕ) (k : ℕ) (e : Place) : Type 0 where
  pub depth : ℕ
  pub here : at n t k depth ≡ some e

-- ── What stands at a place ──────────────────────────────────────────────────────────────────────────────────────

-- the child's page fits the place, or the place is lost
abbrev pub Found : ℕ → List ℕ → Place → Type 0
Found n t e = fits n e (read t e.child) ≡ true

abbrev pub Lost : ℕ → List ℕ → Place → Type 0
Lost n t e = fits n e (read t e.child) ≡ false

-- the number of the page that a place is shown from
unfoldable pub source : ℕ → List ℕ → Place → ℕ
source n t e = elim (fits n e (read t e.child)) [ true ↦ e.child | false ↦ e.previous ]

-- a place that is not damaged
pub record Undamaged (n : ℕ) (t : List ℕ) (e : Place) : Type 0 where
  pub view : View
  pub shows : show n t e ≡ some view

-- ── What a table says of a key ──────────────────────────────────────────────────────────────────────────────────

-- the leaf on the way of k says of k: a record, or absent
pub record Tells (n : ℕ) (t : List ℕ) (k : ℕ) (state : Option ℕ) : Type 0 where
  pub place : Place
  pub view : View
  pub node : Node n t k place
  pub shows : show n t place ≡ some view
  pub leaf : view.kind ≡ leaf_kind
  pub finds : find k view.certs ≡ state
