-- A place: what a parent's entry asks of its child. When a page fits it, and what is shown there if none does.
use Rattle.std.specs.Prelude.{ℕ, ◌-◌, Bool, true, false, not, ◌||◌, List, [], ◌∷◌, ◌==◌, nat_le, Some, None, is_none}
use Rattle.std.specs.Prelude as std
use Rattle.std.proofs.Math.Option.{Option, some, none}
use Rattle.rules.specs.Layout.{last_key}
use Rattle.rules.specs.Test.{between, every, mem}
use Rattle.rules.specs.Entry.{Child, keys, cut}
use Rattle.rules.specs.Page.{View, Page, is_leaf, fresh}
use Rattle.rules.specs.Table.{read, root0, previous0, birth0}
use Rattle.rules.specs.Sound.{sound}
use Rattle.rules.specs.declared.Place.{Place}
use Rattle.rules.specs.declared.Reason.{Reason}

-- ── The places that a table asks for ────────────────────────────────────────────────────────────────────────────

-- the root counts as a child, and page 0's root, previous and birth as its entry; its range is every key, and it may be of
-- any kind, which is what want = 0 asks for
unfoldable pub root_place : List ℕ → Place
root_place t = record {
  child = root0 t;
  previous = previous0 t;
  birth = birth0 t;
  low = 0;
  high = last_key;
  want = 0;
}

-- a child's high is the next entry's key less 1, or the page's high
unfoldable pub high_before : ℕ → List Child → ℕ
high_before high [] = high
high_before high (y ∷ ys) = y.key - 1

unfoldable pub place_of : ℕ → ℕ → Child → Place
place_of want high x = record {
  child = x.value.child;
  previous = x.value.previous;
  birth = x.value.birth;
  low = x.key;
  high = high;
  want = want;
}

unfoldable pub places_in : ℕ → ℕ → List Child → List Place
places_in want high [] = []
places_in want high (x ∷ xs) = place_of want (high_before high xs) x ∷ places_in want high xs

-- the places that the entries of what is shown at e ask for, one kind lower; none under a leaf
unfoldable pub kids : Place → View → List Place
kids e v = places_in (v.kind - 1) e.high v.children

-- the place whose range holds a key
unfoldable pub pick : ℕ → List Place → Option Place
pick k [] = none
pick k (e ∷ es) = elim (between e.low e.high k) [ true ↦ some e | false ↦ pick k es ]

-- ── Fits, or lost ───────────────────────────────────────────────────────────────────────────────────────────────

unfoldable pub kind_asked : ℕ → ℕ → Bool
kind_asked want kind = want == 0 || want == kind

-- why a page is lost; none of one that fits
abbrev pub Why : Type 0
Why = std.Option Reason

-- a test, and the reason that its failure is
pub record Trial : Type 0 where
  pub passes : Bool
  pub reason : Reason

abbrev pub trial : Bool → Reason → Trial
trial passes reason = record { passes = passes; reason = reason }

-- the reason of the first test that fails
unfoldable pub first_failed : List Trial → Why
first_failed [] = None
first_failed (x ∷ xs) = elim x.passes [ true ↦ first_failed xs | false ↦ Some x.reason ]

-- the first test of a place that a page fails: soundness, kind, birth, range
unfoldable pub unfit : ℕ → Place → Page → Why
unfit n e p =
    first_failed
    (trial (sound n p) Reason.Soundness
    ∷ trial (kind_asked e.want p.view.kind) Reason.Kind
    ∷ trial (p.birth == e.birth) Reason.Birth
    ∷ trial (p.low == e.low) Reason.Range
    ∷ trial (p.high == e.high) Reason.Range
    ∷ [])

-- a page fits a place if it fails none; one that does not is lost
unfoldable pub fits : ℕ → Place → Page → Bool
fits n e p = is_none (unfit n e p)

-- ── Mended, or damaged ──────────────────────────────────────────────────────────────────────────────────────────

-- what the previous page must be for a lost child to be mended from it; else the place is damaged
unfoldable pub mendable : ℕ → Place → Page → Bool
mendable n e q =
    every
    (between 1 (n - 1) e.previous
    ∷ not (e.previous == e.child)
    ∷ sound n q
    ∷ kind_asked e.want q.view.kind
    ∷ nat_le q.low e.low
    ∷ nat_le e.high q.high
    ∷ (is_leaf q.view || mem e.low (keys q.view.children))
    ∷ [])

-- the entries with keys in a range
unfoldable pub cut_view : ℕ → ℕ → View → View
cut_view low high v = record {
  kind = v.kind;
  certs = cut low high v.certs;
  children = cut low high v.children;
}

-- the page that mending builds from the previous page
unfoldable pub mended : ℕ → Place → Page → Page
mended c e q = fresh c e.birth e.low e.high (cut_view e.low e.high q.view)

-- what a place shows, mending nothing: none where it is damaged. That a child with the number of a page above it is damaged
-- too is asked where the pages above are known: in Enter.enter, and in Tree.good_tree, as a number named twice.
unfoldable pub show : ℕ → List ℕ → Place → Option View
show n t e =
    elim (fits n e (read t e.child)) [
      | true ↦ some (read t e.child).view
      | false ↦ elim (mendable n e (read t e.previous))
          [ true ↦ some (cut_view e.low e.high (read t e.previous).view) | false ↦ none ]
    ]
