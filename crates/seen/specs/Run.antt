-- What a place shows, as a run of entries of one page of the table: the child's own page or, if the child is lost, its
-- previous one, cut to the place's range.
use Rattle.std.specs.Prelude.{◌≡◌, ℕ, zero, suc, ◌+◌, ◌-◌, ◌*◌, ◌<◌, ◌≤◌, true, false, List, [], ◌∷◌, length, drop, ◌==◌, ◌≢◌, nat_le, Option, Some, None}
use Rattle.fields.specs.Field.{le_at}
use Rattle.rules.specs.Layout.{page_size, inner_header, child_size, leaf_room, inner_room, leaf_kind}
use Rattle.rules.specs.Entry.{Child, cut}
use Rattle.rules.specs.Page.{read_each, child_in}
use Rattle.rules.specs.Table.{page_at, read}
use Rattle.rules.specs.Place.{place_of, places_in, high_before, fits, mendable}
use Rattle.rules.specs.declared.Place.{Place}
use Rattle.head.specs.Head.{child_at}
use Rattle.seen.specs.declared.Run.{Run}

-- so many entries of a page, from an index on
abbrev pub entries_from : ℕ → ℕ → List ℕ → List Child
entries_from first left b = read_each child_in child_size left (drop (inner_header + child_size * first) b)

unfoldable pub entries_in : List ℕ → ℕ → ℕ → ℕ → List Child
entries_in t page first left = entries_from first left (page_at t page)

-- how many entries stand at the front with keys up to k, and with keys below low
unfoldable pub up_to : ℕ → List Child → ℕ
up_to k [] = 0
up_to k (x ∷ xs) = elim (nat_le x.key k) [ true ↦ suc (up_to k xs) | false ↦ 0 ]

unfoldable pub below : ℕ → List Child → ℕ
below zero xs = 0
below (suc k) xs = up_to k xs

unfoldable pub kind_at : List ℕ → ℕ → ℕ
kind_at t page = le_at (page_at t page) 0 2

unfoldable pub count_at : List ℕ → ℕ → ℕ
count_at t page = le_at (page_at t page) 2 2

-- a leaf has no entries to walk; those of an inner page with keys in a range
unfoldable pub first_of : List ℕ → ℕ → ℕ → ℕ
first_of t page low = below low (entries_in t page 0 (count_at t page))

unfoldable pub left_of : List ℕ → ℕ → ℕ → ℕ → ℕ
left_of t page first high = up_to high (entries_in t page first (count_at t page - first))

unfoldable pub run_of : List ℕ → ℕ → ℕ → ℕ → Run
run_of t page low high =
    elim (kind_at t page == leaf_kind) [
      | true ↦ record { page = page; first = 0; left = 0; want = 0 }
      | false ↦ record {
        page = page;
        first = first_of t page low;
        left = left_of t page (first_of t page low) high;
        want = kind_at t page - 1;
      }
    ]

-- a page that can be looked through
pub record Runs (t : List ℕ) (page : ℕ) : Type 0 where
  pub inside : (page + 1) * page_size ≤ length t
  pub kind : 1 ≤ kind_at t page
  pub room : (kind_at t page ≢ leaf_kind) → count_at t page ≤ inner_room

-- a page whose certificates can be counted; those of a place's own child are all in its range
pub record Roomy (t : List ℕ) (page : ℕ) : Type 0 where
  pub inside : (page + 1) * page_size ≤ length t
  pub room : kind_at t page ≡ leaf_kind → count_at t page ≤ leaf_room

pub record Counts (t : List ℕ) (e : Place) (page : ℕ) : Type 0 where
  pub roomy : Roomy t page
  pub own : page ≡ e.child → cut e.low e.high (read t page).view.certs ≡ (read t page).view.certs

unfoldable pub shown_of : ℕ → List ℕ → Place → Option Run
shown_of n t e =
    elim (fits n e (read t e.child)) [
      | true ↦ Some (run_of t e.child e.low e.high)
      | false ↦ elim (mendable n e (read t e.previous))
          [ true ↦ Some (run_of t e.previous e.low e.high) | false ↦ None ]
    ]

-- ── Walking a run ───────────────────────────────────────────────────────────────────────────────────────────────

-- the places that a run's entries ask for, the last one up to high
unfoldable pub places : List ℕ → ℕ → Run → List Place
places t high r = places_in r.want high (entries_in t r.page r.first r.left)

-- the end of the first entry's range, its place, and the run behind it
unfoldable pub end_of : List ℕ → ℕ → Run → ℕ
end_of t high r = high_before high (entries_in t r.page (r.first + 1) (r.left - 1))

unfoldable pub place_in : List ℕ → ℕ → Run → Place
place_in t high r = place_of r.want (end_of t high r) (child_at (page_at t r.page) r.first)

abbrev pub rest_of : Run → Run
rest_of r = record { page = r.page; first = r.first + 1; left = r.left - 1; want = r.want }

-- a run that lies in its page, and the page in the table
pub record Lies (n : ℕ) (r : Run) : Type 0 where
  pub page : r.page < n
  pub end : r.first + r.left ≤ inner_room
