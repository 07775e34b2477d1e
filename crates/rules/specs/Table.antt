-- A table of n pages, and page 0, which names the root.
--
--   page 0:   0 kind 9 (2)   2 n (2)   4 number (4)   8 root (2)   10 root's previous (2)   12 root's birth (4)
use Rattle.std.specs.Prelude.{◌≡◌, ℕ, ◌-◌, ◌*◌, ◌/◌, ◌%◌, ◌≤◌, Bool, List, [], ◌∷◌, ◌++◌, length, take, drop, ◌==◌, nat_lt}
use Rattle.fields.specs.Field.{le_at, put_at}
use Rattle.rules.specs.Layout.{page_size, fewest_pages, most_pages, zero_kind}
use Rattle.rules.specs.Test.{between, every}
use Rattle.rules.specs.Page.{Page, page_in, build_bytes, change_bytes, shrink_bytes}

-- ── Pages of a table ────────────────────────────────────────────────────────────────────────────────────────────

unfoldable pub page_at : List ℕ → ℕ → List ℕ
page_at t i = take page_size (drop (i * page_size) t)

unfoldable pub set_page : List ℕ → ℕ → List ℕ → List ℕ
set_page t i q = take (i * page_size) t ++ (q ++ drop page_size (drop (i * page_size) t))

unfoldable pub read : List ℕ → ℕ → Page
read t i = page_in (page_at t i)

-- page i becomes a page that a call builds
unfoldable pub build : List ℕ → ℕ → Page → List ℕ
build t i p = set_page t i (build_bytes p)

-- page i is changed where it stands
unfoldable pub change : List ℕ → ℕ → Page → List ℕ
change t i p = set_page t i (change_bytes p (page_at t i))

-- leaf i has one certificate less
unfoldable pub shrink : List ℕ → ℕ → Page → List ℕ
shrink t i p = set_page t i (shrink_bytes p (page_at t i))

-- ── Lengths ─────────────────────────────────────────────────────────────────────────────────────────────────────

unfoldable pub pages : List ℕ → ℕ
pages t = length t / page_size

-- two tables of the same length, of 4 to 128 whole pages
unfoldable pub good_lengths : List ℕ → List ℕ → Bool
good_lengths w s =
    every
    ((length w == length s)
    ∷ (length w % page_size == 0)
    ∷ between fewest_pages most_pages (pages w)
    ∷ [])

-- two tables of n whole pages each, as many as a table may have
pub record Tables (n : ℕ) (w s : List ℕ) : Type 0 where
  pub least : fewest_pages ≤ n
  pub most : n ≤ most_pages
  pub working : length w ≡ n * page_size
  pub stable : length s ≡ n * page_size

-- ── Page 0 ──────────────────────────────────────────────────────────────────────────────────────────────────────

unfoldable pub kind0 : List ℕ → ℕ
kind0 t = le_at t 0 2

unfoldable pub n0 : List ℕ → ℕ
n0 t = le_at t 2 2

unfoldable pub number0 : List ℕ → ℕ
number0 t = le_at t 4 4

unfoldable pub root0 : List ℕ → ℕ
root0 t = le_at t 8 2

unfoldable pub previous0 : List ℕ → ℕ
previous0 t = le_at t 10 2

unfoldable pub birth0 : List ℕ → ℕ
birth0 t = le_at t 12 4

unfoldable pub set_number : List ℕ → ℕ → List ℕ
set_number t number = put_at t 4 4 number

unfoldable pub set_root : List ℕ → ℕ → ℕ → ℕ → List ℕ
set_root t root previous birth = put_at (put_at (put_at t 8 2 root) 10 2 previous) 12 4 birth

-- page 0 but for its number: the bytes before it and those behind it
unfoldable pub beside_number : List ℕ → List ℕ
beside_number t = take 4 (page_at t 0) ++ drop 8 (page_at t 0)

-- what opening and every walking call ask of page 0
unfoldable pub fit0 : ℕ → List ℕ → Bool
fit0 n t =
    every
    ((kind0 t == zero_kind)
    ∷ (n0 t == n)
    ∷ between 1 (n - 1) (root0 t)
    ∷ nat_lt (previous0 t) n
    ∷ [])
