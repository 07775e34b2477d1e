-- A store between two calls, as demand 3 finds it: both tables whole, page 0 fit in both with the number c + 1, the
-- invariant and the marks.
use Rattle.std.proofs.Common.{◌≡◌, ℕ, ◌+◌, ◌*◌, ◌<◌, ◌≤◌, Bool, true, false, List, length, get_or}
use Rattle.fields.specs.Field.{Bytes}
use Rattle.rules.specs.Layout.{page_size, fewest_pages, most_pages, last_number}
use Rattle.rules.specs.Table.{fit0, number0}
use Rattle.rules.specs.declared.Session.{Session}
use Rattle.rules.proofs.Bytes.Marked.{Sized}
use Rattle.rules.proofs.Demand3.Ways.Invariant.{States, Inv, Marks}

abbrev pub free_mark : Session → ℕ → Bool
free_mark s i = get_or s.free i false

abbrev pub waiting_mark : Session → ℕ → Bool
waiting_mark s i = get_or s.waiting i false

-- only pages other than 0 are marked
pub record Paged (n : ℕ) (free waiting : ℕ → Bool) : Type 0 where
  pub free_page : {i : ℕ} → free i ≡ true → (1 ≤ i) × (i < n)
  pub waiting_page : {i : ℕ} → waiting i ≡ true → (1 ≤ i) × (i < n)

-- a table of n pages, whose page 0 is fit
pub record Whole (n : ℕ) (t : List ℕ) : Type 0 where
  pub length_is : length t ≡ n * page_size
  pub bytes : Bytes t
  pub fit : fit0 n t ≡ true

pub record Safe (s : Session) (W S : List ℕ) (Been : States) : Type 0 where
  pub sized : Sized s
  pub few : fewest_pages ≤ s.n
  pub most : s.n ≤ most_pages
  -- the counter grows no further than a sync of the last number makes it
  pub small : s.c ≤ last_number + 1
  pub working : Whole s.n W
  pub stable : Whole s.n S
  pub number_working : number0 W ≡ s.c + 1
  pub number_stable : number0 S ≡ s.c + 1
  pub inv : Inv s.n S W s.c Been
  pub paged : Paged s.n (free_mark s) (waiting_mark s)
  pub marks : Marks s.n S W (free_mark s) (waiting_mark s)
