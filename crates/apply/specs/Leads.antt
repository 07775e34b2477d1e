-- What is known of a way that was walked, and of the numbers chosen for new pages.
use Rattle.std.specs.Prelude.{ℕ, zero, suc, ◌+◌, ◌-◌, ◌^◌, ◌*◌, ◌≤◌, ◌<◌, ◌≡◌, true, false, List, [], ◌∷◌, eqb, length, take, get_or, Ok}
use Rattle.std.proofs.Math.Option.{some, none}
use Rattle.fields.specs.Field.{Bytes}
use Rattle.rules.specs.Layout.{page_size, most_pages, top_kind, last_key}
use Rattle.rules.specs.Test.{mem, distinct}
use Rattle.rules.specs.Entry.{find}
use Rattle.rules.specs.Page.{is_leaf}
use Rattle.rules.specs.Table.{read}
use Rattle.rules.specs.Place.{kids, pick}
use Rattle.rules.specs.Marks.{taken, free_pages}
use Rattle.rules.specs.Walk.{Step, numbers, certs_at}
use Rattle.rules.specs.Call.{Left}
use Rattle.rules.specs.Insert.{root_splits, too_high, new_pages, no_room, Making, making, grow}
use Rattle.rules.specs.declared.Session.{Session}
use Rattle.rules.specs.Answer.{Inserted}
use Rattle.rules.proofs.Bytes.All.{All}
use Rattle.rules.proofs.Entries.Places.{Fits}
use Rattle.head.proofs.Headers.{head_of}
use Rattle.split.specs.Split.{step_at, retire_by, Grows}
use Rattle.split.specs.declared.Twins.{Twins}
use Rattle.way.specs.Ways.{no_step}
use Rattle.way.specs.declared.Step as way

-- a table of n pages, and a counter that fits its field
pub record Whole (n c : ℕ) (t : List ℕ) : Type 0 where
  pub long : length t ≡ n * page_size
  pub few : n ≤ most_pages
  pub bytes : Bytes t
  pub counter : c < 256 ^ 4

-- a page on the key's way stands in the table and fits the place that asked for it, whose range holds the key
pub record Stands (n k : ℕ) (t : List ℕ) (s : Step) : Type 0 where
  pub page : 1 ≤ s.place.child
  pub below : s.place.child < n
  pub previous : s.place.previous < n
  pub reads : read t s.place.child ≡ s.page
  pub fits : Fits n s.place s.page
  pub low : s.place.low ≤ k
  pub high : k ≤ s.place.high

-- steps from the leaf up to the root, each asked for by the one above it
abbrev pub Leads : ℕ → ℕ → List ℕ → List Step → Type 0
Leads n k t [] = ⊥
Leads n k t (s ∷ []) = Stands n k t s × (s.place.low ≡ 0) × (s.place.high ≡ last_key)
Leads n k t (s ∷ (u ∷ above)) =
    Stands n k t s
    × (mem s.place.child (numbers (u ∷ above)) ≡ false)
    × (pick k (kids u.place u.page.view) ≡ some s.place)
    × Leads n k t (u ∷ above)

-- a page that a new one may take: another than page 0 and those that were entered
pub record Fresh (n : ℕ) (entered : List ℕ) (i : ℕ) : Type 0 where
  pub page : 1 ≤ i
  pub below : i < n
  pub apart : mem i entered ≡ false

-- numbers enough for the new pages
pub record Chosen (n : ℕ) (way : List Step) (new : List ℕ) : Type 0 where
  pub fresh : All (Fresh n (numbers way)) new
  pub apart : distinct new ≡ true
  pub enough : new_pages way ≤ length new
  pub room : root_splits way ≡ true → too_high way ≡ false

-- ── Handed over in the rules' words ─────────────────────────────────────────────────────────────────────────────

-- the way ends in a leaf
abbrev pub EndsInLeaf : List Step → Type 0
EndsInLeaf [] = ⊥
EndsInLeaf (s ∷ above) = is_leaf s.page.view ≡ true

-- what an insert knows before it writes: the way stands and its leaf has not the key, pages enough are free, and the
-- numbers at hand are the lowest of them
pub record Ready (k : ℕ) (t : List ℕ) (s : Session) (steps : List Step) (chosen : List ℕ) : Type 0 where
  pub whole : Whole s.n s.c t
  pub leads : Leads s.n k t steps
  pub short : length steps ≤ top_kind
  pub ends : EndsInLeaf steps
  pub absent : find k (certs_at steps) ≡ none
  pub room : no_room steps (free_pages s (numbers steps)) ≡ false
  pub lowest : (j : ℕ) → j < new_pages steps → get_or chosen j 0 ≡ get_or (free_pages s (numbers steps)) j 0

-- ── Handed over in the code's words ─────────────────────────────────────────────────────────────────────────────

-- a page on the way is known by its place and its header
abbrev pub HeadRead : List ℕ → way.Step → Type 0
HeadRead t x = x.head ≡ head_of (read t x.place.child)

-- one step of a way
abbrev pub step_on : List way.Step → ℕ → way.Step
step_on w i = get_or w i no_step

-- the numbers of its two halves
abbrev pub twins_at : List ℕ → ℕ → Twins
twins_at chosen i = record { lower = get_or chosen (2 * i) 0; upper = get_or chosen (2 * i + 1) 0 }

-- the steps as the rules see them, where their pages stand in a table
abbrev pub steps_in : List ℕ → List way.Step → List Step
steps_in t [] = []
steps_in t (x ∷ xs) = step_at t x.place ∷ steps_in t xs

pub record ReadyWay (k : ℕ) (t : List ℕ) (s : Session) (w : List way.Step) (chosen : List ℕ) : Type 0 where
  pub len : length w ≤ top_kind
  pub heads : All (HeadRead t) w
  pub ready : Ready k t s (steps_in t w) chosen

-- the upper end of a way, and numbers for its new pages
pub record Level (c k : ℕ) (t : List ℕ) (xs : List way.Step) (chosen : List ℕ) : Type 0 where
  pub n : ℕ
  pub whole : Whole n c t
  pub leads : Leads n k t (steps_in t xs)
  pub short : length xs ≤ top_kind
  pub heads : All (HeadRead t) xs
  pub new : Chosen n (steps_in t xs) (take (new_pages (steps_in t xs)) chosen)

-- where so many pages split, from the leaf up, what a new root over all of them asks for
pub record Starts (t : List ℕ) (w : List way.Step) (chosen : List ℕ) (many : ℕ) : Type 0 where
  pub some : 1 ≤ length w
  pub len : length w ≤ top_kind
  pub short : many ≤ length w
  pub root : many ≡ length w → 2 * many < length chosen
  pub grows : many ≡ length w → Grows t (step_on w (many - 1)).place (step_on w (many - 1)).head (get_or chosen (2 * many) 0)

-- what stands above them: that new root, or the page that has room
unfoldable pub start_of : ℕ → List ℕ → List way.Step → List ℕ → ℕ → Session → Making
start_of c t w chosen many s =
    elim (eqb many (length w)) [
      | true ↦ grow c (step_at t (step_on w (many - 1)).place) (get_or chosen (2 * many) 0) (making t s 0)
      | false ↦ making t s (step_on w many).place.child
    ]

-- ── The session's part ──────────────────────────────────────────────────────────────────────────────────────────

-- the halves of a step's page are taken, and the page retires
abbrev pub marks_at : ℕ → List way.Step → List ℕ → ℕ → Session → Session
marks_at c w chosen j s =
    retire_by c (step_on w j).place.child (step_on w j).head
    (taken (get_or chosen (2 * j + 1) 0) (taken (get_or chosen (2 * j) 0) s))

-- so for the last so many steps, the highest first
unfoldable pub marks_for : ℕ → List way.Step → List ℕ → ℕ → Session → Session
marks_for c w chosen zero s = s
marks_for c w chosen (suc j) s = marks_for c w chosen j (marks_at c w chosen j s)

-- a new root's page is taken before them
unfoldable pub root_marked : List way.Step → List ℕ → ℕ → Session → Session
root_marked w chosen many s = elim (eqb many (length w)) [ true ↦ taken (get_or chosen (2 * many) 0) s | false ↦ s ]

unfoldable pub marks_by : List way.Step → List ℕ → ℕ → Session → Session
marks_by w chosen many s = marks_for s.c w chosen many (root_marked w chosen many s)

-- numbers that have marks: of the pages that split and of their halves
pub record Numbered (w : List way.Step) (chosen : List ℕ) (many : ℕ) : Type 0 where
  pub short : many ≤ length w
  pub len : length w ≤ top_kind
  pub enough : 2 * many ≤ length chosen
  pub child : (j : ℕ) → j < many → (step_on w j).place.child < most_pages
  pub lower : (j : ℕ) → j < many → get_or chosen (2 * j) 0 < most_pages
  pub upper : (j : ℕ) → j < many → get_or chosen (2 * j + 1) 0 < most_pages

-- ── Handed over apart ───────────────────────────────────────────────────────────────────────────────────────────

-- to the work on pages no more of the session than its counter
pub record ReadyPages (c k : ℕ) (t : List ℕ) (w : List way.Step) (chosen : List ℕ) : Type 0 where
  pub session : Session
  pub counter : session.c ≡ c
  pub ready : ReadyWay k t session w chosen

-- to the session's part neither key nor table
pub record ReadySession (s : Session) (w : List way.Step) (chosen : List ℕ) : Type 0 where
  pub key : ℕ
  pub table : List ℕ
  pub ready : ReadyWay key table s w chosen

-- what is left by an insert that is done
abbrev pub done : Session → List ℕ → List ℕ → Left Inserted
done s w t = record { answer = Ok tt; session = s; working = w; stable = t }
