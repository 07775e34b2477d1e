-- A store's file, read into a fresh store.
use Rattle.std.specs.Prelude.{ℕ, ◌≤◌, ◌≡◌, true, List, length, Ok}
use Rattle.rules.specs.Layout.{last_key}
use Rattle.rules.specs.Walk.{Walked, walk_of}
use Rattle.rules.specs.Report.{Reported}
use Rattle.rules.specs.Call.{Left}
use Rattle.rules.specs.List.{list}
use Rattle.rules.specs.History.{Event, State, run, start, AllProper}
use Rattle.rules.specs.Demand.{Lent, SameListing, list_now}
use Rattle.exchange.specs.Written.{is_set, file_of}
use Rattle.exchange.specs.ReadFile.{Read, read_file}
use Rattle.rules.specs.declared.Session.{Session}
use Rattle.rules.specs.declared.Asked.{Asked}
use Rattle.reading.specs.Agreeing.{held, Passes}

-- the file of a store: that of its certificates, which a listing from key 0 with room for all shows
unfoldable pub file_in : Session → List ℕ → List ℕ
file_in s w = file_of (held s w)

-- a store's file read into another
abbrev pub carried : State → State → Reported (Left Read)
carried m into = read_file into.working into.stable into.session (file_in m.session m.working)

-- it passes opening's tests and has the same listing from any start into any lists, and the same file again
pub record SameStore (m : State) (r : Left Read) : Type 0 where
  pub passes : Passes r.working r.stable r.session
  pub holds : held r.session r.working ≡ held m.session m.working
  pub lists : (from : ℕ) (ks xs : List ℕ) → SameListing (list r.working r.stable r.session from ks xs) (list_now m from ks xs)
  pub bytes : file_in r.session r.working ≡ file_in m.session m.working

-- ── The promises ────────────────────────────────────────────────────────────────────────────────────────────────

-- a listing from key 0 with room for all; no table shows more than this many
abbrev pub everything_in : ℕ → Asked
everything_in room = record { low = 0; high = last_key; room = room }

pub record FindsAll (w : List ℕ) (s : Session) (found : Walked) : Type 0 where
  pub whole : found.whole ≡ true
  pub all : found.found ≡ held s w

-- in tables of any bytes that pass opening's tests, the walk of such a listing meets no damage and finds what is held
unfoldable pub ListingFinds : Type 0
ListingFinds =
    (w t : List ℕ) (s : Session) → Passes w t s → (room : ℕ) → 37240 ≤ room → FindsAll w s (walk_of s.n s.c (everything_in room) w)

-- what is held there is a set of certificates; so its file is accepted
unfoldable pub HeldIsSet : Type 0
HeldIsSet = (w t : List ℕ) (s : Session) → Passes w t s → is_set (held s w) ≡ true

-- at every point of every history while the last opening was done: the file, read into a store fresh from format and open
-- with every certificate done
unfoldable pub RoundTrip : Type 0
RoundTrip =
    (n : ℕ) (w s : List ℕ) → Lent n w s → (h : List Event) → AllProper n h → (run h (start w s)).session.n ≡ n
    → (p : ℕ) (w' s' : List ℕ) → Lent p w' s'
    → (carried (run h (start w s)) (start w' s')).left.answer ≡ Ok (length (held (run h (start w s)).session (run h (start w s)).working))
    → SameStore (run h (start w s)) (carried (run h (start w s)) (start w' s')).left
