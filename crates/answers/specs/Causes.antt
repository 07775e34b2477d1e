-- For each call the conditions of the answers that it can give, in document 01's words and order.
use Rattle.std.specs.Prelude.{ℕ, ◌<◌, ◌≡◌, ◌⊎◌, true, false, List, [], ◌∷◌, length}
use Rattle.std.proofs.Math.Option.{Option, some, none}
use Rattle.rules.specs.Layout.{last_number}
use Rattle.rules.specs.Key.{key_of}
use Rattle.rules.specs.Entry.{Cert, find}
use Rattle.rules.specs.Table.{pages, number0, fit0, Tables}
use Rattle.rules.specs.Walk.{Step, numbers, certs_at, way_of, walk_of}
use Rattle.rules.specs.Marks.{free_pages}
use Rattle.rules.specs.Insert.{splitting, too_soon, root_splits, new_pages, too_high}
use Rattle.rules.specs.Newest.{meter}
use Rattle.rules.specs.HasAny.{first_of}
use Rattle.rules.specs.List.{up_from}
use Rattle.rules.specs.declared.Session.{Session}
use Rattle.rules.specs.declared.Asked.{Asked}
use Rattle.exchange.specs.Written.{is_set, file_of}
use Rattle.answers.specs.Given.{Cause, ◌when◌}
use Rattle.answers.specs.OneKey.{MeetsDamage}
use Rattle.answers.specs.Range.{MeetsDamageIn}
use Rattle.answers.specs.AsItStands.{HasDamage, NamedTwice, ChildSpared}

-- ── 1 length ────────────────────────────────────────────────────────────────────────────────────────────────────

-- a table isn't 512 × n, 4 ≤ n ≤ 128; or two differ
abbrev pub BadTables : List ℕ → List ℕ → Type 0
BadTables w t = (n : ℕ) → Tables n w t → ⊥

-- or the session's n differs
abbrev pub BadLengths : Session → List ℕ → List ℕ → Type 0
BadLengths s w t = Tables s.n w t → ⊥

-- ── 2 badkey ────────────────────────────────────────────────────────────────────────────────────────────────────

-- a zero model, serial or issue
abbrev pub BadKey : ℕ → ℕ → ℕ → Type 0
BadKey model serial issue = (model ≡ 0) ⊎ ((serial ≡ 0) ⊎ (issue ≡ 0))

-- newest and has-any: model or serial
abbrev pub BadMeter : ℕ → ℕ → Type 0
BadMeter model serial = (model ≡ 0) ⊎ (serial ≡ 0)

-- ── 3 damaged ───────────────────────────────────────────────────────────────────────────────────────────────────

-- page 0 is unfit, or a place that the walk of a key enters is damaged
abbrev pub DamagedWay : Session → ℕ → List ℕ → Type 0
DamagedWay s k w = (fit0 s.n w ≡ false) ⊎ MeetsDamage s.n s.c k w

-- page 0 is unfit, or a place that the walk over a range enters is damaged
abbrev pub DamagedRange : Session → Asked → List ℕ → Type 0
DamagedRange s a w = (fit0 s.n w ≡ false) ⊎ MeetsDamageIn s.n s.c a w

-- page 0 is unfit, or an opening test fails: the tree as it stands has a damaged place, a number named twice as child,
-- or a child that a lost entry names as previous
abbrev pub DamagedTree : List ℕ → Type 0
DamagedTree t =
    (fit0 (pages t) t ≡ false) ⊎ (HasDamage (pages t) t ⊎ (NamedTwice (pages t) t ⊎ ChildSpared (pages t) t))

-- what a call for one key answers before its walk: 1, 2, and 3 for an unfit page 0
abbrev pub BeforeWalk : List ℕ → List ℕ → Session → ℕ → ℕ → ℕ → Type 0
BeforeWalk w t s model serial issue = BadLengths s w t ⊎ (BadKey model serial issue ⊎ (fit0 s.n w ≡ false))

-- ── 4 none, 5 present, 6 syncfirst, 7 full ──────────────────────────────────────────────────────────────────────

-- the pages entered on a way without damage, leaf first
unfoldable pub steps_in : Option (List Step) → List Step
steps_in none = []
steps_in (some steps) = steps

abbrev pub entered : Session → ℕ → List ℕ → List Step
entered s k w = steps_in (way_of s.n s.c k w).steps

-- what the pages entered read under the key
abbrev pub under : Session → ℕ → List ℕ → Option ℕ
under s k w = find k (certs_at (entered s k w))

-- the key is there, any record
abbrev pub Present : Session → ℕ → List ℕ → Type 0
Present s k w = (x : ℕ) × (under s k w ≡ some x)

-- a full parent that must split has touched = c
abbrev pub SyncFirst : Session → List Step → Type 0
SyncFirst s way = too_soon s.c (splitting way) ≡ true

-- free pages are fewer than the new pages needed, or a kind 3 root must split
abbrev pub Full : Session → List Step → Type 0
Full s way =
    (length (free_pages s (numbers way)) < new_pages way) ⊎ ((root_splits way ≡ true) × (too_high way ≡ true))

-- ── 11 file ─────────────────────────────────────────────────────────────────────────────────────────────────────

-- it is the file of no set of certificates
abbrev pub BadFile : List ℕ → Type 0
BadFile f = (cs : List Cert) → is_set cs ≡ true → f ≡ file_of cs → ⊥

-- ── The calls ───────────────────────────────────────────────────────────────────────────────────────────────────

abbrev pub format_causes : List ℕ → List ℕ → List Cause
format_causes w s = (1 when BadTables w s) ∷ []

abbrev pub open_causes : List ℕ → List ℕ → List Cause
open_causes w s = (1 when BadTables w s) ∷ (3 when DamagedTree s) ∷ (8 when (last_number < number0 s)) ∷ []

abbrev pub insert_causes : List ℕ → List ℕ → Session → ℕ → ℕ → ℕ → List Cause
insert_causes w t s model serial issue =
    let k = key_of model serial issue in
    (1 when BadLengths s w t)
    ∷ (2 when BadKey model serial issue)
    ∷ (3 when DamagedWay s k w)
    ∷ (5 when Present s k w)
    ∷ (6 when SyncFirst s (entered s k w))
    ∷ (7 when Full s (entered s k w))
    ∷ []

-- of the batch itself; each of its items answers as an insert does
abbrev pub batch_causes : List ℕ → List ℕ → Session → List Cause
batch_causes w t s = (1 when BadLengths s w t) ∷ []

-- of the call that reads a file; each of its certificates answers as an insert does
abbrev pub read_causes : List ℕ → List ℕ → Session → List ℕ → List Cause
read_causes w t s f = (1 when BadLengths s w t) ∷ (11 when BadFile f) ∷ []

abbrev pub lookup_causes : List ℕ → List ℕ → Session → ℕ → ℕ → ℕ → List Cause
lookup_causes w t s model serial issue =
    let k = key_of model serial issue in
    (1 when BadLengths s w t)
    ∷ (2 when BadKey model serial issue)
    ∷ (3 when DamagedWay s k w)
    ∷ (4 when (under s k w ≡ none))
    ∷ []

-- a withdrawal is refused where a lookup is
abbrev pub withdraw_causes : List ℕ → List ℕ → Session → ℕ → ℕ → ℕ → List Cause
withdraw_causes w t s model serial issue = lookup_causes w t s model serial issue

abbrev pub newest_causes : List ℕ → List ℕ → Session → ℕ → ℕ → List Cause
newest_causes w t s model serial =
    (1 when BadLengths s w t)
    ∷ (2 when BadMeter model serial)
    ∷ (3 when DamagedRange s (meter model serial) w)
    ∷ (4 when ((walk_of s.n s.c (meter model serial) w).found ≡ []))
    ∷ []

-- what lies beyond the first certificate found is not entered, and yes and no are both 0
abbrev pub any_causes : List ℕ → List ℕ → Session → ℕ → ℕ → List Cause
any_causes w t s model serial =
    (1 when BadLengths s w t) ∷ (2 when BadMeter model serial) ∷ (3 when DamagedRange s (first_of model serial) w) ∷ []

abbrev pub list_causes : List ℕ → List ℕ → Session → ℕ → List ℕ → List ℕ → List Cause
list_causes w t s start ks xs = (1 when BadLengths s w t) ∷ (3 when DamagedRange s (up_from start ks xs) w) ∷ []

abbrev pub sync_causes : List ℕ → List ℕ → Session → List Cause
sync_causes w t s = (1 when BadLengths s w t) ∷ (8 when (last_number < s.c)) ∷ []
