-- Histories of a store, as demand 3 speaks of them: after a format and an opening any calls but format, each given
-- the session that the last one returned, and any number of crashes, each with an opening after it.
--
-- Beside the pages a history keeps, for each key, the states it has had since the last successful sync or opening.
-- They are folded from the calls and their answers; no page is read for them.
use Rattle.std.specs.Prelude.{◌≡◌, ℕ, ◌*◌, ◌<◌, Bool, true, false, List, [], ◌∷◌, length, ◌==◌, Ok, Err}
use Rattle.std.proofs.Math.Option.{Option, some, none}
use Rattle.rules.specs.Layout.{page_size}
use Rattle.rules.specs.Key.{key_of, model_of, serial_of, issue_of}
use Rattle.rules.specs.Call.{Left}
use Rattle.rules.specs.Format.{format}
use Rattle.rules.specs.Open.{opening}
use Rattle.rules.specs.Insert.{insert}
use Rattle.rules.specs.Withdraw.{withdraw}
use Rattle.rules.specs.Lookup.{lookup}
use Rattle.rules.specs.Newest.{newest}
use Rattle.rules.specs.HasAny.{has_any}
use Rattle.rules.specs.List.{list}
use Rattle.rules.specs.Sync.{sync}
use Rattle.rules.specs.Crash.{crashed, inside_sync}
use Rattle.rules.specs.declared.Session.{Session}
use Rattle.rules.specs.Answer.{Opened, Inserted, Withdrawn, Looked, Synced}

-- ── What can happen ─────────────────────────────────────────────────────────────────────────────────────────────

-- a call with its arguments; or a crash with the pages that it writes and the working table that the opening after it is
-- lent, which has nothing to do with the one before
pub data Event : Type 0 where
  inserts : ℕ → ℕ → ℕ → ℕ → Event
  withdraws : ℕ → ℕ → ℕ → Event
  looks : ℕ → ℕ → ℕ → Event
  asks_newest : ℕ → ℕ → Event
  asks_any : ℕ → ℕ → Event
  lists : ℕ → List ℕ → List ℕ → Event
  syncs : Event
  opens : Event
  crashes : List Bool → List ℕ → Event
  crashes_in_sync : List Bool → List ℕ → Event

-- a store between two calls, what the last opening answered, and the states of each key, newest first
pub record State : Type 0 where
  pub session : Session
  pub working : List ℕ
  pub stable : List ℕ
  pub opened : Opened
  pub past : ℕ → List (Option ℕ)

-- ── The states of a key ─────────────────────────────────────────────────────────────────────────────────────────

-- the state now, and the state at the last successful sync or opening
unfoldable pub latest : List (Option ℕ) → Option ℕ
latest [] = none
latest (x ∷ xs) = x

unfoldable pub earliest : List (Option ℕ) → Option ℕ
earliest [] = none
earliest (x ∷ []) = x
earliest (x ∷ (y ∷ ys)) = earliest (y ∷ ys)

-- what a lookup that answers 0 found
unfoldable pub record_in : Looked → Option ℕ
record_in (Ok x) = some x
record_in (Err e) = none

-- what a lookup of a key would answer
unfoldable pub content : Session → List ℕ → List ℕ → ℕ → Option ℕ
content s w t k = record_in (lookup w t s (model_of k) (serial_of k) (issue_of k)).answer

-- a key got a record or lost it: a state more for that key
unfoldable pub gains : ℕ → Option ℕ → (ℕ → List (Option ℕ)) → ℕ → List (Option ℕ)
gains k state past j = elim (j == k) [ true ↦ state ∷ past j | false ↦ past j ]

-- ── One step ────────────────────────────────────────────────────────────────────────────────────────────────────

unfoldable pub after_insert : ℕ → ℕ → State → Left Inserted → State
after_insert k x m r = record {
  session = r.session;
  working = r.working;
  stable = r.stable;
  opened = m.opened;
  past =
      elim r.answer [
        | Ok u ↦ gains k (some x) m.past
        | Err e ↦ m.past
      ];
}

unfoldable pub after_withdraw : ℕ → State → Left Withdrawn → State
after_withdraw k m r = record {
  session = r.session;
  working = r.working;
  stable = r.stable;
  opened = m.opened;
  past =
      elim r.answer [
        | Ok u ↦ gains k none m.past
        | Err e ↦ m.past
      ];
}

unfoldable pub after_sync : State → Left Synced → State
after_sync m r = record {
  session = r.session;
  working = r.working;
  stable = r.stable;
  opened = m.opened;
  past =
      elim r.answer [
        | Ok u ↦ λ k. latest (m.past k) ∷ []
        | Err e ↦ m.past
      ];
}

-- a successful opening starts the states of every key anew, with what a lookup now answers
unfoldable pub after_open : (ℕ → List (Option ℕ)) → Left Opened → State
after_open past r = record {
  session = r.session;
  working = r.working;
  stable = r.stable;
  opened = r.answer;
  past =
      elim r.answer [
        | Ok u ↦ λ k. content r.session r.working r.stable k ∷ []
        | Err e ↦ past
      ];
}

-- a call that only reads adds no state; what it hands back goes on, like that of any other call
unfoldable pub after_reading : State → Session → List ℕ → List ℕ → State
after_reading m s w t = record { session = s; working = w; stable = t; opened = m.opened; past = m.past }

-- ── Crashes ─────────────────────────────────────────────────────────────────────────────────────────────────────

-- what a crash of a store leaves in the stable table, between two calls or inside a sync
abbrev pub crash_now : List Bool → State → List ℕ
crash_now written m = crashed written m.session.n m.working m.stable

abbrev pub crash_in_sync_now : List Bool → State → List ℕ
crash_in_sync_now written m = crashed written m.session.n (inside_sync m.session m.working) m.stable

unfoldable pub step : Event → State → State
step (inserts model serial issue x) m =
    after_insert (key_of model serial issue) x m (insert m.working m.stable m.session model serial issue x)
step (withdraws model serial issue) m =
    after_withdraw (key_of model serial issue) m (withdraw m.working m.stable m.session model serial issue)
step (looks model serial issue) m =
    let r = lookup m.working m.stable m.session model serial issue in
    after_reading m r.session r.working r.stable
step (asks_newest model serial) m =
    let r = newest m.working m.stable m.session model serial in
    after_reading m r.session r.working r.stable
step (asks_any model serial) m =
    let r = has_any m.working m.stable m.session model serial in
    after_reading m r.session r.working r.stable
step (lists start ks xs) m =
    let r = list m.working m.stable m.session start ks xs in
    after_reading m r.session r.working r.stable
step syncs m = after_sync m (sync m.working m.stable m.session)
step opens m = after_open m.past (opening m.working m.stable)
step (crashes written w) m = after_open m.past (opening w (crash_now written m))
step (crashes_in_sync written w) m = after_open m.past (opening w (crash_in_sync_now written m))

-- ── Whole histories ─────────────────────────────────────────────────────────────────────────────────────────────

-- a store fresh from format and open, of two tables of any bytes
unfoldable pub start : List ℕ → List ℕ → State
start w s = after_open (λ k. []) (opening w (format w s).stable)

-- events in the order in which they happened
unfoldable pub run : List Event → State → State
run [] m = m
run (e ∷ es) m = run es (step e m)

-- arguments within the width of their type; after a crash a working table of n pages, with any bytes
unfoldable pub Proper : ℕ → Event → Type 0
Proper n (inserts model serial issue x) =
    (model < 65536) × (serial < 4294967296) × (issue < 65536) × (x < 4294967296)
Proper n (withdraws model serial issue) = (model < 65536) × (serial < 4294967296) × (issue < 65536)
Proper n (looks model serial issue) = (model < 65536) × (serial < 4294967296) × (issue < 65536)
Proper n (asks_newest model serial) = (model < 65536) × (serial < 4294967296)
Proper n (asks_any model serial) = (model < 65536) × (serial < 4294967296)
Proper n (lists start ks xs) = start < 18446744073709551616
Proper n syncs = Unit {0}
Proper n opens = Unit {0}
Proper n (crashes written w) = length w ≡ n * page_size
Proper n (crashes_in_sync written w) = length w ≡ n * page_size

unfoldable pub AllProper : ℕ → List Event → Type 0
AllProper n [] = Unit {0}
AllProper n (e ∷ es) = Proper n e × AllProper n es
