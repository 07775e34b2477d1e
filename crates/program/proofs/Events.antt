-- What a line does to the store is one event of the rules' histories. So demand 3 holds of the bench program's store.
-- Assumes nothing.
use Prim.Native.Nat.{ℕ}
use mathlib.Core.Path.{◌≡◌, refl}
use mathlib.Core.List.{List}
use mathlib.Core.Option.{Option, some, none}
use Rattle.rules.specs.Call.{Left}
use Rattle.rules.specs.History.{Event, inserts, looks, syncs, crashes, State, step, after_insert, after_sync, after_open, after_reading}
use Rattle.rules.specs.Crash.{crashed}
use Rattle.rules.specs.declared.Session.{Session}
use Rattle.lines.specs.declared.Line.{Line}
use Rattle.words.specs.declared.Reply.{Reply}
use Rattle.driver.specs.Acts.{acted}

-- the event that a line stands for; the bench lends the opening after a crash the working table that it has
unfoldable pub event_of : Line → List ℕ → Option Event
event_of (Line.Insert model serial issue x) w = some (inserts model serial issue x)
event_of (Line.Find model serial issue) w = some (looks model serial issue)
event_of Line.Sync w = some syncs
event_of (Line.Crash written) w = some (crashes written w)
event_of Line.Other w = none

unfoldable pub happens : Option Event → State → State
happens none m = m
happens (some e) m = step e m

-- the store itself, without what was answered and without its past
pub record Store : Type 0 where
  pub session : Session
  pub working : List ℕ
  pub stable : List ℕ

abbrev store : Session → List ℕ → List ℕ → Store
store session w s = record { session = session; working = w; stable = s }

abbrev pub store_left : Left Reply → Store
store_left r = store r.session r.working r.stable

abbrev pub store_of : State → Store
store_of m = store m.session m.working m.stable

pub line_event : (line : Line) (m : State) → store_left (acted line m.session m.working m.stable) ≡ store_of (happens (event_of line m.working) m)
unfolding crashed event_of happens step after_insert after_sync after_open after_reading
line_event (Line.Insert model serial issue x) m = refl
line_event (Line.Find model serial issue) m = refl
line_event Line.Sync m = refl
line_event (Line.Crash written) m = refl
line_event Line.Other m = refl
