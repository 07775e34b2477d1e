-- The round trip as the two calls make it: one writes a store's file into a lent output, the other reads it.
use Rattle.std.specs.Prelude.{ℕ, ◌≤◌, ◌≡◌, List, length, take, Ok}
use Rattle.rules.specs.Call.{Left}
use Rattle.rules.specs.History.{Event, State, run, start, AllProper}
use Rattle.rules.specs.Demand.{Lent}
use Rattle.rules.specs.declared.Session.{Session}
use Rattle.exchange.specs.ReadFile.{Read, read_file}
use Rattle.write.specs.WriteFile.{WriteLeft, written_length, write_file}
use Rattle.reading.specs.Agreeing.{held, Passes}
use Rattle.roundtrip.specs.RoundTrip.{file_in, SameStore}

-- the file in an output: as many bytes as the call told
abbrev pub file_from : WriteLeft → List ℕ
file_from r = take (written_length r.answer) r.out

-- a store's call that writes
abbrev pub written : State → List ℕ → WriteLeft
written m out = write_file m.working m.stable m.session out

-- it writes the file of what is held
pub record WritesHeld (s : Session) (w : List ℕ) (r : WriteLeft) : Type 0 where
  pub answer : r.answer ≡ Ok (length (file_in s w))
  pub file : file_from r ≡ file_in s w

-- the store that was read into is the same, and writes the same file into any output that can hold it
pub record CarriedOver (m : State) (file : List ℕ) (r : Left Read) : Type 0 where
  pub same : SameStore m r
  pub again : (out : List ℕ) → length file ≤ length out → file_from (write_file r.working r.stable r.session out) ≡ file

-- ── The promises ────────────────────────────────────────────────────────────────────────────────────────────────

-- in tables of any bytes that pass opening's tests, into an output that can hold the file
unfoldable pub WriterWrites : Type 0
WriterWrites =
    (w t : List ℕ) (s : Session) → Passes w t s → (out : List ℕ) → length (file_in s w) ≤ length out
    → WritesHeld s w (write_file w t s out)

-- at every point of every history while the last opening was done: written, and read into a store fresh from format and
-- open with every certificate done
unfoldable pub CallsCarry : Type 0
CallsCarry =
    (n : ℕ) (w s : List ℕ) → Lent n w s → (h : List Event) → AllProper n h → (run h (start w s)).session.n ≡ n
    → (out : List ℕ) → length (file_in (run h (start w s)).session (run h (start w s)).working) ≤ length out
    → (p : ℕ) (w' s' : List ℕ) → Lent p w' s'
    → let m = run h (start w s) in
    let f = file_from (written m out) in
    let r = (read_file (start w' s').working (start w' s').stable (start w' s').session f).left in
    r.answer ≡ Ok (length (held m.session m.working)) → CarriedOver m f r
