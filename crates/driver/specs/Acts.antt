-- One line's effect on the bench program's store, in the rules' words: the call that the line asks for, with its answer
-- as what is to be printed.
use Rattle.std.specs.Prelude.{ℕ, true, false, List, eqb, Ok, Err}
use Rattle.rules.specs.Call.{Left, opened_no, inserted_no, looked_no, synced_no}
use Rattle.rules.specs.Open.{opening}
use Rattle.rules.specs.Insert.{insert}
use Rattle.rules.specs.Lookup.{lookup}
use Rattle.rules.specs.Sync.{sync}
use Rattle.rules.specs.Crash.{crashed}
use Rattle.rules.specs.declared.Session.{Session}
use Rattle.rules.specs.Answer.{Opened, Inserted, Looked, Synced}
use Rattle.lines.specs.declared.Line.{Line}
use Rattle.words.specs.declared.Reply.{Reply}
use Rattle.lines.specs.Reader.{start_of, fed_of, line_in}
use Rattle.words.specs.Words.{newline}
use Rattle.driver.specs.declared.Turn.{Turn}
use Rattle.driver.specs.declared.Bench.{Bench}
use Rattle.driver.specs.declared.Step.{Step}

-- the bench program's store has five pages
abbrev pub bench_pages : ℕ
bench_pages = 5

abbrev pub bench_bytes : ℕ
bench_bytes = 2560

-- ── What is printed ─────────────────────────────────────────────────────────────────────────────────────────────

abbrev pub inserted_reply : Inserted → Reply
inserted_reply a = Reply.Answer (inserted_no a)

abbrev pub synced_reply : Synced → Reply
synced_reply a = Reply.Answer (synced_no a)

abbrev pub opened_reply : Opened → Reply
opened_reply a = Reply.Answer (opened_no a)

-- after a successful find, the record
abbrev pub looked_reply : Looked → Reply
looked_reply (Ok x) = Reply.Record x
looked_reply (Err e) = Reply.Answer (looked_no (Err e))

-- ── What a line does ────────────────────────────────────────────────────────────────────────────────────────────

-- what a call leaves, with its answer as a reply
abbrev pub told : {A : Type 0} → (A → Reply) → Left A → Left Reply
told reply r = record { answer = reply r.answer; session = r.session; working = r.working; stable = r.stable }

-- a line of any other shape does nothing
abbrev pub acted : Line → Session → List ℕ → List ℕ → Left Reply
acted (Line.Insert model serial issue x) session w s = told inserted_reply (insert w s session model serial issue x)
acted (Line.Find model serial issue) session w s = told looked_reply (lookup w s session model serial issue)
acted Line.Sync session w s = told synced_reply (sync w s session)
acted (Line.Crash written) session w s = told opened_reply (opening w (crashed written session.n w s))
acted Line.Other session w s = record { answer = Reply.Line; session = session; working = w; stable = s }

-- what a turn of the driver leaves, from what it hands back and the two tables
abbrev pub turn_left : Turn → List ℕ → List ℕ → Left Reply
turn_left r w s = record { answer = r.reply; session = r.session; working = w; stable = s }

-- ── Byte by byte ────────────────────────────────────────────────────────────────────────────────────────────────

-- what a byte leaves: what is to be printed, where the reader is, the session, the tables
pub record Stepped : Type 0 where
  pub reply : Reply
  pub bench : Bench
  pub working : List ℕ
  pub stable : List ℕ

-- before the first byte of a line
abbrev pub fresh : Session → Bench
fresh session = record { reader = start_of; begun = false; session = session }

-- a byte of a line is read
abbrev pub fed : Bench → ℕ → Bench
fed m b = record { reader = fed_of m.reader b; begun = true; session = m.session }

abbrev pub silent : Bench → List ℕ → List ℕ → Stepped
silent m w s = record { reply = Reply.Silent; bench = m; working = w; stable = s }

abbrev pub answered : Left Reply → Stepped
answered r = record { reply = r.answer; bench = fresh r.session; working = r.working; stable = r.stable }

-- a line is at its end
abbrev pub closed : Bench → List ℕ → List ℕ → Stepped
closed m w s = answered (acted (line_in m.reader) m.session w s)

abbrev pub stepped : Bench → ℕ → List ℕ → List ℕ → Stepped
stepped m b w s = elim (eqb b newline) [ true ↦ closed m w s | false ↦ silent (fed m b) w s ]

-- the input is at its end: a last line without a newline is a line
abbrev pub finished : Bench → List ℕ → List ℕ → Stepped
finished m w s = elim m.begun [ true ↦ closed m w s | false ↦ silent m w s ]

abbrev pub step_left : Step → List ℕ → List ℕ → Stepped
step_left r w s = record { reply = r.reply; bench = r.bench; working = w; stable = s }
