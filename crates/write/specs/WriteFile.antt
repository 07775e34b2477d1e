-- The exchange file, written (K4): the file of what a listing from key 0 with room for all finds.
use Rattle.std.specs.Prelude.{ℕ, true, false, List, leb, length, Result, Ok, Err}
use Rattle.rules.specs.Page.{over}
use Rattle.rules.specs.Table.{fit0}
use Rattle.rules.specs.Report.{Reported}
use Rattle.rules.specs.Walk.{Walked, walk_of}
use Rattle.rules.specs.Call.{lengths_for, answer_no}
use Rattle.rules.specs.Reports.{once_tested}
use Rattle.rules.specs.declared.Session.{Session}
use Rattle.exchange.specs.Written.{file_of}
use Rattle.counts.specs.Tally.{everything}
use Rattle.write.specs.declared.WriteError.{WriteError}

-- what the call answers: the file's length, or why there is none
abbrev pub Written : Type 0
Written = Result ℕ WriteError

-- the call leaves the lent output too
pub record WriteLeft : Type 0 where
  pub answer : Written
  pub session : Session
  pub working : List ℕ
  pub stable : List ℕ
  pub out : List ℕ

-- the file stands over the start of the output, and its length is told; output beyond it stays
unfoldable pub write_done : Session → List ℕ → List ℕ → List ℕ → List ℕ → WriteLeft
write_done s w t file out = record {
  answer = Ok (length file);
  session = s;
  working = w;
  stable = t;
  out = over file out;
}

-- every refusal leaves the output untouched
unfoldable pub write_refused : Written → Session → List ℕ → List ℕ → List ℕ → WriteLeft
write_refused answer s w t out = record {
  answer = answer;
  session = s;
  working = w;
  stable = t;
  out = out;
}

-- short, if the output cannot hold the file; given last
unfoldable pub write_whole : Session → List ℕ → List ℕ → List ℕ → List ℕ → WriteLeft
write_whole s w t file out =
    elim (leb (length file) (length out))
    [ true ↦ write_done s w t file out | false ↦ write_refused (Err WriteError.Short) s w t out ]

-- what was mended stands with every answer
unfoldable pub write_walked : Session → List ℕ → Walked → List ℕ → WriteLeft
write_walked s t walked out =
    elim walked.whole [
      | false ↦ write_refused (Err WriteError.Damaged) s walked.table t out
      | true ↦ write_whole s walked.table t (file_of walked.found) out
    ]

unfoldable pub write_file : List ℕ → List ℕ → Session → List ℕ → WriteLeft
write_file w t s out =
    elim (lengths_for s w t) [
      | false ↦ write_refused (Err WriteError.Length) s w t out
      | true ↦ elim (fit0 s.n w) [
        | false ↦ write_refused (Err WriteError.Damaged) s w t out
        | true ↦ write_walked s t (walk_of s.n s.c everything w) out
      ]
    ]

-- and what it reports (K5)
unfoldable pub write_reported : List ℕ → List ℕ → Session → List ℕ → Reported WriteLeft
write_reported w t s out = record {
  left = write_file w t s out;
  report = once_tested s w t true (walk_of s.n s.c everything w).report;
}

-- ── The paper's numbers ─────────────────────────────────────────────────────────────────────────────────────────

unfoldable pub write_error_no : WriteError → ℕ
write_error_no WriteError.Length = 1
write_error_no WriteError.Damaged = 3
write_error_no WriteError.Short = 9

abbrev pub written_no : Written → ℕ
written_no = answer_no write_error_no

unfoldable pub written_length : Written → ℕ
written_length (Ok k) = k
written_length (Err e) = 0
