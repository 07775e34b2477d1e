-- What the call hands back, piece by piece, as the rule says it.
use Rattle.std.specs.Prelude.{ℕ, true, false, List, leb, length, Ok, Err}
use Rattle.rules.specs.Page.{over}
use Rattle.rules.specs.Report.{Reported}
use Rattle.rules.specs.Walk.{Walked}
use Rattle.rules.specs.declared.Session.{Session}
use Rattle.rules.specs.declared.Report.{Report}
use Rattle.exchange.specs.Written.{file_of}
use Rattle.counts.specs.Tally.{no_tally}
use Rattle.sections.specs.Puts.{put_all}
use Rattle.sections.specs.declared.Starts.{Starts}
use Rattle.write.specs.WriteFile.{Written, WriteLeft}
use Rattle.write.specs.declared.WriteError.{WriteError}
use Rattle.rules.specs.declared.Reporting.{Reporting}
use Rattle.rules.specs.declared.Sought as sought

-- what is sought
abbrev pub Sought : Type 0
Sought = sought.Sought Written

-- the whole of it
abbrev pub Writing : Type 0
Writing = Reporting Written

abbrev pub leaving : Writing → List ℕ → List ℕ → List ℕ → Reported WriteLeft
leaving r w t out = record {
  left = record {
    answer = r.answer;
    session = r.session;
    working = w;
    stable = t;
    out = out;
  };
  report = r.report;
}

-- once lengths and page 0 are tested: answer, table, output and report
pub record Told : Type 0 where
  pub answer : Written
  pub table : List ℕ
  pub out : List ℕ
  pub report : Report

abbrev pub telling : Sought → List ℕ → List ℕ → Told
telling x t out = record { answer = x.answer; table = t; out = out; report = x.report }

abbrev pub telled : Written → Walked → List ℕ → Told
telled answer w out = record { answer = answer; table = w.table; out = out; report = w.report }

unfoldable pub told : List ℕ → Walked → Told
told out w =
    elim w.whole [
      | false ↦ telled (Err WriteError.Damaged) w out
      | true ↦ elim (leb (length (file_of w.found)) (length out)) [
        | true ↦ telled (Ok (length (file_of w.found))) w (over (file_of w.found) out)
        | false ↦ telled (Err WriteError.Short) w out
      ]
    ]

-- what the walk that writes leaves
pub record Wrote : Type 0 where
  pub table : List ℕ
  pub out : List ℕ
  pub report : Report

abbrev pub wrote : List ℕ → List ℕ → Report → Wrote
wrote t out x = record { table = t; out = out; report = x }

unfoldable pub wrote_in : Starts → List ℕ → Walked → Wrote
wrote_in s out w = wrote w.table (put_all s no_tally w.found out).out w.report
