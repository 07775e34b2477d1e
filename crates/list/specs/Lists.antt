-- What a list hands back, piece by piece, as the rules say it.
use Rattle.std.specs.Prelude.{ℕ, true, false, List, length, Ok, Err}
use Rattle.rules.specs.Entry.{keys}
use Rattle.rules.specs.Page.{over}
use Rattle.rules.specs.Report.{Reported}
use Rattle.rules.specs.Walk.{Walked}
use Rattle.rules.specs.List.{ListLeft, records_of}
use Rattle.rules.specs.declared.Session.{Session}
use Rattle.rules.specs.Answer.{Listed}
use Rattle.rules.specs.declared.ListError.{ListError}
use Rattle.rules.specs.Handing.{Listing}
use Rattle.rules.specs.declared.Report.{Report}
use Rattle.rules.specs.declared.Sought as handed

-- what is sought
abbrev pub Sought : Type 0
Sought = handed.Sought Listed

-- the whole of it
abbrev pub leaving : Listing → List ℕ → List ℕ → List ℕ → List ℕ → Reported ListLeft
leaving r w t ks xs = record {
  left = record {
    answer = r.answer;
    session = r.session;
    working = w;
    stable = t;
    keys = ks;
    records = xs;
  };
  report = r.report;
}

-- the table and the lists left, the answer and what was mended, before the session is handed back
pub record Told : Type 0 where
  pub table : List ℕ
  pub answer : Listed
  pub keys : List ℕ
  pub records : List ℕ
  pub report : Report

abbrev pub telling : List ℕ → Sought → List ℕ → List ℕ → Told
telling t r ks xs = record { table = t; answer = r.answer; keys = ks; records = xs; report = r.report }

abbrev pub sought : Listed → Report → Sought
sought r x = record { answer = r; report = x }

-- what a walk gives to tell: the lists stay as they came where it met a damaged place
unfoldable pub told : List ℕ → List ℕ → Walked → Told
told ks xs w =
    elim w.whole [
      | false ↦ telling w.table (sought (Err ListError.Damaged) w.report) ks xs
      | true ↦ telling w.table (sought (Ok (length w.found)) w.report) (over (keys w.found) ks) (over (records_of w.found) xs)
    ]
