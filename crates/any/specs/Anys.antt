-- What the call has-any hands back, piece by piece, as the rules say it.
use Rattle.std.specs.Prelude.{ℕ, zero, suc, Bool, true, false, List, leb, Err}
use Rattle.rules.specs.Report.{Reported}
use Rattle.rules.specs.Walk.{Walked}
use Rattle.rules.specs.Call.{Left}
use Rattle.rules.specs.HasAny.{any_in}
use Rattle.rules.specs.declared.Session.{Session}
use Rattle.rules.specs.declared.Asked.{Asked}
use Rattle.rules.specs.Answer.{Any}
use Rattle.rules.specs.declared.AnyError.{AnyError}
use Rattle.rules.specs.declared.Report.{Report}
use Rattle.head.specs.Head.{cert_at}
use Rattle.rules.specs.declared.Sought as sought

-- what is sought
abbrev pub Sought : Type 0
Sought = sought.Sought Any

-- the asked range: from one key up to another, with room for one certificate
abbrev pub first : ℕ → ℕ → Asked
first low high = record { low = low; high = high; room = 1 }

-- the certificate before a spot of a leaf is not below a key; there may be none
unfoldable pub holds_in : ℕ → ℕ → List ℕ → Bool
holds_in low zero b = false
holds_in low (suc j) b = leb low (cert_at b j).key

-- the answer from what a walk has come to: whether it met a damaged place, and the certificates found
unfoldable pub answer_of : Walked → Any
answer_of w = elim w.whole [ false ↦ Err AnyError.Damaged | true ↦ any_in w.found ]

-- the table left, the answer and the report, before the session is handed back
pub record Seen : Type 0 where
  pub table : List ℕ
  pub answer : Any
  pub report : Report

abbrev pub seeing : List ℕ → Sought → Seen
seeing t r = record { table = t; answer = r.answer; report = r.report }

abbrev pub seen : Walked → Seen
seen w = record { table = w.table; answer = answer_of w; report = w.report }
