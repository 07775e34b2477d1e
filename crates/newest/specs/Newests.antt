-- What the call newest hands back, piece by piece, as the rules say it.
use Rattle.std.specs.Prelude.{ℕ, zero, suc, true, false, List, leb, Err, Ok}
use Rattle.rules.specs.Layout.{last_key}
use Rattle.rules.specs.Key.{issue_of}
use Rattle.rules.specs.Entry.{Cert}
use Rattle.rules.specs.Report.{Reported}
use Rattle.rules.specs.Walk.{Walked}
use Rattle.rules.specs.Call.{Left}
use Rattle.rules.specs.Newest.{newest_in}
use Rattle.rules.specs.declared.Session.{Session}
use Rattle.rules.specs.declared.Asked.{Asked}
use Rattle.rules.specs.Answer.{Newest, newest_is}
use Rattle.rules.specs.declared.FindError.{FindError}
use Rattle.rules.specs.declared.Report.{Report}
use Rattle.head.specs.Head.{cert_at}
use Rattle.rules.specs.declared.Sought as sought

-- what is sought
abbrev pub Sought : Type 0
Sought = sought.Sought Newest

-- the asked range: from one key up to another, with more room than there are keys
abbrev pub range : ℕ → ℕ → Asked
range low high = record { low = low; high = high; room = last_key }

-- the newest is now this certificate, if it is not below the range
unfoldable pub or_this : ℕ → Cert → Newest → Newest
or_this low x before = elim (leb low x.key) [ true ↦ Ok (newest_is (issue_of x.key) x.value) | false ↦ before ]

-- the certificate before a spot of a leaf; there may be none
unfoldable pub last_in : ℕ → ℕ → List ℕ → Newest → Newest
last_in low zero b before = before
last_in low (suc j) b before = or_this low (cert_at b j) before

-- the answer from what a walk has come to: whether it met a damaged place, and the certificates found
unfoldable pub answer_of : Walked → Newest
answer_of w = elim w.whole [ false ↦ Err FindError.Damaged | true ↦ newest_in w.found ]

-- the table left, the answer and the report, before the session is handed back
pub record Seen : Type 0 where
  pub table : List ℕ
  pub answer : Newest
  pub report : Report

abbrev pub seeing : List ℕ → Sought → Seen
seeing t r = record { table = t; answer = r.answer; report = r.report }

abbrev pub seen : Walked → Seen
seen w = record { table = w.table; answer = answer_of w; report = w.report }
