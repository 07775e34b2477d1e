-- What a call hands back, and what it leaves: that with the two tables.
use Rattle.std.specs.Prelude.{ℕ, List}
use Rattle.rules.specs.Report.{Reported}
use Rattle.rules.specs.Answer.{Opened, Inserted, Withdrawn, Batched, Looked, Newest, Any, Listed, Synced}
use Rattle.rules.specs.Call.{Left}
use Rattle.rules.specs.declared.Session.{Session}
use Rattle.rules.specs.declared.Handed.{Handed}
use Rattle.rules.specs.declared.Reporting.{Reporting}
use Rattle.rules.specs.declared.Sought.{Sought}

abbrev pub Opening : Type 0
Opening = Handed Opened

abbrev pub Syncing : Type 0
Syncing = Handed Synced

abbrev pub Inserting : Type 0
Inserting = Reporting Inserted

abbrev pub Withdrawing : Type 0
Withdrawing = Reporting Withdrawn

abbrev pub Batching : Type 0
Batching = Reporting Batched

abbrev pub Looking : Type 0
Looking = Reporting Looked

abbrev pub NewestOf : Type 0
NewestOf = Reporting Newest

abbrev pub AnyOf : Type 0
AnyOf = Reporting Any

abbrev pub Listing : Type 0
Listing = Reporting Listed

abbrev pub left_as : {A : Type 0} → A → Session → List ℕ → List ℕ → Left A
left_as answer s w t = record { answer = answer; session = s; working = w; stable = t }

-- of a call that hands back an answer and the session
abbrev pub left : {A : Type 0} → Handed A → List ℕ → List ℕ → Left A
left r w t = left_as r.answer r.session w t

-- of one that hands back a report too
abbrev pub leaving : {A : Type 0} → Reporting A → List ℕ → List ℕ → Reported (Left A)
leaving r w t = record { left = left_as r.answer r.session w t; report = r.report }

-- what was sought, with a session beside it
abbrev pub beside : {A : Type 0} → Session → Sought A → Reporting A
beside s r = record { answer = r.answer; report = r.report; session = s }
