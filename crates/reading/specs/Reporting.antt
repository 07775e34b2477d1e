-- What a report tells of the table, on the way of one key. Over a range only one half holds, and it is a law of the rules:
-- there a number named twice can be mended twice and end as it began.
use Rattle.std.specs.Prelude.{ℕ, ◌≡◌, List, Ok, None}
use Rattle.rules.specs.Report.{Reported}
use Rattle.rules.specs.Call.{Left}
use Rattle.rules.specs.Reports.{insert_reported, withdraw_reported, lookup_reported}
use Rattle.rules.specs.declared.Session.{Session}
use Rattle.reading.specs.Leaving.{Typed}

-- no reason is given exactly if the working table is as it was
pub record TellsMends {A : Type 0} (w : List ℕ) (r : Reported (Left A)) : Type 0 where
  pub unchanged : r.report.reason ≡ None → r.left.working ≡ w
  pub untold : r.left.working ≡ w → r.report.reason ≡ None

-- ── The promises ────────────────────────────────────────────────────────────────────────────────────────────────

unfoldable pub LookupTells : Type 0
LookupTells =
    (w t : List ℕ) (s : Session) (model serial issue : ℕ) → Typed w s model serial issue
    → TellsMends w (lookup_reported w t s model serial issue)

-- one that is done writes its leaf too
unfoldable pub InsertTells : Type 0
InsertTells =
    (w t : List ℕ) (s : Session) (model serial issue x : ℕ) → Typed w s model serial issue
    → ((insert_reported w t s model serial issue x).left.answer ≡ Ok tt → ⊥)
    → TellsMends w (insert_reported w t s model serial issue x)

unfoldable pub WithdrawTells : Type 0
WithdrawTells =
    (w t : List ℕ) (s : Session) (model serial issue : ℕ) → Typed w s model serial issue
    → ((withdraw_reported w t s model serial issue).left.answer ≡ Ok tt → ⊥)
    → TellsMends w (withdraw_reported w t s model serial issue)
