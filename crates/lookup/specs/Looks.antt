-- What a lookup hands back, piece by piece, as the rules say it.
use Rattle.std.specs.Prelude.{ℕ, zero, suc, true, false, List, eqb, Ok, Err}
use Rattle.std.proofs.Math.Option.{Option, some, none}
use Rattle.rules.specs.Walk.{Step, Way}
use Rattle.rules.specs.Report.{Reported}
use Rattle.rules.specs.Call.{Left}
use Rattle.rules.specs.Lookup.{found_in}
use Rattle.rules.specs.declared.Session.{Session}
use Rattle.rules.specs.Answer.{Looked}
use Rattle.rules.specs.declared.FindError.{FindError}
use Rattle.head.specs.Head.{cert_at}
use Rattle.rules.specs.declared.Sought as sought

-- what is sought
abbrev pub Sought : Type 0
Sought = sought.Sought Looked

-- what was found in a leaf
unfoldable pub looked_in : Option ℕ → Looked
looked_in none = Err FindError.Missing
looked_in (some x) = Ok x

-- what the entry before a spot of a leaf holds under a key
unfoldable pub found_before : ℕ → ℕ → List ℕ → Looked
found_before k zero b = Err FindError.Missing
found_before k (suc j) b = elim (eqb (cert_at b j).key k) [ true ↦ Ok (cert_at b j).value | false ↦ Err FindError.Missing ]

-- the table left and the answer, before the session is handed back
pub record Look : Type 0 where
  pub table : List ℕ
  pub answer : Looked

abbrev pub looked : List ℕ → Looked → Look
looked t r = record { table = t; answer = r }

-- the same with what was mended
abbrev pub looking : List ℕ → Sought → Reported Look
looking t r = record { left = looked t r.answer; report = r.report }

unfoldable pub answer_on : ℕ → Option (List Step) → Looked
answer_on k none = Err FindError.Damaged
answer_on k (some steps) = found_in k steps

unfoldable pub looked_along : ℕ → Way → Look
looked_along k w = record { table = w.table; answer = answer_on k w.steps }
