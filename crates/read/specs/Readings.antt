-- A file's certificates as the loop goes through them: what stands between two turns, and what one turn makes of it.
use Rattle.std.specs.Prelude.{ℕ, ◌+◌, true, false, List, [], ◌∷◌, eqb}
use Rattle.rules.specs.Report.{Reported, nothing}
use Rattle.rules.specs.Call.{Left}
use Rattle.rules.specs.Batch.{Between, between, item_no, after_item}
use Rattle.rules.specs.declared.Session.{Session}
use Rattle.rules.specs.declared.Item.{Item}
use Rattle.exchange.specs.ReadFile.{Read}
use Rattle.rules.specs.declared.Reporting.{Reporting}
use Rattle.read.specs.declared.Made.{Made}

-- what the call leaves
abbrev pub leaving : Reporting Read → List ℕ → List ℕ → Reported (Left Read)
leaving r w t = record {
  left = record { answer = r.answer; session = r.session; working = w; stable = t };
  report = r.report;
}

-- how many were done, and what stands between two items of a batch
pub record Running : Type 0 where
  pub done : ℕ
  pub stands : Between

abbrev pub running : Made → List ℕ → Running
running m w = record { done = m.done; stands = between w m.session m.report }

abbrev pub beginning : List ℕ → Session → Running
beginning w s = record { done = 0; stands = between w s nothing }

-- one more, if it answered 0
unfoldable pub one_done : ℕ → ℕ → ℕ
one_done done answer = elim (eqb answer 0) [ true ↦ done + 1 | false ↦ done ]

-- an item is inserted
unfoldable pub one_more : List ℕ → Running → Item → Running
one_more t m x = record { done = one_done m.done (item_no t m.stands x); stands = after_item t m.stands x }

unfoldable pub goes : List ℕ → Running → List Item → Running
goes t m [] = m
goes t m (x ∷ xs) = goes t (one_more t m x) xs
