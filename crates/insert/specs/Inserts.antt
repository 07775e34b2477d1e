-- What an insert hands back, piece by piece, as the rules say it, and what it knows once its way is walked.
use Rattle.std.specs.Prelude.{ℕ, ◌≤◌, ◌≡◌, Bool, true, false, List, length, Ok, Err}
use Rattle.std.proofs.Math.Option.{Option, some, none}
use Rattle.rules.specs.Key.{good_parts}
use Rattle.rules.specs.Entry.{find}
use Rattle.rules.specs.Table.{fit0}
use Rattle.rules.specs.Report.{Reported}
use Rattle.rules.specs.Walk.{certs_at}
use Rattle.rules.specs.Call.{Left, lengths_for}
use Rattle.rules.specs.declared.Session.{Session}
use Rattle.rules.specs.Answer.{Inserted}
use Rattle.rules.specs.declared.InsertError.{InsertError}
use Rattle.rules.proofs.Bytes.All.{All}
use Rattle.way.specs.declared.Step as way
use Rattle.plan.specs.Plan.{chosen_by, Headed, plan_of}
use Rattle.apply.specs.Leads.{Whole, Leads, EndsInLeaf, HeadRead, steps_in}

-- the key is there, any record
unfoldable pub present_in : Option ℕ → Bool
present_in none = false
present_in (some x) = true

-- a way walked to its end: its pages stand in the table, each below the one that asked for it, the first a leaf
pub record Walked (k : ℕ) (t : List ℕ) (s : Session) (w : List way.Step) : Type 0 where
  pub whole : Whole s.n s.c t
  pub leads : Leads s.n k t (steps_in t w)
  pub ends : EndsInLeaf (steps_in t w)
  pub headed : Headed w (steps_in t w)
  pub heads : All (HeadRead t) w
  pub some_page : 1 ≤ length w

-- ── What is decided before anything is written ──────────────────────────────────────────────────────────────────

-- along a way, by the plan. Done: it is to go on
unfoldable pub decided_on : ℕ → Session → List way.Step → List ℕ → Inserted
decided_on k s w t = plan_of s (present_in (find k (certs_at (steps_in t w)))) (steps_in t w)

-- what the decision is made of: a session with this counter, its lowest free numbers, and a way walked to its end
pub record Deciding (c k : ℕ) (t : List ℕ) (w : List way.Step) (x : List ℕ) : Type 0 where
  pub session : Session
  pub counter : session.c ≡ c
  pub chosen : x ≡ chosen_by session w
  pub walked : Walked k t session w

-- before the walk. Done: all tests pass
unfoldable pub tested_by : Session → List ℕ → List ℕ → ℕ → ℕ → ℕ → Inserted
tested_by s w t model serial issue =
    elim (lengths_for s w t) [
      | false ↦ Err InsertError.Length
      | true ↦ elim (good_parts model serial issue) [
        | false ↦ Err InsertError.BadKey
        | true ↦ elim (fit0 s.n w) [ false ↦ Err InsertError.Damaged | true ↦ Ok tt ]
      ]
    ]
