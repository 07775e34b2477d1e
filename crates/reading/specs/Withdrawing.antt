-- What a withdrawal that is done changes: one page and the total, what is found afterwards, and what the tree holds.
use Rattle.std.specs.Prelude.{ℕ, ◌<◌, ◌≡◌, ◌≢◌, List, length, Ok, Err}
use Rattle.std.proofs.Math.Option.{some}
use Rattle.rules.specs.Key.{key_of}
use Rattle.rules.specs.Entry.{without}
use Rattle.rules.specs.Table.{read}
use Rattle.rules.specs.Walk.{Step, certs_at, leaf_at, way_of}
use Rattle.rules.specs.Marks.{uncounted}
use Rattle.rules.specs.Call.{Left}
use Rattle.rules.specs.Withdraw.{withdraw}
use Rattle.rules.specs.Lookup.{lookup}
use Rattle.rules.specs.History.{Event, State, run, start, AllProper}
use Rattle.rules.specs.Demand.{Lent, withdraw_now}
use Rattle.rules.specs.declared.Session.{Session}
use Rattle.rules.specs.Answer.{Withdrawn}
use Rattle.rules.specs.declared.FindError.{FindError}
use Rattle.reading.specs.Leaving.{asked_for, PageLeft, Typed}
use Rattle.reading.specs.Agreeing.{held}

-- ── Pages and session ───────────────────────────────────────────────────────────────────────────────────────────

pub record LeafChanges (k : ℕ) (w t : List ℕ) (s : Session) (r : Left Withdrawn) : Type 0 where
  pub steps : List Step
  pub way : (way_of s.n s.c k w).steps ≡ some steps
  pub length_stays : length r.working ≡ length w
  -- every page but the leaf of the key is as its walk, a lookup's, leaves it
  pub page : (i : ℕ) → i ≢ leaf_at steps → PageLeft s.n s.c (asked_for s.n s.c k w) w r.working i
  -- the leaf holds what it held but the key
  pub leaf : (read r.working (leaf_at steps)).view.certs ≡ without k (certs_at steps)
  pub stable : r.stable ≡ t
  pub session : r.session ≡ uncounted s

-- in tables of any bytes, with any session
unfoldable pub WithdrawChanges : Type 0
WithdrawChanges =
    (w t : List ℕ) (s : Session) (model serial issue : ℕ) → Typed w s model serial issue
    → (withdraw w t s model serial issue).answer ≡ Ok tt
    → LeafChanges (key_of model serial issue) w t s (withdraw w t s model serial issue)

-- ── What is found afterwards ────────────────────────────────────────────────────────────────────────────────────

-- a lookup of the key answers 4, one of any other key as before
pub record Takes (m : State) (model serial issue : ℕ) (r : Left Withdrawn) : Type 0 where
  pub own : (lookup r.working r.stable r.session model serial issue).answer ≡ Err FindError.Missing
  pub others : (model' serial' issue' : ℕ) → model' < 65536 → serial' < 4294967296 → issue' < 65536
      → key_of model' serial' issue' ≢ key_of model serial issue
      → (lookup r.working r.stable r.session model' serial' issue').answer
      ≡ (lookup m.working m.stable m.session model' serial' issue').answer

-- at every point of every history while the last opening was done
unfoldable pub WithdrawTakes : Type 0
WithdrawTakes =
    (n : ℕ) (w s : List ℕ) → Lent n w s → (h : List Event) → AllProper n h → (run h (start w s)).session.n ≡ n
    → (model serial issue : ℕ) → model < 65536 → serial < 4294967296 → issue < 65536
    → (withdraw_now (run h (start w s)) model serial issue).answer ≡ Ok tt
    → Takes (run h (start w s)) model serial issue (withdraw_now (run h (start w s)) model serial issue)

-- and the tree holds what it held but the key
unfoldable pub WithdrawRemoves : Type 0
WithdrawRemoves =
    (n : ℕ) (w s : List ℕ) → Lent n w s → (h : List Event) → AllProper n h → (run h (start w s)).session.n ≡ n
    → (model serial issue : ℕ) → model < 65536 → serial < 4294967296 → issue < 65536
    → (withdraw_now (run h (start w s)) model serial issue).answer ≡ Ok tt
    → held (withdraw_now (run h (start w s)) model serial issue).session (withdraw_now (run h (start w s)) model serial issue).working
    ≡ without (key_of model serial issue) (held (run h (start w s)).session (run h (start w s)).working)
