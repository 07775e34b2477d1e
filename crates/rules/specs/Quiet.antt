-- Request K13, quiet restarts: between two openings only calls that change no certificate, so the second opening shows the
-- entries of the first, and no stable byte has changed but page 0's number and pages that were mended. A statement about
-- histories, like demand 3; its proof is the theorem quiet-restarts in proofs/.
use Rattle.std.specs.Prelude.{◌≡◌, ℕ, ◌<◌, ◌≤◌, Bool, false, ◌⊎◌, List, [], ◌∷◌, ◌≢◌, Ok, Err}
use Rattle.std.proofs.Math.Option.{Option}
use Rattle.rules.specs.Layout.{last_key, last_number}
use Rattle.rules.specs.Test.{mem}
use Rattle.rules.specs.Table.{page_at, number0, beside_number}
use Rattle.rules.specs.History.{Event, State, inserts, withdraws, opens, crashes, crashes_in_sync, step, run, start, Proper, AllProper, content}
use Rattle.rules.specs.Demand.{Reads, SameListing, insert_now, withdraw_now, newest_now, has_any_now, list_now, Lent}
use Rattle.rules.specs.Mends.{mended_between, InTurn}
use Rattle.rules.specs.declared.OpenError.{OpenError}

-- ── What happens between ────────────────────────────────────────────────────────────────────────────────────────

-- a call that changes no certificate: it only reads, or is an insert or a withdrawal that is refused
pub data QuietCall (m : State) : Event → Type 0 where
  reads : {e : Event} → Reads e → QuietCall m e
  refused_insert : {model serial issue x : ℕ} → ((insert_now m model serial issue x).answer ≢ Ok tt)
      → QuietCall m (inserts model serial issue x)
  refused_withdrawal : {model serial issue : ℕ} → ((withdraw_now m model serial issue).answer ≢ Ok tt)
      → QuietCall m (withdraws model serial issue)

-- such calls, one after the other
pub data QuietCalls : List Event → State → Type 0 where
  no_call : {m : State} → QuietCalls [] m
  call : {e : Event} {es : List Event} {m : State} → QuietCall m e → QuietCalls es (step e m) → QuietCalls (e ∷ es) m

-- ── The two openings ────────────────────────────────────────────────────────────────────────────────────────────

-- an opening, with or without a crash before it, with any pages written
pub data Opens : Event → Type 0 where
  plainly : Opens opens
  after_crash : {written : List Bool} {w : List ℕ} → Opens (crashes written w)
  after_crash_in_sync : {written : List Bool} {w : List ℕ} → Opens (crashes_in_sync written w)

-- a store whose last event is an opening: that after format, or a later one
pub data JustOpened (n : ℕ) (w s : List ℕ) : State → Type 0 where
  formatted : JustOpened n w s (start w s)
  later : (h : List Event) → AllProper n h → (e : Event) → Opens e → Proper n e → JustOpened n w s (step e (run h (start w s)))

-- ── The request ─────────────────────────────────────────────────────────────────────────────────────────────────

-- what a lookup of a key would find now
abbrev pub content_now : State → ℕ → Option ℕ
content_now m k = content m.session m.working m.stable k

-- two stores show the same entries
pub record SameEntries (a b : State) : Type 0 where
  pub looks_up : (k : ℕ) → k ≤ last_key → content_now a k ≡ content_now b k
  pub lists : (from : ℕ) (ks xs : List ℕ) → SameListing (list_now a from ks xs) (list_now b from ks xs)
  pub newest : (model serial : ℕ) → (newest_now a model serial).answer ≡ (newest_now b model serial).answer
  pub any : (model serial : ℕ) → (has_any_now a model serial).answer ≡ (has_any_now b model serial).answer
  pub total : a.session.total ≡ b.session.total

pub record Restarted (n : ℕ) (first : State) (between : List Event) (second : State) : Type 0 where
  -- done, unless the counter is spent
  pub opens : (second.opened ≡ Ok tt) ⊎ ((second.opened ≡ Err OpenError.Spent) × (last_number < number0 second.stable))
  pub shows : second.opened ≡ Ok tt → SameEntries second first
  -- the calls between did nothing to the working table but mend the pages of their walks in turn, each when it was lost
  pub mends : InTurn first.session.n first.session.c (mended_between between first) first.working (run between first).working
  -- a page that none of them mended has the same stable bytes, whether the second opening was done or not, and
  -- whether a crash wrote the mended ones or not
  pub pages : (i : ℕ) → 1 ≤ i → i < n → mem i (mended_between between first) ≡ false
      → page_at second.stable i ≡ page_at first.stable i
  -- of page 0 all but the number
  pub zero : beside_number second.stable ≡ beside_number first.stable

-- a crash before the second opening may even fall inside a sync
unfoldable pub QuietRestarts : Type 0
QuietRestarts =
    (n : ℕ) (w s : List ℕ) → Lent n w s → (first : State) → JustOpened n w s first → first.opened ≡ Ok tt
    → (between : List Event) → AllProper n between → QuietCalls between first
    → (e : Event) → Opens e → Proper n e → Restarted n first between (step e (run between first))
