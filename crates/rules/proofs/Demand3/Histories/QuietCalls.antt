-- Calls that change no certificate: each leaves session and stable table as they came, adds no state to any key, mends the
-- pages of its walk in turn, never page 0, and does nothing else to the working table. So do any number of them.
use Rattle.std.proofs.Common.{◌≡◌, ℕ, List, [], ◌∷◌, refl, ap, ◌∙◌, subst, Ok, Err}
use Rattle.rules.specs.Table.{page_at}
use Rattle.rules.specs.Key.{key_of}
use Rattle.rules.specs.Call.{Left}
use Rattle.rules.specs.History.{Event, inserts, withdraws, looks, asks_newest, asks_any, lists, State, after_insert, after_withdraw, after_reading, step, run, Proper, AllProper, crashes, crashes_in_sync, opens, syncs}
use Rattle.rules.specs.Demand.{Reads, look, ask, ask_any, listing, lookup_now, insert_now, withdraw_now}
use Rattle.rules.specs.Mends.{mended_now, mended_between, InTurn, no_mend}
use Rattle.rules.specs.Quiet.{QuietCall, reads, refused_insert, refused_withdrawal, QuietCalls, no_call, call}
use Rattle.rules.specs.declared.Session.{Session}
use Rattle.rules.specs.Answer.{Inserted, Withdrawn}
use Rattle.rules.proofs.Demand1.InTurns.{turns_then}
use Rattle.rules.proofs.Demand1.Refusals.{insert_refused_lem}
use Rattle.rules.proofs.Demand1.Withdrawals.{withdraw_refused_lem}
use Rattle.rules.proofs.Demand1.LikeLookup.{insert-leaves, withdraw-leaves}
use Rattle.rules.proofs.Demand1.CallsInTurn.{lookup-turns, insert-turns, withdraw-turns, newest-turns, any-turns, list-turns}
use Rattle.rules.proofs.Demand3.Histories.Fates.{Alive}
use Rattle.rules.proofs.Demand3.Histories.Servings.{reading, alive-reads}
use Rattle.rules.proofs.Demand3.Histories.Changes.{alive-insert, alive-withdraw}

-- what such a call leaves
record Still (n : ℕ) (m : State) (e : Event) : Type 0 where
  session : (step e m).session ≡ m.session
  stable : (step e m).stable ≡ m.stable
  past : (step e m).past ≡ m.past
  zero : page_at (step e m).working 0 ≡ page_at m.working 0
  alive : Alive n (step e m)

-- ── A refusal adds no state ─────────────────────────────────────────────────────────────────────────────────────

insert-past : (k x : ℕ) (m : State) (r : Left Inserted) → (r.answer ≡ Ok tt → ⊥) → (after_insert k x m r).past ≡ m.past
unfolding after_insert
insert-past k x m r refused = go r.answer refl
  where
    go : (a : Inserted) → r.answer ≡ a → (after_insert k x m r).past ≡ m.past
    go (Ok tt) h = absurd (refused h)
    go (Err e) h = rw (h, after_insert)

withdraw-past : (k : ℕ) (m : State) (r : Left Withdrawn) → (r.answer ≡ Ok tt → ⊥) → (after_withdraw k m r).past ≡ m.past
unfolding after_withdraw
withdraw-past k m r refused = go r.answer refl
  where
    go : (a : Withdrawn) → r.answer ≡ a → (after_withdraw k m r).past ≡ m.past
    go (Ok tt) h = absurd (refused h)
    go (Err e) h = rw (h, after_withdraw)

-- ── One call ────────────────────────────────────────────────────────────────────────────────────────────────────

module _ {n : ℕ} {m : State} (a : Alive n m) where
  still-reads : (e : Event) → Reads e → Still n m e
  unfolding after_reading
  still-reads e r =
      let x = reading a e r in
      record {
        session = x.session;
        stable = x.stable;
        past = ap (λ (y : State). y.past) x.is;
        zero = x.left.zero;
        alive = alive-reads a e r;
      }

  -- a refused insert or withdrawal leaves what a lookup leaves
  lookup-zero : (model serial issue : ℕ) (w : List ℕ) → w ≡ (lookup_now m model serial issue).working → page_at w 0 ≡ page_at m.working 0
  unfolding step after_reading
  lookup-zero model serial issue w h =
      ap (λ (u : List ℕ). page_at u 0) h ∙ (reading a (looks model serial issue) look).left.zero

  still : (e : Event) → Proper n e → QuietCall m e → Still n m e
  unfolding step after_insert after_withdraw
  still e t (reads r) = still-reads e r
  still (inserts model serial issue x) t (refused_insert refused) =
      let only = insert_refused_lem m.working m.stable m.session model serial issue x refused in
      record {
        session = only.session;
        stable = only.stable;
        past = insert-past (key_of model serial issue) x m (insert_now m model serial issue x) refused;
        zero = lookup-zero model serial issue (insert_now m model serial issue x).working
            (insert-leaves m.working m.stable m.session model serial issue x refused);
        alive = alive-insert a model serial issue x t;
      }
  still (withdraws model serial issue) t (refused_withdrawal refused) =
      let only = withdraw_refused_lem m.working m.stable m.session model serial issue refused in
      record {
        session = only.session;
        stable = only.stable;
        past = withdraw-past (key_of model serial issue) m (withdraw_now m model serial issue) refused;
        zero = lookup-zero model serial issue (withdraw_now m model serial issue).working
            (withdraw-leaves m.working m.stable m.session model serial issue refused);
        alive = alive-withdraw a model serial issue t;
      }

-- ── The pages that one mends ────────────────────────────────────────────────────────────────────────────────────

reads-turns : (m : State) (e : Event) → Reads e → InTurn m.session.n m.session.c (mended_now e m) m.working (step e m).working
unfolding step after_reading mended_now
reads-turns m (looks model serial issue) look = lookup-turns m.working m.stable m.session model serial issue
reads-turns m (asks_newest model serial) ask = newest-turns m.working m.stable m.session model serial
reads-turns m (asks_any model serial) ask_any = any-turns m.working m.stable m.session model serial
reads-turns m (lists from ks xs) listing = list-turns m.working m.stable m.session from ks xs
reads-turns m (inserts _ _ _ _) x5 = elim x5 [ ]
reads-turns m (withdraws _ _ _) x5 = elim x5 [ ]
reads-turns m syncs x3 = elim x3 [ ]
reads-turns m opens x4 = elim x4 [ ]
reads-turns m (crashes _ _) x7 = elim x7 [ ]
reads-turns m (crashes_in_sync _ _) x8 = elim x8 [ ]

quiet-turns : (m : State) (e : Event) → QuietCall m e → InTurn m.session.n m.session.c (mended_now e m) m.working (step e m).working
unfolding step after_insert after_withdraw mended_now
quiet-turns m e (reads r) = reads-turns m e r
quiet-turns m (inserts model serial issue x) (refused_insert refused) =
    insert-turns m.working m.stable m.session model serial issue x refused
quiet-turns m (withdraws model serial issue) (refused_withdrawal refused) =
    withdraw-turns m.working m.stable m.session model serial issue refused

-- ── Any number of them ──────────────────────────────────────────────────────────────────────────────────────────

pub record Rested (n : ℕ) (m : State) (es : List Event) : Type 0 where
  pub stable : (run es m).stable ≡ m.stable
  pub past : (run es m).past ≡ m.past
  pub mends : InTurn m.session.n m.session.c (mended_between es m) m.working (run es m).working
  pub zero : page_at (run es m).working 0 ≡ page_at m.working 0
  pub alive : Alive n (run es m)

pub rested : {n : ℕ} (m : State) → Alive n m → (es : List Event) → AllProper n es → QuietCalls es m → Rested n m es
unfolding run AllProper mended_between
rested m a [] t no_call = record { stable = refl; past = refl; mends = no_mend; zero = refl; alive = a }
rested m a (e ∷ es) t (call q qs) =
    let x = still a e t.0 q in
    let y = rested (step e m) x.alive es t.1 qs in
    record {
      stable = y.stable ∙ x.stable;
      past = y.past ∙ x.past;
      mends = turns_then m.session.n m.session.c (quiet-turns m e q) (as_now x.session y.mends);
      zero = y.zero ∙ x.zero;
      alive = y.alive;
    }
  where
    -- by the session before the call, which is the one after it
    as_now : {s : Session} {xs t u : List ℕ} → s ≡ m.session → InTurn s.n s.c xs t u → InTurn m.session.n m.session.c xs t u
    as_now {s} {xs} {t} {u} h = subst (λ (s : Session). InTurn s.n s.c xs t u) h
