-- An insert and a withdrawal on a store that is alive leave it alive, whatever they answer.
use Rattle.std.proofs.Common.{◌≡◌, ℕ, ◌+◌, ◌≤◌, Bool, true, false, List, sym, refl, ap, ◌∙◌, subst, arith, Ok, Err}
use mathlib.Core.Option.{some, none}
use Rattle.rules.specs.Layout.{last_key}
use Rattle.rules.specs.Key.{key_of, good_parts}
use Rattle.rules.specs.Marks.{wraps, uncounted}
use Rattle.rules.specs.Call.{Left, inserted_no, withdrawn_no, find_error_no, insert_error_no}
use Rattle.rules.specs.Insert.{insert_refused, insert}
use Rattle.rules.specs.Withdraw.{withdraw_refused, withdraw}
use Rattle.rules.specs.History.{inserts, withdraws, State, gains, after_insert, after_withdraw, after_reading, Proper}
use Rattle.rules.specs.Demand.{first}
use Rattle.rules.specs.Answer.{Inserted, Withdrawn}
use Rattle.rules.specs.declared.InsertError.{InsertError}
use Rattle.rules.specs.declared.FindError.{FindError}
use Rattle.rules.specs.declared.Session.{Session}
use Rattle.rules.proofs.Bytes.Keys.{key_of-bound}
use Rattle.rules.proofs.Demand3.Ways.Invariant.{Good}
use Rattle.rules.proofs.Demand3.Ways.Nodes.{tells-one}
use Rattle.rules.proofs.Demand3.Epochs.Epochs.{working-good}
use Rattle.rules.proofs.Demand3.Steps.Mended.{steady-same}
use Rattle.rules.proofs.Demand3.Steps.Inserts.{Stays, Added, Inserts, present, sync_first, no_room_lem, added, insert-inserts, insert_bad_key}
use Rattle.rules.proofs.Demand3.Steps.Withdraws.{Removed, Withdraws, missing, taken, withdraw-withdraws, withdraw_bad_key}
use Rattle.rules.proofs.Demand3.Reads.Totals.{certs_in, few-certs, one_more_lem, one_less}
use Rattle.rules.proofs.Demand3.Histories.Pasts.{absent, settled-gains}
use Rattle.rules.proofs.Demand3.Histories.Fates.{Alive, wraps-few, wraps-back}
use Rattle.rules.proofs.Demand3.Histories.Gained.{Had, alive-stays, Gained, gaining, alive_gained}

-- ── Insert ──────────────────────────────────────────────────────────────────────────────────────────────────────

-- a refusal leaves a key's states as they were
insert-past : (k x : ℕ) (m : State) (answer : Inserted) → 1 ≤ inserted_no answer → (s : Session) (w t : List ℕ)
    → after_insert k x m (record { answer = answer; session = s; working = w; stable = t }) ≡ after_reading m s w t
unfolding after_insert after_reading insert_error_no
insert-past k x m (Ok tt) h s w t = absurd (omega (arith, h))
insert-past k x m (Err e) h s w t = refl

module _ {n : ℕ} {m : State} (a : Alive n m) (k x : ℕ) (r : Left Inserted) where
  insert_as : (answer : Inserted) → r.answer ≡ answer
      → after_insert k x m r ≡ after_insert k x m (record { answer = answer; session = r.session; working = r.working; stable = r.stable })
  insert_as answer h =
      ap
      (λ (b : Inserted). after_insert k x m (record { answer = b; session = r.session; working = r.working; stable = r.stable }))
      h

  insert_stays : (answer : Inserted) → 1 ≤ inserted_no answer → r.answer ≡ answer
      → Stays m.session m.working m.stable (Had m) r → Alive n (after_insert k x m r)
  insert_stays answer d h y =
      subst (Alive n) (sym (insert_as answer h ∙ insert-past k x m answer d r.session r.working r.stable))
      (alive-stays a r y)

  module _ (bound : k ≤ last_key) (i : Added m.session m.working m.stable (Had m) k x r) where
    inserted-is : after_insert k x m r ≡ gaining m k (some x) r.session r.working
    unfolding after_insert
    inserted-is =
        insert_as (Ok tt) i.answer
        ∙ ap
        (λ (t : List ℕ).
        record { session = r.session; working = r.working; stable = t; opened = m.opened; past = gains k (some x) m.past })
        i.stable

    totals : r.session.total ≡ certs_in r.session.n r.working
    totals =
        let old = working-good a.safe.inv in
        let new = subst (λ (l : ℕ). Good l r.working) i.pages (working-good i.safe.inv) in
        ap (λ (s : Session). s.total) i.unmarked
        ∙ ap (λ (j : ℕ). wraps (j + 1)) a.total
        ∙ ap wraps (sym (one_more_lem old new k x i.absent i.own i.others))
        ∙ wraps-few (few-certs m.session.n r.working)
        ∙ ap (λ (l : ℕ). certs_in l r.working) (sym i.pages)

    insert_gained : Gained m k (some x) r.session r.working
    insert_gained = record {
      pages = i.pages;
      safe = i.safe;
      own = i.own;
      others = i.others;
      settled = settled-gains (m.past k) x (a.settled k) (tells-one (a.now k bound) i.absent);
      total = totals;
    }

    alive-inserted : Alive n (after_insert k x m r)
    alive-inserted = subst (Alive n) (sym inserted-is) (alive_gained a insert_gained)

pub alive-insert : {n : ℕ} {m : State} → Alive n m → (model serial issue x : ℕ) → Proper n (inserts model serial issue x)
    → Alive n (after_insert (key_of model serial issue) x m (insert m.working m.stable m.session model serial issue x))
unfolding Proper insert_error_no insert_refused
alive-insert {n} {m} a model serial issue x t = go (good_parts model serial issue) refl
  where
    k : ℕ
    k = key_of model serial issue

    r : Left Inserted
    r = insert m.working m.stable m.session model serial issue x

    came : Inserts m.session m.working m.stable (Had m) k x r → Alive n (after_insert k x m r)
    came (present y told h z) = insert_stays a k x r (Err InsertError.Present) (omega arith) h z
    came (sync_first told h z) = insert_stays a k x r (Err InsertError.SyncFirst) (omega arith) h z
    came (no_room_lem told h z) = insert_stays a k x r (Err InsertError.Full) (omega arith) h z
    came (added i) = alive-inserted a k x r (omega (arith, key_of-bound model serial issue t.1 t.2 t.0)) i

    go : (b : Bool) → good_parts model serial issue ≡ b → Alive n (after_insert k x m r)
    go true g = came (insert-inserts a.safe model serial issue x t.0 t.1 t.2 t.3 g)
    go false g =
        subst (λ (z : Left Inserted). Alive n (after_insert k x m z))
        (sym (insert_bad_key a.safe model serial issue x t.0 t.1 t.2 t.3 g))
        (insert_stays a k x (insert_refused (Err InsertError.BadKey) m.session m.working m.stable) (Err InsertError.BadKey) (omega arith) refl
        (record { session = refl; stable = refl; safe = a.safe; steady = steady-same }))

-- ── Withdraw ────────────────────────────────────────────────────────────────────────────────────────────────────

withdraw-past : (k : ℕ) (m : State) (answer : Withdrawn) → 1 ≤ withdrawn_no answer → (s : Session) (w t : List ℕ)
    → after_withdraw k m (record { answer = answer; session = s; working = w; stable = t }) ≡ after_reading m s w t
unfolding after_withdraw after_reading find_error_no
withdraw-past k m (Ok tt) h s w t = absurd (omega (arith, h))
withdraw-past k m (Err e) h s w t = refl

module _ {n : ℕ} {m : State} (a : Alive n m) (k : ℕ) (r : Left Withdrawn) where
  withdraw_as : (answer : Withdrawn) → r.answer ≡ answer
      → after_withdraw k m r ≡ after_withdraw k m (record { answer = answer; session = r.session; working = r.working; stable = r.stable })
  withdraw_as answer h =
      ap
      (λ (b : Withdrawn). after_withdraw k m (record { answer = b; session = r.session; working = r.working; stable = r.stable }))
      h

  withdraw_stays : (answer : Withdrawn) → 1 ≤ withdrawn_no answer → r.answer ≡ answer
      → Stays m.session m.working m.stable (Had m) r → Alive n (after_withdraw k m r)
  withdraw_stays answer d h y =
      subst (Alive n) (sym (withdraw_as answer h ∙ withdraw-past k m answer d r.session r.working r.stable))
      (alive-stays a r y)

  module _ (x : ℕ) (i : Removed m.session m.working m.stable (Had m) k x r) where
    withdrawn-is : after_withdraw k m r ≡ gaining m k none (uncounted m.session) r.working
    unfolding after_withdraw
    withdrawn-is =
        withdraw_as (Ok tt) i.answer
        ∙ ap
        (λ (s : Session).
        record { session = s; working = r.working; stable = r.stable; opened = m.opened; past = gains k none m.past })
        i.session
        ∙ ap
        (λ (t : List ℕ).
        record { session = uncounted m.session; working = r.working; stable = t; opened = m.opened; past = gains k none m.past })
        i.stable

    less : wraps (m.session.total + 4294967295) ≡ certs_in m.session.n r.working
    less =
        ap (λ (j : ℕ). wraps (j + 4294967295))
        (a.total ∙ one_less (working-good a.safe.inv) (working-good i.safe.inv) k x i.present i.own i.others)
        ∙ wraps-back (few-certs m.session.n r.working)

    withdraw_gained : Gained m k none (uncounted m.session) r.working
    withdraw_gained = record {
      pages = refl;
      safe = i.safe;
      own = i.own;
      others = i.others;
      settled = absent first;
      total = less;
    }

    alive-withdrawn : Alive n (after_withdraw k m r)
    alive-withdrawn = subst (Alive n) (sym withdrawn-is) (alive_gained a withdraw_gained)

pub alive-withdraw : {n : ℕ} {m : State} → Alive n m → (model serial issue : ℕ) → Proper n (withdraws model serial issue)
    → Alive n (after_withdraw (key_of model serial issue) m (withdraw m.working m.stable m.session model serial issue))
unfolding Proper find_error_no withdraw_refused
alive-withdraw {n} {m} a model serial issue t = go (good_parts model serial issue) refl
  where
    k : ℕ
    k = key_of model serial issue

    r : Left Withdrawn
    r = withdraw m.working m.stable m.session model serial issue

    came : Withdraws m.session m.working m.stable (Had m) k r → Alive n (after_withdraw k m r)
    came (missing told h z) = withdraw_stays a k r (Err FindError.Missing) (omega arith) h z
    came (taken x i) = alive-withdrawn a k r x i

    go : (b : Bool) → good_parts model serial issue ≡ b → Alive n (after_withdraw k m r)
    go true g = came (withdraw-withdraws a.safe model serial issue t.0 t.1 t.2 g)
    go false g =
        subst (λ (z : Left Withdrawn). Alive n (after_withdraw k m z))
        (sym (withdraw_bad_key a.safe model serial issue t.0 t.1 t.2 g))
        (withdraw_stays a k (withdraw_refused (Err FindError.BadKey) m.session m.working m.stable) (Err FindError.BadKey) (omega arith) refl
        (record { session = refl; stable = refl; safe = a.safe; steady = steady-same }))
