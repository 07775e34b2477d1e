-- A store of a history between crashes, while the last opening was done: what demand 3 says of the calls then. A call that only
-- reads leaves the store alive.
use Rattle.std.proofs.Common.{◌≡◌, ℕ, min, List, length, sym, refl, ap, ◌∙◌, subst, Ok}
use Rattle.rules.specs.Insert.{insert}
use Rattle.rules.specs.Withdraw.{withdraw}
use Rattle.rules.specs.Lookup.{lookup}
use Rattle.rules.specs.Newest.{newest}
use Rattle.rules.specs.HasAny.{has_any}
use Rattle.rules.specs.List.{list}
use Rattle.rules.specs.History.{Event, looks, asks_newest, asks_any, lists, State, latest, after_reading, step, crashes, crashes_in_sync, inserts, opens, syncs, withdraws}
use Rattle.rules.specs.Demand.{OneOf, lookup_now, newest_now, has_any_now, list_now, insert_now, withdraw_now, Reads, look, ask, ask_any, listing, SameListing, Serves}
use Rattle.rules.specs.declared.Session.{Session}
use Rattle.rules.proofs.Demand1.Refusals.{lookup_mends, newest_mends, any_mends, list_mends_lem}
use Rattle.rules.proofs.Demand1.Withdrawals.{withdrawn_as, withdraw_as}
use Rattle.rules.proofs.Demand3.Reads.Enters.{Calm, calm}
use Rattle.rules.proofs.Demand3.Reads.Looks.{lookup-calm, never-lost, lookup-same, content-told}
use Rattle.rules.proofs.Demand3.Reads.Lists.{newest_answers, list_answers, never-damaged, never-refused, newest-same, list_same}
use Rattle.rules.proofs.Demand3.Reads.Totals.{list_counts}
use Rattle.rules.proofs.Demand3.Reads.Tellings.{list-told, newest-told}
use Rattle.rules.proofs.Demand3.Reads.Anys.{any_answers, any_undamaged, any_same, any_told}
use Rattle.rules.proofs.Demand3.Reads.InsertsSame.{insert-same}
use Rattle.rules.proofs.Demand3.Histories.Fates.{Alive, alive_reading}

-- session and stable table are handed back as they came, and of the working table lost pages are mended
pub record Reading (m : State) (e : Event) : Type 0 where
  pub session : (step e m).session ≡ m.session
  pub stable : (step e m).stable ≡ m.stable
  pub left : Calm m.session m.working m.stable (λ k o. OneOf o (m.past k)) (step e m).working
  pub is : step e m ≡ after_reading m (step e m).session (step e m).working (step e m).stable

module _ {n : ℕ} {m : State} (a : Alive n m) where
  pub reading : (e : Event) → Reads e → Reading m e
  unfolding step after_reading
  reading (looks model serial issue) look =
      let only = lookup_mends m.working m.stable m.session model serial issue in
      record {
        session = only.session;
        stable = only.stable;
        left = lookup-calm a.safe (calm a.safe) model serial issue;
        is = refl;
      }
  reading (asks_newest model serial) ask =
      let only = newest_mends m.working m.stable m.session model serial in
      record {
        session = only.session;
        stable = only.stable;
        left = (newest_answers a.safe (calm a.safe) model serial).left;
        is = refl;
      }
  reading (asks_any model serial) ask_any =
      let only = any_mends m.working m.stable m.session model serial in
      record {
        session = only.session;
        stable = only.stable;
        left = (any_answers a.safe (calm a.safe) model serial).left;
        is = refl;
      }
  reading (lists from ks xs) listing =
      let only = list_mends_lem m.session m.working m.stable from ks xs in
      record {
        session = only.session;
        stable = only.stable;
        left = (list_answers a.safe (calm a.safe) from ks xs).left;
        is = refl;
      }
  reading (inserts _ _ _ _) x5 = elim x5 [ ]
  reading (withdraws _ _ _) x5 = elim x5 [ ]
  reading syncs x3 = elim x3 [ ]
  reading opens x4 = elim x4 [ ]
  reading (crashes _ _) x7 = elim x7 [ ]
  reading (crashes_in_sync _ _) x8 = elim x8 [ ]

  pub alive-reads : (e : Event) → Reads e → Alive n (step e m)
  alive-reads e r =
      let x = reading e r in
      subst (Alive n)
      (sym (x.is
      ∙ (ap (λ (s : Session). after_reading m s (step e m).working (step e m).stable) x.session
      ∙ ap (after_reading m m.session (step e m).working) x.stable)))
      (alive_reading (step e m).working a x.left.safe x.left.steady)

  -- ── Later answers ─────────────────────────────────────────────────────────────────────────────────────────────

  -- what holds of a call on the working table that is left holds of a call after the event
  module _ (e : Event) (r : Reads e) (Goal : List ℕ → List ℕ → Session → Type 0) where
    later : Goal (step e m).working m.stable m.session → Goal (step e m).working (step e m).stable (step e m).session
    later g =
        let x = reading e r in
        subst (λ (s : Session). Goal (step e m).working (step e m).stable s) (sym x.session)
        (subst (λ (t : List ℕ). Goal (step e m).working t m.session) (sym x.stable) g)

  pub alive_serves : Serves m
  alive_serves = record {
    looks_up = λ k h. content-told a.safe h (a.now k h);
    list_tells = list-told a.safe (λ k. latest (m.past k)) a.now;
    newest_tells = newest-told a.safe (λ k. latest (m.past k)) a.now;
    any_tells = any_told a.safe (λ k. latest (m.past k)) a.now;
    counts = λ ks xs. list_counts a.safe ks xs ∙ ap (λ (i : ℕ). Ok (min (min (length ks) (length xs)) i)) (sym a.total);
    lookup_whole = never-lost a.safe (calm a.safe);
    newest_whole = never-damaged a.safe;
    any_whole = any_undamaged a.safe;
    list_whole = never-refused a.safe;
    lookup_stays = λ e r model serial issue.
        later e r (λ w t s. (lookup w t s model serial issue).answer ≡ (lookup_now m model serial issue).answer)
        (lookup-same a.safe (reading e r).left model serial issue);
    newest_stays = λ e r model serial.
        later e r (λ w t s. (newest w t s model serial).answer ≡ (newest_now m model serial).answer)
        (newest-same a.safe (reading e r).left model serial);
    any_stays = λ e r model serial.
        later e r (λ w t s. (has_any w t s model serial).answer ≡ (has_any_now m model serial).answer)
        (any_same a.safe (reading e r).left model serial);
    list_stays = λ e r from ks xs.
        later e r (λ w t s. SameListing (list w t s from ks xs) (list_now m from ks xs))
        (list_same a.safe (reading e r).left from ks xs);
    insert_stays = λ e r model serial issue x.
        later e r (λ w t s. (insert w t s model serial issue x).answer ≡ (insert_now m model serial issue x).answer)
        (insert-same a.safe (reading e r).left model serial issue x);
    withdraw_stays = λ e r model serial issue.
        later e r (λ w t s. (withdraw w t s model serial issue).answer ≡ (withdraw_now m model serial issue).answer)
        (withdraw_as (step e m).working m.stable m.session model serial issue
        ∙ ap withdrawn_as (lookup-same a.safe (reading e r).left model serial issue)
        ∙ sym (withdraw_as m.working m.stable m.session model serial issue));
  }
