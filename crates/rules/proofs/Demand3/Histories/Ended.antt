-- A store whose last opening found the number spent: every call that is given its session is refused and changes nothing, and
-- every further opening finds the number spent.
use Rattle.std.proofs.Common.{◌≡◌, ℕ, ◌*◌, Bool, false, ◌&&◌, eqb, List, length, sym, ap, ◌∙◌, subst, arith, eq-eqb, eqb-true, Ok, Err}
use borrow.Author.Tests.{lt-leb}
use Rattle.rules.specs.Layout.{page_size, last_number}
use Rattle.rules.specs.Table.{pages, good_lengths, number0}
use Rattle.rules.specs.Key.{key_of}
use Rattle.rules.specs.Marks.{nobody}
use Rattle.rules.specs.Call.{Left, lengths_for, opened_no, open_error_no}
use Rattle.rules.specs.Open.{opening, open_refused}
use Rattle.rules.specs.Insert.{insert, insert_refused}
use Rattle.rules.specs.Withdraw.{withdraw, withdraw_refused}
use Rattle.rules.specs.Lookup.{lookup, lookup_left}
use Rattle.rules.specs.Newest.{newest, newest_left}
use Rattle.rules.specs.HasAny.{has_any, any_left}
use Rattle.rules.specs.List.{ListLeft, list, list_refused}
use Rattle.rules.specs.Sync.{sync, sync_refused}
use Rattle.rules.specs.Crash.{crashed, inside_sync}
use Rattle.rules.specs.History.{Event, inserts, withdraws, looks, asks_newest, asks_any, lists, syncs, opens, crashes, crashes_in_sync, State, after_insert, after_withdraw, after_sync, after_open, after_reading, step, Proper}
use Rattle.rules.specs.Demand.{CrashOf, between_calls, in_sync, open_answer, Survives}
use Rattle.rules.specs.Answer.{Opened, Inserted, Withdrawn, Looked, Newest, Any, Synced}
use Rattle.rules.specs.declared.OpenError.{OpenError}
use Rattle.rules.specs.declared.InsertError.{InsertError}
use Rattle.rules.specs.declared.FindError.{FindError}
use Rattle.rules.specs.declared.AnyError.{AnyError}
use Rattle.rules.specs.declared.ListError.{ListError}
use Rattle.rules.specs.declared.SyncError.{SyncError}
use Rattle.rules.specs.declared.Session.{Session}
use Rattle.rules.proofs.Entries.Tests.{and_right, fails}
use Rattle.rules.proofs.Bytes.Lengths.{pages-of}
use Rattle.rules.proofs.Demand3.Epochs.Openings.{opening-spent}
use Rattle.rules.proofs.Demand3.Histories.Fates.{Over, over-refused}

module _ {n : ℕ} {m : State} (o : Over n m) where
  pub no_pages : m.session.n ≡ 0
  unfolding nobody
  no_pages = ap (λ (s : Session). s.n) o.nobody

  pub over_closed : m.opened ≡ Ok tt → ⊥
  unfolding open_error_no
  over_closed d = omega (arith, ap opened_no (sym o.opened ∙ d))

  -- ── Calls ─────────────────────────────────────────────────────────────────────────────────────────────────────

  refused : lengths_for m.session m.working m.stable ≡ false
  unfolding lengths_for
  refused =
      fails (good_lengths m.working m.stable && eqb m.session.n (pages m.working))
      (λ h. omega (
        arith,
        no_pages,
        pages-of m.working n o.working,
        o.few,
        eqb-true m.session.n (pages m.working)
            (and_right (good_lengths m.working m.stable) (eqb m.session.n (pages m.working)) h),
      ))

  inserting : (model serial issue x : ℕ)
      → insert m.working m.stable m.session model serial issue x
      ≡ insert_refused (Err InsertError.Length) m.session m.working m.stable
  unfolding insert
  inserting model serial issue x = rw (refused, insert)

  withdrawing : (model serial issue : ℕ)
      → withdraw m.working m.stable m.session model serial issue
      ≡ withdraw_refused (Err FindError.Length) m.session m.working m.stable
  unfolding withdraw
  withdrawing model serial issue = rw (refused, withdraw)

  looking : (model serial issue : ℕ)
      → lookup m.working m.stable m.session model serial issue ≡ lookup_left m.session m.working m.stable (Err FindError.Length)
  unfolding lookup
  looking model serial issue = rw (refused, lookup)

  asking : (model serial : ℕ)
      → newest m.working m.stable m.session model serial ≡ newest_left m.session m.working m.stable (Err FindError.Length)
  unfolding newest
  asking model serial = rw (refused, newest)

  asking_any : (model serial : ℕ)
      → has_any m.working m.stable m.session model serial ≡ any_left m.session m.working m.stable (Err AnyError.Length)
  unfolding has_any
  asking_any model serial = rw (refused, has_any)

  listing : (start : ℕ) (ks xs : List ℕ)
      → list m.working m.stable m.session start ks xs ≡ list_refused (Err ListError.Length) m.session m.working m.stable ks xs
  unfolding list
  listing start ks xs = rw (refused, list)

  syncing : sync m.working m.stable m.session ≡ sync_refused (Err SyncError.Length) m.session m.working m.stable
  unfolding sync
  syncing = rw (refused, sync)

  -- ── Openings ──────────────────────────────────────────────────────────────────────────────────────────────────

  module _ (w : List ℕ) (h : length w ≡ n * page_size) where
    opening-again : opening w m.stable ≡ open_refused (Err OpenError.Spent) w m.stable
    opening-again = opening-spent n w m.stable o.few o.most h o.stable o.good o.spent

    over-opens : Over n (after_open m.past (opening w m.stable))
    over-opens =
        subst (λ (r : Left Opened). Over n (after_open m.past r)) (sym opening-again)
        (over-refused n m.past w m.stable o.few o.most h o.stable o.good o.spent)

  crashed-stays : (written : List Bool) (w : List ℕ) → crashed written m.session.n w m.stable ≡ m.stable
  unfolding crashed
  crashed-stays written w = rw (eq-eqb m.session.n 0 no_pages, crashed)

  crash-stays : {t : List ℕ} → CrashOf m t → t ≡ m.stable
  crash-stays (between_calls written) = crashed-stays written m.working
  crash-stays (in_sync written) = crashed-stays written (inside_sync m.session m.working)

  module _ (w : List ℕ) (h : length w ≡ n * page_size) where
    never_done : (opening w m.stable).answer ≡ Ok tt → ⊥
    unfolding open_refused open_error_no
    never_done d = omega (arith, ap opened_no (sym (ap (λ (r : Left Opened). r.answer) (opening-again w h)) ∙ d))

    not_done : {t : List ℕ} → t ≡ m.stable → (opening w t).answer ≡ Ok tt → ⊥
    not_done q d = never_done (sym (ap (λ (u : List ℕ). (opening w u).answer) q) ∙ d)

    answers : (opening w m.stable).answer ≡ open_answer m.stable
    unfolding open_answer open_refused
    answers =
        ap (λ (r : Left Opened). r.answer) (opening-again w h) ∙ sym (rw (lt-leb (number0 m.stable) last_number o.spent, open_answer))

    pub over_survives : Survives m w
    over_survives = record {
      opens = λ t c. subst (λ (u : List ℕ). (opening w u).answer ≡ open_answer u) (sym (crash-stays c)) answers;
      shows = λ t c d k b. absurd (not_done (crash-stays c) d);
      stays = λ t c d k o b e. absurd (not_done (crash-stays c) d);
      keeps = λ t c d k y b e q. absurd (not_done (crash-stays c) d);
      nothing_written = λ d k b. absurd (never_done d);
      all_written = λ t q d k b. absurd (not_done (q ∙ crashed-stays _ m.working) d);
      all_written_in_sync = λ t q d k b. absurd (not_done (q ∙ crashed-stays _ (inside_sync m.session m.working)) d);
    }

  -- ── Any event ─────────────────────────────────────────────────────────────────────────────────────────────────

  pub over-step : (e : Event) → Proper n e → Over n (step e m)
  unfolding Proper step after_reading after_insert after_withdraw after_sync insert_refused withdraw_refused lookup_left newest_left any_left list_refused sync_refused
  over-step (inserts model serial issue x) p =
      subst (λ (r : Left Inserted). Over n (after_insert (key_of model serial issue) x m r)) (sym (inserting model serial issue x)) o
  over-step (withdraws model serial issue) p =
      subst (λ (r : Left Withdrawn). Over n (after_withdraw (key_of model serial issue) m r)) (sym (withdrawing model serial issue)) o
  over-step (looks model serial issue) p =
      subst (λ (r : Left Looked). Over n (after_reading m r.session r.working r.stable)) (sym (looking model serial issue)) o
  over-step (asks_newest model serial) p =
      subst (λ (r : Left Newest). Over n (after_reading m r.session r.working r.stable)) (sym (asking model serial)) o
  over-step (asks_any model serial) p =
      subst (λ (r : Left Any). Over n (after_reading m r.session r.working r.stable)) (sym (asking_any model serial)) o
  over-step (lists start ks xs) p =
      subst (λ (r : ListLeft). Over n (after_reading m r.session r.working r.stable)) (sym (listing start ks xs)) o
  over-step syncs p = subst (λ (r : Left Synced). Over n (after_sync m r)) (sym syncing) o
  over-step opens p = over-opens m.working o.working
  over-step (crashes written w) p =
      subst (λ (t : List ℕ). Over n (after_open m.past (opening w t))) (sym (crashed-stays written m.working)) (over-opens w p)
  over-step (crashes_in_sync written w) p =
      subst (λ (t : List ℕ). Over n (after_open m.past (opening w t))) (sym (crashed-stays written (inside_sync m.session m.working))) (over-opens w p)
