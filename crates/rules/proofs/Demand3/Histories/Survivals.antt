-- A crash of a store of a history, and the opening after it: what demand 3 says of them, and that a history goes on from there.
use Rattle.std.proofs.Common.{◌≡◌, ℕ, ◌+◌, ◌*◌, ◌<◌, ◌≤◌, Bool, true, false, eqb, leb, List, [], length, replicate, sym, refl, ap, ◌∙◌, subst, arith, ne_eqb, le-leb, leb-false, leb-true, Ok, Err}
use mathlib.Core.Option.{Option}
use lib.ListN.{get_or-replicate}
use borrow.Author.Tests.{lt-leb}
use Rattle.rules.specs.Layout.{page_size, most_pages, last_key, last_number}
use Rattle.rules.specs.Table.{number0, set_number}
use Rattle.rules.specs.Tree.{tree_of}
use Rattle.rules.specs.Marks.{opened}
use Rattle.rules.specs.Call.{Left, opened_no, open_error_no}
use Rattle.rules.specs.Crash.{mix, crashed, inside_sync}
use Rattle.rules.specs.Open.{opening, open_refused}
use Rattle.rules.specs.History.{State, latest, earliest, content, after_open, crash_in_sync_now}
use Rattle.rules.specs.Demand.{CrashOf, between_calls, in_sync, OneOf, open_answer, after, Survives}
use Rattle.rules.specs.Answer.{Opened}
use Rattle.rules.specs.declared.OpenError.{OpenError}
use Rattle.rules.proofs.Demand3.Ways.Ways.{Tells}
use Rattle.rules.proofs.Demand3.Ways.Invariant.{Good}
use Rattle.rules.proofs.Demand3.Ways.Nodes.{tells}
use Rattle.rules.proofs.Demand3.Epochs.Epochs.{Alike, alike_self, working-good}
use Rattle.rules.proofs.Demand3.Epochs.Store.{Whole, Safe}
use Rattle.rules.proofs.Demand3.Epochs.Openings.{raise, done}
use Rattle.rules.proofs.Demand3.Epochs.Recoveries.{left-whole, left-good, recovery_done, recovery_spent, recovery_safe, recovery_told, recovery_none, recovery_all}
use Rattle.rules.proofs.Demand3.Epochs.Syncs.{numbered-alike, numbered-whole, numbered-number}
use Rattle.rules.proofs.Demand3.Reads.Looks.{content-told}
use Rattle.rules.proofs.Demand3.Histories.Pasts.{only_one_of, settled-keeps}
use Rattle.rules.proofs.Demand3.Histories.Fates.{Alive, Fate, alive, over, alive-done, over-refused}

-- ── The answers of an opening ───────────────────────────────────────────────────────────────────────────────────

answer-done : (t : List ℕ) → number0 t ≤ last_number → open_answer t ≡ Ok tt
unfolding open_answer
answer-done t h = rw (le-leb (number0 t) last_number h, open_answer)

answer-spent : (t : List ℕ) → last_number < number0 t → open_answer t ≡ Err OpenError.Spent
unfolding open_answer
answer-spent t h = rw (lt-leb (number0 t) last_number h, open_answer)

not_done : {a : Opened} → a ≡ Err OpenError.Spent → a ≡ Ok tt → ⊥
unfolding open_error_no
not_done h d = omega (arith, ap opened_no (sym h ∙ d))

-- ── The table that a crash leaves ───────────────────────────────────────────────────────────────────────────────

-- pages of source, which is the working table or, inside a sync, the working table with its new number
record Written (m : State) (t : List ℕ) : Type 0 where
  source : List ℕ
  alike : Alike m.session.n m.working source
  whole : Whole m.session.n source
  above : m.session.c < number0 source
  pages : List Bool
  left : mix pages source m.stable ≡ t

module _ {n : ℕ} {m : State} (a : Alive n m) where
  x : Safe m.session m.working m.stable (λ k o. OneOf o (m.past k))
  x = a.safe

  some-pages : eqb m.session.n 0 ≡ false
  some-pages = ne_eqb m.session.n 0 (λ h. omega (arith, x.few, h))

  plainly : (pages : List Bool) → Written m (mix pages m.working m.stable)
  plainly pages = record {
    source = m.working;
    alike = alike_self;
    whole = x.working;
    above = omega (arith, x.number_working);
    pages = pages;
    left = refl;
  }

  in_sync_lem : m.session.c ≤ last_number → (pages : List Bool)
      → Written m (mix pages (set_number m.working (m.session.c + 2)) m.stable)
  in_sync_lem h pages = record {
    source = set_number m.working (m.session.c + 2);
    alike = numbered-alike x;
    whole = numbered-whole x;
    above = omega (arith, numbered-number x h);
    pages = pages;
    left = refl;
  }

  crashed-is : (pages : List Bool) (u : List ℕ) → crashed pages m.session.n u m.stable ≡ mix pages u m.stable
  unfolding crashed
  crashed-is pages u = rw (some-pages, crashed)

  in_sync-is : (pages : List Bool) → leb m.session.c last_number ≡ true
      → crash_in_sync_now pages m ≡ mix pages (set_number m.working (m.session.c + 2)) m.stable
  unfolding inside_sync
  in_sync-is pages h = crashed-is pages (inside_sync m.session m.working) ∙ rw (h, inside_sync)

  in_sync-spent : (pages : List Bool) → leb m.session.c last_number ≡ false
      → crash_in_sync_now pages m ≡ mix pages m.working m.stable
  unfolding inside_sync
  in_sync-spent pages h = crashed-is pages (inside_sync m.session m.working) ∙ rw (h, inside_sync)

  crash-written : {t : List ℕ} → CrashOf m t → Written m t
  crash-written (between_calls pages) = subst (Written m) (sym (crashed-is pages m.working)) (plainly pages)
  crash-written (in_sync pages) = go (leb m.session.c last_number) refl
    where
      go : (b : Bool) → leb m.session.c last_number ≡ b → Written m (crash_in_sync_now pages m)
      go true h = subst (Written m) (sym (in_sync-is pages h)) (in_sync_lem (leb-true m.session.c last_number h) pages)
      go false h = subst (Written m) (sym (in_sync-spent pages h)) (plainly pages)

  -- ── The opening after it ──────────────────────────────────────────────────────────────────────────────────────

  -- it is lent any working table of that length
  module _ (lent : List ℕ) (sized : length lent ≡ n * page_size) {t : List ℕ} (w : Written m t) where
    length_is : length lent ≡ m.session.n * page_size
    length_is = sized ∙ ap (λ (i : ℕ). i * page_size) (sym a.pages)

    opens-done : number0 t ≤ last_number → opening lent t ≡ done m.session.n t
    opens-done =
        subst (λ (u : List ℕ). number0 u ≤ last_number → opening lent u ≡ done m.session.n u) w.left
        (recovery_done x w.source w.alike w.whole w.above w.pages lent length_is)

    opens-spent : last_number < number0 t → opening lent t ≡ open_refused (Err OpenError.Spent) lent t
    opens-spent =
        subst (λ (u : List ℕ). last_number < number0 u → opening lent u ≡ open_refused (Err OpenError.Spent) lent u) w.left
        (recovery_spent x w.source w.alike w.whole w.above w.pages lent length_is)

    opens-answer : (opening lent t).answer ≡ open_answer t
    unfolding open_refused
    opens-answer = go (leb (number0 t) last_number) refl
      where
        go : (b : Bool) → leb (number0 t) last_number ≡ b → (opening lent t).answer ≡ open_answer t
        go true h =
            let l = leb-true (number0 t) last_number h in
            ap (λ (r : Left Opened). r.answer) (opens-done l) ∙ sym (answer-done t l)
        go false h =
            let l = leb-false (number0 t) last_number h in
            ap (λ (r : Left Opened). r.answer) (opens-spent l) ∙ sym (answer-spent t l)

    -- where it is done the number is not spent
    low-enough : (opening lent t).answer ≡ Ok tt → number0 t ≤ last_number
    low-enough d = go (leb (number0 t) last_number) refl
      where
        go : (b : Bool) → leb (number0 t) last_number ≡ b → number0 t ≤ last_number
        go true h = leb-true (number0 t) last_number h
        go false h =
            absurd (not_done (opens-answer ∙ answer-spent t (leb-false (number0 t) last_number h)) d)

    opened-safe : number0 t ≤ last_number
        → Safe (opened m.session.n (number0 t) (tree_of m.session.n t)) (raise t) (raise t) (Tells m.session.n (raise t))
    opened-safe =
        subst
        (λ (u : List ℕ). number0 u ≤ last_number
        → Safe (opened m.session.n (number0 u) (tree_of m.session.n u)) (raise u) (raise u) (Tells m.session.n (raise u)))
        w.left
        (recovery_safe x w.source w.alike w.whole w.above w.pages)

    opened-told : {k : ℕ} {o : Option ℕ} → Tells m.session.n (raise t) k o → OneOf o (m.past k)
    opened-told {k} {o} y =
        recovery_told x w.source w.alike w.whole w.above w.pages
        (subst (λ (u : List ℕ). Tells m.session.n (raise u) k o) (sym w.left) y)

    -- what is found then is what the table tells
    found : number0 t ≤ last_number → {k : ℕ} {o : Option ℕ} → k ≤ last_key → Tells m.session.n (raise t) k o → after lent t k ≡ o
    unfolding after opened
    found l {k} {o} h y =
        ap (λ (r : Left Opened). content r.session r.working r.stable k) (opens-done l)
        ∙ content-told (opened-safe l) h y

    shows : (opening lent t).answer ≡ Ok tt → (k : ℕ) → k ≤ last_key → OneOf (after lent t k) (m.past k)
    unfolding opened
    shows d k h =
        let l = low-enough d in
        let y = tells (working-good (opened-safe l).inv) k h in
        subst (λ (o : Option ℕ). OneOf o (m.past k)) (sym (found l h y.1)) (opened-told y.1)

    fate_after : Fate n (after_open m.past (opening lent t))
    fate_after = subst (λ (i : ℕ). Fate i (after_open m.past (opening lent t))) a.pages (go (leb (number0 t) last_number) refl)
      where
        whole : Whole m.session.n t
        whole =
            subst (Whole m.session.n) w.left (left-whole x w.source w.alike w.whole w.above w.pages)

        good : Good m.session.n t
        good =
            subst (Good m.session.n) w.left
            (left-good x w.source w.alike w.whole w.above w.pages)

        go : (b : Bool) → leb (number0 t) last_number ≡ b → Fate m.session.n (after_open m.past (opening lent t))
        go true h =
            let l = leb-true (number0 t) last_number h in
            subst (λ (r : Left Opened). Fate m.session.n (after_open m.past r)) (sym (opens-done l))
            (alive (alive-done m.session.n m.past t good (opened-safe l)))
        go false h =
            let l = leb-false (number0 t) last_number h in
            subst (λ (r : Left Opened). Fate m.session.n (after_open m.past r)) (sym (opens-spent l))
            (over (over-refused m.session.n m.past lent t x.few x.most length_is whole good l))

  -- ── What demand 3 says ────────────────────────────────────────────────────────────────────────────────────────

  none_written : Written m m.stable
  unfolding mix
  none_written = plainly []

  module _ (lent : List ℕ) (sized : length lent ≡ n * page_size) where
    nothing : (opening lent m.stable).answer ≡ Ok tt → (k : ℕ) → k ≤ last_key → after lent m.stable k ≡ earliest (m.past k)
    unfolding mix
    nothing d k h =
        found lent sized none_written (low-enough lent sized none_written d) h
        (recovery_none x m.working alike_self x.working (omega (arith, x.number_working)) [] (λ i p. refl) (a.then k h))

    -- every page is written from a source that reads as the working table
    all_from : (u : List ℕ) → Alike m.session.n m.working u → Whole m.session.n u → m.session.c < number0 u
        → (t : List ℕ) → t ≡ mix (replicate most_pages true) u m.stable → (opening lent t).answer ≡ Ok tt
        → (k : ℕ) → k ≤ last_key → after lent t k ≡ latest (m.past k)
    all_from u same whole above t q =
        subst
        (λ (v : List ℕ). (opening lent v).answer ≡ Ok tt → (k : ℕ) → k ≤ last_key → after lent v k ≡ latest (m.past k))
        (sym q)
        (λ d k h.
        found lent sized from (low-enough lent sized from d) h
        (recovery_all x u same whole above (replicate most_pages true)
        (λ i p. get_or-replicate most_pages i true false (omega (arith, x.most))) (a.now k h)))
      where
        from : Written m (mix (replicate most_pages true) u m.stable)
        from = record { source = u; alike = same; whole = whole; above = above; pages = replicate most_pages true; left = refl }

    everything : (t : List ℕ) → t ≡ mix (replicate most_pages true) m.working m.stable → (opening lent t).answer ≡ Ok tt
        → (k : ℕ) → k ≤ last_key → after lent t k ≡ latest (m.past k)
    everything = all_from m.working alike_self x.working (omega (arith, x.number_working))

    everything_in-sync : (t : List ℕ) → t ≡ crash_in_sync_now (replicate most_pages true) m → (opening lent t).answer ≡ Ok tt
        → (k : ℕ) → k ≤ last_key → after lent t k ≡ latest (m.past k)
    everything_in-sync t q = go (leb m.session.c last_number) refl
      where
        go : (b : Bool) → leb m.session.c last_number ≡ b → (opening lent t).answer ≡ Ok tt
            → (k : ℕ) → k ≤ last_key → after lent t k ≡ latest (m.past k)
        go true h =
            let l = leb-true m.session.c last_number h in
            all_from (set_number m.working (m.session.c + 2)) (numbered-alike x) (numbered-whole x)
            (omega (arith, numbered-number x l)) t (q ∙ in_sync-is (replicate most_pages true) h)
        go false h = everything t (q ∙ in_sync-spent (replicate most_pages true) h)

    pub alive_survives : Survives m lent
    alive_survives = record {
      opens = λ t c. opens-answer lent sized (crash-written c);
      shows = λ t c d k h. shows lent sized (crash-written c) d k h;
      stays = λ t c d k o h e. only_one_of (subst (OneOf (after lent t k)) e (shows lent sized (crash-written c) d k h));
      keeps = λ t c d k y h e q.
          settled-keeps (m.past k) y (after lent t k) (a.settled k) e q (shows lent sized (crash-written c) d k h);
      nothing_written = nothing;
      all_written = λ t q. everything t (q ∙ crashed-is (replicate most_pages true) m.working);
      all_written_in_sync = everything_in-sync;
    }

    pub fate_crashes : (t : List ℕ) → CrashOf m t → Fate n (after_open m.past (opening lent t))
    fate_crashes t c = fate_after lent sized (crash-written c)

  pub fate_opens : Fate n (after_open m.past (opening m.working m.stable))
  fate_opens = fate_after m.working (x.working.length_is ∙ ap (λ (i : ℕ). i * page_size) a.pages) none_written
