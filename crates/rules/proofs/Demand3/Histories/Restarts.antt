-- Quiet restarts: a crash after calls that change no certificate, and the opening after it.
use Rattle.std.proofs.Common.{◌≡◌, ℕ, ◌+◌, ◌*◌, ◌<◌, ◌≤◌, Bool, true, false, ◌&&◌, eqb, leb, ◌⊎◌, List, [], ◌∷◌, length, sym, refl, ap, ◌∙◌, subst, inl, inr, arith, leb-false, Ok, Err}
use mathlib.Core.Option.{Option}
use Rattle.rules.specs.Layout.{page_size, last_key, last_number}
use Rattle.rules.specs.Table.{pages, page_at, good_lengths, fit0, number0, set_number, beside_number}
use Rattle.rules.specs.Tree.{tree_of, good_tree}
use Rattle.rules.specs.Call.{opened_no, open_error_no}
use Rattle.rules.specs.Format.{format}
use Rattle.rules.specs.Open.{opening, open_refused, open_done}
use Rattle.rules.specs.Crash.{mix, crashed, inside_sync}
use Rattle.rules.specs.History.{Event, opens, crashes, crashes_in_sync, State, after_open, crash_now, crash_in_sync_now, step, start, run, Proper, AllProper, asks_any, asks_newest, inserts, lists, looks, syncs, withdraws}
use Rattle.rules.specs.Demand.{CrashOf, between_calls, in_sync, open_answer, after, Lent}
use Rattle.rules.specs.Quiet.{QuietCalls, Opens, plainly, after_crash, after_crash_in_sync, JustOpened, formatted, later, content_now, SameEntries, Restarted, QuietRestarts}
use Rattle.rules.specs.declared.Session.{Session}
use Rattle.rules.specs.Answer.{Opened}
use Rattle.rules.specs.declared.OpenError.{OpenError}
use Rattle.rules.proofs.Bytes.PageZero.{length-set_number, page_at-set_number, beside_same, beside-set_number}
use Rattle.rules.proofs.Demand1.Unmended.{unmended}
use Rattle.rules.proofs.Demand1.Refusals.{opening-refused}
use Rattle.rules.proofs.Demand3.Epochs.Crashes.{mix-page}
use Rattle.rules.proofs.Demand3.Histories.Fates.{Alive, Fate, alive, over}
use Rattle.rules.proofs.Demand3.Histories.Survivals.{alive_survives, fate_crashes}
use Rattle.rules.proofs.Demand3.Histories.Ended.{over_closed}
use Rattle.rules.proofs.Demand3.Histories.Histories.{fate_run, fate_start}
use Rattle.rules.proofs.Demand3.Histories.QuietCalls.{Rested, rested}
use Rattle.rules.proofs.Demand3.Histories.SameRecords.{same_entries}

-- ── A table with another number ─────────────────────────────────────────────────────────────────────────────────

data Renumbered (t : List ℕ) : List ℕ → Type 0 where
  unnumbered : Renumbered t t
  numbered : (x : ℕ) → Renumbered t (set_number t x)

renumbered_length : {t u : List ℕ} → Renumbered t u → length u ≡ length t
renumbered_length unnumbered = refl
renumbered_length {t} (numbered x) = length-set_number t x

renumbered_page : {t u : List ℕ} → Renumbered t u → (i : ℕ) → 1 ≤ i → page_at u i ≡ page_at t i
renumbered_page unnumbered i h = refl
renumbered_page {t} (numbered x) i h = page_at-set_number t x i h

renumbered_zero : {t u : List ℕ} → Renumbered t u → beside_number u ≡ beside_number t
renumbered_zero unnumbered = refl
renumbered_zero {t} (numbered x) = beside-set_number t x

-- an opening and a sync that is begun change no more
opening-stable : (w t : List ℕ) → Renumbered t (opening w t).stable
unfolding opening open_refused open_done
opening-stable w t =
    go (good_lengths w t) refl (fit0 (pages t) t && good_tree (tree_of (pages t) t)) refl (leb (number0 t) last_number) refl
  where
    go : (a : Bool) → good_lengths w t ≡ a → (b : Bool) → (fit0 (pages t) t && good_tree (tree_of (pages t) t)) ≡ b
        → (c : Bool) → leb (number0 t) last_number ≡ c → Renumbered t (opening w t).stable
    go false p b q c o = rw (p, opening) unnumbered
    go true p false q c o = rw (p, opening, q) unnumbered
    go true p true q false o = rw (p, opening, q, o) unnumbered
    go true p true q true o = rw (p, opening, q, o) (numbered (number0 t + 1))

inside_sync_lem : (s : Session) (w : List ℕ) → Renumbered w (inside_sync s w)
unfolding inside_sync
inside_sync_lem s w = go (leb s.c last_number) refl
  where
    go : (b : Bool) → leb s.c last_number ≡ b → Renumbered w (inside_sync s w)
    go true h = rw (h, inside_sync) (numbered (s.c + 2))
    go false h = rw (h, inside_sync) unnumbered

-- ── The table that a crash leaves ───────────────────────────────────────────────────────────────────────────────

-- each page is stable's, or that of a source, which is working with this number or another
record Written (m : State) (t : List ℕ) : Type 0 where
  source : List ℕ
  working : Renumbered m.working source
  page : (i : ℕ) → i < m.session.n → (page_at t i ≡ page_at m.stable i) ⊎ (page_at t i ≡ page_at source i)

module _ {n : ℕ} {m : State} (a : Alive n m) where
  written_from : (marks : List Bool) (u : List ℕ) → Renumbered m.working u → Written m (crashed marks m.session.n u m.stable)
  unfolding crashed
  written_from marks u r = record { source = u; working = r; page = page }
    where
      sized : length u ≡ m.session.n * page_size
      sized = renumbered_length r ∙ a.safe.working.length_is

      page : (i : ℕ) → i < m.session.n
          → (page_at (crashed marks m.session.n u m.stable) i ≡ page_at m.stable i)
          ⊎ (page_at (crashed marks m.session.n u m.stable) i ≡ page_at u i)
      page i b = go (eqb m.session.n 0) refl
        where
          go : (c : Bool) → eqb m.session.n 0 ≡ c
              → (page_at (crashed marks m.session.n u m.stable) i ≡ page_at m.stable i)
              ⊎ (page_at (crashed marks m.session.n u m.stable) i ≡ page_at u i)
          go true h = inl (rw (h, crashed))
          go false h = rw (h, crashed) (mix-page m.session.n marks u m.stable sized a.safe.stable.length_is i b)

  crash-written : {t : List ℕ} → CrashOf m t → Written m t
  crash-written (between_calls marks) = written_from marks m.working unnumbered
  crash-written (in_sync marks) = written_from marks (inside_sync m.session m.working) (inside_sync_lem m.session m.working)

  -- a page that is the same in both tables is the same after a crash
  crash-page : {t : List ℕ} → CrashOf m t → (i : ℕ) → 1 ≤ i → i < n → page_at m.working i ≡ page_at m.stable i
      → page_at t i ≡ page_at m.stable i
  crash-page {t} c i h b e = go (w.page i (omega (arith, a.pages)))
    where
      w : Written m t
      w = crash-written c

      go : (page_at t i ≡ page_at m.stable i) ⊎ (page_at t i ≡ page_at w.source i) → page_at t i ≡ page_at m.stable i
      go (inl q) = q
      go (inr q) = q ∙ (renumbered_page w.working i h ∙ e)

  crash-zero : {t : List ℕ} → CrashOf m t → beside_number m.working ≡ beside_number m.stable → beside_number t ≡ beside_number m.stable
  crash-zero {t} c e = go (w.page 0 (omega (arith, a.safe.few)))
    where
      w : Written m t
      w = crash-written c

      go : (page_at t 0 ≡ page_at m.stable 0) ⊎ (page_at t 0 ≡ page_at w.source 0) → beside_number t ≡ beside_number m.stable
      go (inl q) = beside_same t m.stable q
      go (inr q) = beside_same t w.source q ∙ (renumbered_zero w.working ∙ e)

-- ── The second opening ──────────────────────────────────────────────────────────────────────────────────────────

-- an opening reads a table that a crash left, be it one that wrote nothing
record From (n : ℕ) (m : State) (e : Event) : Type 0 where
  lent : List ℕ
  table : List ℕ
  sized : length lent ≡ n * page_size
  crash : CrashOf m table
  is : step e m ≡ after_open m.past (opening lent table)

crash-none : (m : State) → crash_now [] m ≡ m.stable
unfolding crashed mix
crash-none m = go (eqb m.session.n 0) refl
  where
    go : (b : Bool) → eqb m.session.n 0 ≡ b → crash_now [] m ≡ m.stable
    go true h = rw (h, crashed)
    go false h = rw (h, crashed)

from : {n : ℕ} {m : State} → Alive n m → (e : Event) → Opens e → Proper n e → From n m e
unfolding step Proper
from {n} {m} a opens plainly t = record {
  lent = m.working;
  table = m.stable;
  sized = a.safe.working.length_is ∙ ap (λ (i : ℕ). i * page_size) a.pages;
  crash = subst (CrashOf m) (crash-none m) (between_calls []);
  is = refl;
}
from {n} {m} a (crashes marks w) after_crash t =
    record { lent = w; table = crash_now marks m; sized = t; crash = between_calls marks; is = refl }
from {n} {m} a (crashes_in_sync marks w) after_crash_in_sync t =
    record { lent = w; table = crash_in_sync_now marks m; sized = t; crash = in_sync marks; is = refl }
from {n = n} {m = m} a (inserts _ _ _ _) x6 t = elim x6 [ ]
from {n = n} {m = m} a (withdraws _ _ _) x6 t = elim x6 [ ]
from {n = n} {m = m} a (looks _ _ _) x7 t = elim x7 [ ]
from {n = n} {m = m} a (asks_newest _ _) x7 t = elim x7 [ ]
from {n = n} {m = m} a (asks_any _ _) x8 t = elim x8 [ ]
from {n = n} {m = m} a (lists _ _ _) x10 t = elim x10 [ ]
from {n = n} {m = m} a syncs x8 t = elim x8 [ ]

-- it is done; or it is refused, which leaves the number that is spent
Answers : Opened → List ℕ → Type 0
Answers answer t = (answer ≡ Ok tt) ⊎ ((answer ≡ Err OpenError.Spent) × (last_number < number0 t))

answers : (w t : List ℕ) → (opening w t).answer ≡ open_answer t → Answers (opening w t).answer (opening w t).stable
unfolding open_answer open_error_no Answers
answers w t h = go (leb (number0 t) last_number) refl
  where
    go : (b : Bool) → leb (number0 t) last_number ≡ b → Answers (opening w t).answer (opening w t).stable
    go true l = inl (h ∙ rw (l, open_answer))
    go false l =
        let spent : (opening w t).answer ≡ (Err OpenError.Spent) = h ∙ rw (l, open_answer) in
        let kept = (opening-refused w t (λ d. omega (arith, ap opened_no (sym spent ∙ d)))).stable in
        inr (spent, omega (arith, leb-false (number0 t) last_number l, ap number0 kept))

-- ── The first opening ───────────────────────────────────────────────────────────────────────────────────────────

-- working is a copy, and each key has had one state
record Fresh (m : State) : Type 0 where
  copied : m.working ≡ m.stable
  past : (k : ℕ) → m.past k ≡ content_now m k ∷ []

opening_copies : (w t : List ℕ) → (opening w t).answer ≡ Ok tt → (opening w t).working ≡ (opening w t).stable
unfolding opening open_refused open_done open_error_no
opening_copies w t d =
    go (good_lengths w t) refl (fit0 (pages t) t && good_tree (tree_of (pages t) t)) refl (leb (number0 t) last_number) refl
  where
    go : (a : Bool) → good_lengths w t ≡ a → (b : Bool) → (fit0 (pages t) t && good_tree (tree_of (pages t) t)) ≡ b
        → (c : Bool) → leb (number0 t) last_number ≡ c → (opening w t).working ≡ (opening w t).stable
    go false p b q c o = absurd (omega (arith, ap opened_no (rw (p, opening) at d)))
    go true p false q c o = absurd (omega (arith, ap opened_no (rw (p, opening, q) at d)))
    go true p true q false o = absurd (omega (arith, ap opened_no (rw (p, opening, q, o) at d)))
    go true p true q true o = rw (p, opening, q, o)

done-fresh : (past : ℕ → List (Option ℕ)) (w t : List ℕ) → (opening w t).answer ≡ Ok tt → Fresh (after_open past (opening w t))
unfolding after_open
done-fresh past w t d = record { copied = opening_copies w t d; past = λ k. rw (d, after_open) }

step-fresh : (m : State) (e : Event) → Opens e → (step e m).opened ≡ Ok tt → Fresh (step e m)
unfolding step after_open
step-fresh m opens plainly d = done-fresh m.past m.working m.stable d
step-fresh m (crashes marks w) after_crash d = done-fresh m.past w (crash_now marks m) d
step-fresh m (crashes_in_sync marks w) after_crash_in_sync d = done-fresh m.past w (crash_in_sync_now marks m) d
step-fresh m (inserts _ _ _ _) x6 d = elim x6 [ ]
step-fresh m (withdraws _ _ _) x6 d = elim x6 [ ]
step-fresh m (looks _ _ _) x7 d = elim x7 [ ]
step-fresh m (asks_newest _ _) x7 d = elim x7 [ ]
step-fresh m (asks_any _ _) x8 d = elim x8 [ ]
step-fresh m (lists _ _ _) x10 d = elim x10 [ ]
step-fresh m syncs x8 d = elim x8 [ ]

first-fresh : {n : ℕ} {w s : List ℕ} {m : State} → JustOpened n w s m → m.opened ≡ Ok tt → Fresh m
unfolding start after_open
first-fresh {n} {w} {s} formatted d = done-fresh (λ k. []) w (format w s).stable d
first-fresh {n} {w} {s} (later h t e o p) d = step-fresh (run h (start w s)) e o d

first-alive : {n : ℕ} {w s : List ℕ} {m : State} → Lent n w s → JustOpened n w s m → m.opened ≡ Ok tt → Alive n m
unfolding run AllProper
first-alive {n} {w} {s} {m} l j d = go (fate j)
  where
    fate : {m : State} → JustOpened n w s m → Fate n m
    fate formatted = fate_start n w s l
    fate (later h t e o p) =
        fate_run (run h (start w s)) (fate_run (start w s) (fate_start n w s l) h t) (e ∷ []) (p, tt)

    go : Fate n m → Alive n m
    go (alive a) = a
    go (over o) = absurd (over_closed o d)

-- ── The request ─────────────────────────────────────────────────────────────────────────────────────────────────

module _ {n : ℕ} {first : State} (x : Alive n first) (f : Fresh first) (es : List Event) (t : AllProper n es) (q : QuietCalls es first)
    (e : Event) (o : Opens e) (p : Proper n e) where
  m : State
  m = run es first

  second : State
  second = step e m

  R : Rested n first es
  R = rested first x es t q

  F : From n m e
  unfolding m
  F = from R.alive e o p

  answered : second.opened ≡ (opening F.lent F.table).answer
  unfolding second after_open
  answered = ap (λ (z : State). z.opened) F.is

  held : second.stable ≡ (opening F.lent F.table).stable
  unfolding second after_open
  held = ap (λ (z : State). z.stable) F.is

  finds : second.opened ≡ Ok tt → (k : ℕ) → k ≤ last_key → content_now second k ≡ content_now first k
  unfolding m second after_open after
  finds d k h =
      ap (λ (z : State). content_now z k) F.is
      ∙ (alive_survives R.alive F.lent F.sized).stays F.table F.crash (sym answered ∙ d) k (content_now first k) h
      (ap (λ (past : ℕ → List (Option ℕ)). past k) R.past ∙ f.past k)

  shows : second.opened ≡ Ok tt → SameEntries second first
  unfolding m second
  shows d = go (subst (Fate n) (sym F.is) (fate_crashes R.alive F.lent F.sized F.table F.crash))
    where
      go : Fate n second → SameEntries second first
      go (alive y) = same_entries x y (finds d)
      go (over z) = absurd (over_closed z d)

  stays : (i : ℕ) → 1 ≤ i → i < n → page_at m.working i ≡ page_at first.working i → page_at second.stable i ≡ page_at first.stable i
  unfolding m
  stays i h b w =
      let there = ap (λ (u : List ℕ). page_at u i) R.stable in
      ap (λ (u : List ℕ). page_at u i) held
      ∙ (renumbered_page (opening-stable F.lent F.table) i h
      ∙ (crash-page R.alive F.crash i h b (w ∙ (ap (λ (u : List ℕ). page_at u i) f.copied ∙ sym there)) ∙ there))

  zero : beside_number second.stable ≡ beside_number first.stable
  unfolding m
  zero =
      let there = ap beside_number R.stable in
      ap beside_number held
      ∙ (renumbered_zero (opening-stable F.lent F.table)
      ∙ (crash-zero R.alive F.crash
      (beside_same m.working first.working R.zero ∙ (ap beside_number f.copied ∙ sym there))
      ∙ there))

  restarted : Restarted n first es second
  unfolding m second Answers after_open
  restarted = record {
    opens = told;
    shows = shows;
    mends = R.mends;
    pages = λ i h b u. stays i h b (unmended n first.session.n first.session.c R.mends long i b u);
    zero = zero;
  }
    where
      long : n * page_size ≤ length first.working
      long = omega (arith, x.safe.working.length_is, x.pages)

      told : Answers second.opened second.stable
      told =
          subst (λ (z : State). Answers z.opened z.stable) (sym F.is)
          (answers F.lent F.table ((alive_survives R.alive F.lent F.sized).opens F.table F.crash))

pub quiet_restarts : QuietRestarts
unfolding QuietRestarts second m
quiet_restarts n w s l first j d es t q e o p = restarted (first-alive l j d) (first-fresh j d) es t q e o p
