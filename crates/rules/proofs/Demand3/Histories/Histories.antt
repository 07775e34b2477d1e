-- Histories: a store fresh from format and opening is alive, and every event leaves it alive or with its number spent. So what
-- demand 3 says holds at every point of every history.
use Rattle.std.proofs.Common.{◌≡◌, ℕ, ◌*◌, ◌≤◌, Bool, true, false, leb, List, [], ◌∷◌, length, sym, refl, ap, ◌∙◌, subst, arith, leb-false, leb-true, Ok}
use Rattle.rules.specs.Layout.{page_size, fewest_pages, last_number}
use Rattle.rules.specs.Table.{good_lengths}
use Rattle.rules.specs.Marks.{turned}
use Rattle.rules.specs.Call.{Left}
use Rattle.rules.specs.Format.{formatted, format}
use Rattle.rules.specs.Open.{opening}
use Rattle.rules.specs.Sync.{sync, sync_done, sync_refused}
use Rattle.rules.specs.History.{Event, inserts, withdraws, looks, asks_newest, asks_any, lists, syncs, opens, crashes, crashes_in_sync, State, latest, after_sync, after_open, crash_now, crash_in_sync_now, step, start, run, Proper, AllProper}
use Rattle.rules.specs.Demand.{between_calls, in_sync, look, ask, ask_any, listing, Survives, Serves, Lent, Demand3, SessionTells, OpenedTold}
use Rattle.rules.specs.Answer.{Opened, Synced}
use Rattle.rules.proofs.Bytes.Lengths.{pages-of, tables-good}
use Rattle.rules.proofs.Demand3.Ways.Nodes.{tells-one}
use Rattle.rules.proofs.Demand3.Epochs.Epochs.{working-good}
use Rattle.rules.proofs.Demand3.Epochs.Syncs.{sync_done_lem, sync-spent, numbered, sync-safe, sync-told}
use Rattle.rules.proofs.Demand3.Epochs.FirstLeaf.{first_good}
use Rattle.rules.proofs.Demand3.Epochs.Formats.{fresh-table, format-first, first_opening, first-safe}
use Rattle.rules.proofs.Demand3.Steps.Mended.{tells-bound}
use Rattle.rules.proofs.Demand3.Reads.Totals.{same-certs}
use Rattle.rules.proofs.Demand3.Histories.Fates.{Alive, Fate, alive, over, alive_anew, alive-done}
use Rattle.rules.proofs.Demand3.Histories.Survivals.{alive_survives, fate_opens, fate_crashes}
use Rattle.rules.proofs.Demand3.Histories.Ended.{no_pages, over_closed, over_survives, over-step}
use Rattle.rules.proofs.Demand3.Histories.Servings.{alive-reads, alive_serves}
use Rattle.rules.proofs.Demand3.Histories.Changes.{alive-insert, alive-withdraw}

-- ── Sync ────────────────────────────────────────────────────────────────────────────────────────────────────────

alive-sync : {n : ℕ} {m : State} → Alive n m → Alive n (after_sync m (sync m.working m.stable m.session))
unfolding after_sync sync_done sync_refused turned
alive-sync {n} {m} a = go (leb m.session.c last_number) refl
  where
    new : m.session.c ≤ last_number → Alive m.session.n (after_sync m (sync_done m.session m.working))
    new l =
        alive_anew (turned m.session) (numbered a.safe) m.opened (λ k. latest (m.past k)) a.opened (sync-safe a.safe l)
        (λ k o y. tells-one y (sync-told a.safe (a.now k (tells-bound y))))
        (a.total ∙ sym (same-certs (working-good a.safe.inv) (working-good (sync-safe a.safe l).inv) (λ k o y. sync-told a.safe y)))

    go : (b : Bool) → leb m.session.c last_number ≡ b → Alive n (after_sync m (sync m.working m.stable m.session))
    go true h =
        let l = leb-true m.session.c last_number h in
        subst (λ (r : Left Synced). Alive n (after_sync m r)) (sym (sync_done_lem a.safe l))
        (subst (λ (i : ℕ). Alive i (after_sync m (sync_done m.session m.working))) a.pages (new l))
    go false h =
        subst (λ (r : Left Synced). Alive n (after_sync m r)) (sym (sync-spent a.safe (leb-false m.session.c last_number h))) a

-- ── Whole histories ─────────────────────────────────────────────────────────────────────────────────────────────

alive-step : {n : ℕ} {m : State} → Alive n m → (e : Event) → Proper n e → Fate n (step e m)
unfolding Proper step
alive-step a (inserts model serial issue x) t = alive (alive-insert a model serial issue x t)
alive-step a (withdraws model serial issue) t = alive (alive-withdraw a model serial issue t)
alive-step a (looks model serial issue) t = alive (alive-reads a (looks model serial issue) look)
alive-step a (asks_newest model serial) t = alive (alive-reads a (asks_newest model serial) ask)
alive-step a (asks_any model serial) t = alive (alive-reads a (asks_any model serial) ask_any)
alive-step a (lists from ks xs) t = alive (alive-reads a (lists from ks xs) listing)
alive-step a syncs t = alive (alive-sync a)
alive-step a opens t = fate_opens a
alive-step {n} {m} a (crashes written w) t = fate_crashes a w t (crash_now written m) (between_calls written)
alive-step {n} {m} a (crashes_in_sync written w) t = fate_crashes a w t (crash_in_sync_now written m) (in_sync written)

fate_step : {n : ℕ} {m : State} → Fate n m → (e : Event) → Proper n e → Fate n (step e m)
fate_step (alive a) e t = alive-step a e t
fate_step (over o) e t = over (over-step o e t)

pub fate_run : {n : ℕ} (m : State) → Fate n m → (h : List Event) → AllProper n h → Fate n (run h m)
unfolding run AllProper
fate_run m f [] t = f
fate_run m f (e ∷ es) t = fate_run (step e m) (fate_step f e t.0) es t.1

-- format, then open
pub fate_start : (n : ℕ) (w s : List ℕ) → Lent n w s → Fate n (start w s)
unfolding start format
fate_start n w s l =
    alive (subst (λ (t : List ℕ). Alive n (after_open (λ k. []) (opening w t))) (sym formats)
    (subst (λ (r : Left Opened). Alive n (after_open (λ k. []) r)) (sym (first_opening n l.few l.most w l.working))
    (alive-done n (λ k. []) (fresh-table n l.few l.most) (first_good (format-first n l.few l.most)) (first-safe n l.few l.most))))
  where
    lengths : good_lengths w s ≡ true
    lengths = tables-good (record { least = l.few; most = l.most; working = l.working; stable = l.stable })

    formats : (format w s).stable ≡ fresh-table n l.few l.most
    formats =
        rw (lengths, format)
        (ap (λ (i : ℕ). formatted i (length s)) (pages-of s n l.stable) ∙ ap (formatted n) l.stable)

fate_survives : {n : ℕ} {m : State} → Fate n m → (u : List ℕ) → length u ≡ n * page_size → Survives m u
fate_survives (alive a) u h = alive_survives a u h
fate_survives (over o) u h = over_survives o u h

fate_serves : {n : ℕ} {m : State} → Fate n m → m.opened ≡ Ok tt → Serves m
fate_serves (alive a) d = alive_serves a
fate_serves (over o) d = absurd (over_closed o d)

-- a session that was handed out has pages
fate_session : {n : ℕ} {m : State} → fewest_pages ≤ n → Fate n m → SessionTells n m
fate_session f (alive a) = record { pages = λ d. a.pages; done = λ h. a.opened; refused = λ d. absurd (d a.opened) }
fate_session f (over o) = record {
  pages = λ d. absurd (over_closed o d);
  done = λ h. absurd (omega (arith, no_pages o, h));
  refused = λ d. no_pages o;
}

-- ── The theorem ─────────────────────────────────────────────────────────────────────────────────────────────────

pub demand3 : Demand3
unfolding Demand3
demand3 n w s l h t =
    let f = fate_run (start w s) (fate_start n w s l) h t in
    (fate_survives f, fate_serves f)

pub session-tells : OpenedTold
unfolding OpenedTold
session-tells n w s l h t = fate_session l.few (fate_run (start w s) (fate_start n w s l) h t)
