-- In a history without withdrawals a key that was there at the last sync or opening has never been absent since; so it is found
-- after every crash.
use Rattle.std.proofs.Common.{◌≡◌, ℕ, Bool, true, false, not, eqb, ◌⊎◌, List, [], ◌∷◌, sym, refl, ap, ◌∙◌, subst, inl, inr, eqb-true, Ok, Err}
use mathlib.Core.Bool.{false≢true}
use mathlib.Core.Option.{Option, some, none, none-ne-some}
use borrow.Author.Tests.{eqb-false}
use Rattle.rules.specs.Test.{all}
use Rattle.rules.specs.Call.{Left}
use Rattle.rules.specs.History.{Event, inserts, withdraws, looks, asks_newest, asks_any, lists, syncs, opens, crashes, crashes_in_sync, State, latest, earliest, gains, content, after_insert, after_sync, after_open, after_reading, step, start, run}
use Rattle.rules.specs.Demand.{OneOf, Demand3, is_withdrawal, AllKept}
use Rattle.rules.specs.Answer.{Opened, Inserted, Synced}
use Rattle.rules.specs.declared.Session.{Session}
use Rattle.rules.proofs.Entries.Tests.{all_head, all_tail}
use Rattle.rules.proofs.Demand3.Histories.Pasts.{only_one_of, one_of_cases, settled-earliest, absent, gains-here, gains-other}
use Rattle.rules.proofs.Demand3.Histories.Histories.{demand3}

-- a key that was there has never been absent
abbrev Lasting : (ℕ → List (Option ℕ)) → Type 0
Lasting past = (k x : ℕ) → earliest (past k) ≡ some x → OneOf none (past k) → ⊥

lasting_one : (state : ℕ → Option ℕ) → Lasting (λ k. state k ∷ [])
unfolding earliest
lasting_one state k x e a = none-ne-some x (only_one_of a ∙ e)

lasting_gains : (i y : ℕ) (past : ℕ → List (Option ℕ)) → Lasting past → Lasting (gains i (some y) past)
lasting_gains i y past l k x e a = go (eqb k i) refl
  where
    more : OneOf none (past k) → earliest (some y ∷ past k) ≡ some x → ⊥
    more b h = l k x (sym (settled-earliest (past k) (some y) (absent b)) ∙ h) b

    here : (none ≡ some y) ⊎ OneOf none (past k) → earliest (some y ∷ past k) ≡ some x → ⊥
    here (inl q) h = none-ne-some y q
    here (inr b) h = more b h

    go : (b : Bool) → eqb k i ≡ b → ⊥
    go true q =
        let g = gains-here i (some y) past k (eqb-true k i q) in
        here (one_of_cases (subst (OneOf none) g a)) (sym (ap earliest g) ∙ e)
    go false q =
        let g = gains-other i (some y) past k (eqb-false k i q) in
        l k x (sym (ap earliest g) ∙ e) (subst (OneOf none) g a)

-- ── One event ───────────────────────────────────────────────────────────────────────────────────────────────────

lasting_insert : (i y : ℕ) (m : State) (answer : Inserted) (s : Session) (w t : List ℕ) → Lasting m.past
    → Lasting (after_insert i y m (record { answer = answer; session = s; working = w; stable = t })).past
unfolding after_insert
lasting_insert i y m (Ok tt) s w t l = lasting_gains i y m.past l
lasting_insert i y m (Err e) s w t l = l

lasting_sync : (m : State) (answer : Synced) (s : Session) (w t : List ℕ) → Lasting m.past
    → Lasting (after_sync m (record { answer = answer; session = s; working = w; stable = t })).past
unfolding after_sync
lasting_sync m (Ok tt) s w t l = lasting_one (λ k. latest (m.past k))
lasting_sync m (Err e) s w t l = l

lasting_open : (past : ℕ → List (Option ℕ)) (answer : Opened) (s : Session) (w t : List ℕ) → Lasting past
    → Lasting (after_open past (record { answer = answer; session = s; working = w; stable = t })).past
unfolding after_open
lasting_open past (Ok tt) s w t l = lasting_one (content s w t)
lasting_open past (Err e) s w t l = l

lasting_opened : (past : ℕ → List (Option ℕ)) (r : Left Opened) → Lasting past → Lasting (after_open past r).past
lasting_opened past r l = lasting_open past r.answer r.session r.working r.stable l

lasting_step : (e : Event) (m : State) → not (is_withdrawal e) ≡ true → Lasting m.past → Lasting (step e m).past
unfolding step after_reading is_withdrawal
lasting_step (inserts model serial issue x) m q l = lasting_insert _ x m _ _ _ _ l
lasting_step (withdraws model serial issue) m q l = absurd (false≢true q)
lasting_step (looks model serial issue) m q l = l
lasting_step (asks_newest model serial) m q l = l
lasting_step (asks_any model serial) m q l = l
lasting_step (lists from ks xs) m q l = l
lasting_step syncs m q l = lasting_sync m _ _ _ _ l
lasting_step opens m q l = lasting_opened m.past _ l
lasting_step (crashes written w) m q l = lasting_opened m.past _ l
lasting_step (crashes_in_sync written w) m q l = lasting_opened m.past _ l

-- ── Whole histories ─────────────────────────────────────────────────────────────────────────────────────────────

lasting_run : (h : List Event) (m : State) → all (λ e. not (is_withdrawal e)) h ≡ true → Lasting m.past → Lasting (run h m).past
unfolding run
lasting_run [] m q l = l
lasting_run (e ∷ es) m q l =
    lasting_run es (step e m) (all_tail (λ e. not (is_withdrawal e)) e es q)
    (lasting_step e m (all_head (λ e. not (is_withdrawal e)) e es q) l)

lasting_start : (w s : List ℕ) → Lasting (start w s).past
unfolding start earliest
lasting_start w s = lasting_opened (λ k. []) _ (λ k x e a. none-ne-some x e)

pub all-kept : AllKept
unfolding AllKept Demand3
all-kept n w s l h p q u z t c d k x b e =
    ((demand3 n w s l h p).0 u z).keeps t c d k x b e (lasting_run h (start w s) q (lasting_start w s) k x e)
