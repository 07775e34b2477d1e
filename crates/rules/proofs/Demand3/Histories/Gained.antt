-- A call on a store that is alive leaves it alive: one that changes nothing but what was mended, and one after which one key has
-- another state, every other the one it had.
use Rattle.std.proofs.Common.{◌≡◌, ℕ, ◌≤◌, Bool, true, false, eqb, ◌≢◌, List, ◌∷◌, sym, refl, ap, ◌∙◌, subst, inl, inr, eqb-true}
use mathlib.Core.Option.{Option}
use borrow.Author.Tests.{eqb-false}
use Rattle.rules.specs.Layout.{last_key}
use Rattle.rules.specs.Call.{Left}
use Rattle.rules.specs.History.{State, latest, earliest, gains, after_reading}
use Rattle.rules.specs.Demand.{OneOf}
use Rattle.rules.specs.declared.Session.{Session}
use Rattle.rules.proofs.Demand3.Ways.Ways.{Tells}
use Rattle.rules.proofs.Demand3.Ways.Invariant.{States}
use Rattle.rules.proofs.Demand3.Epochs.Store.{Safe}
use Rattle.rules.proofs.Demand3.Steps.Restate.{Also}
use Rattle.rules.proofs.Demand3.Steps.Inserts.{Stays}
use Rattle.rules.proofs.Demand3.Reads.Totals.{certs_in}
use Rattle.rules.proofs.Demand3.Histories.Pasts.{Settled, settled-earliest, gains-here, gains-other, gains-more, gains-new}
use Rattle.rules.proofs.Demand3.Histories.Fates.{Alive, safe_widen, alive_reading}

-- the states that the keys of a store have had
abbrev pub Had : State → States
Had m = λ j o. OneOf o (m.past j)

-- ── Nothing changed ─────────────────────────────────────────────────────────────────────────────────────────────

-- a refusal is like a call that only reads
pub alive-stays : {A : Type 0} {n : ℕ} {m : State} → Alive n m → (r : Left A)
    → Stays m.session m.working m.stable (Had m) r → Alive n (after_reading m r.session r.working r.stable)
alive-stays {n = n} {m} a r y =
    subst (Alive n) (sym is) (alive_reading r.working a y.safe y.steady)
  where
    is : after_reading m r.session r.working r.stable ≡ after_reading m m.session r.working m.stable
    is =
        ap (λ (s : Session). after_reading m s r.working r.stable) y.session
        ∙ ap (after_reading m m.session r.working) y.stable

-- ── One key has another state ───────────────────────────────────────────────────────────────────────────────────

-- s and w are the session and the working table then
pub record Gained (m : State) (k : ℕ) (state : Option ℕ) (s : Session) (w : List ℕ) : Type 0 where
  pub pages : s.n ≡ m.session.n
  pub safe : Safe s w m.stable (Also (Had m) k state)
  pub own : Tells m.session.n w k state
  pub others : (j : ℕ) (o : Option ℕ) → j ≢ k → Tells m.session.n m.working j o → Tells m.session.n w j o
  pub settled : Settled (state ∷ m.past k)
  pub total : s.total ≡ certs_in s.n w

-- the store then
abbrev pub gaining : State → ℕ → Option ℕ → Session → List ℕ → State
gaining m k state s w = record {
  session = s;
  working = w;
  stable = m.stable;
  opened = m.opened;
  past = gains k state m.past;
}

module _ {n : ℕ} {m : State} (a : Alive n m) {k : ℕ} {state : Option ℕ} {s : Session} {w : List ℕ} (i : Gained m k state s w) where
  abbrev past : ℕ → List (Option ℕ)
  past = gains k state m.past

  gained : (j : ℕ) (o : Option ℕ) → Also (Had m) k state j o → OneOf o (gains k state m.past j)
  gained j o (inl h) = gains-more k state m.past j o h
  gained j o (inr h) =
      subst (λ (p : Option ℕ). OneOf p (past j)) (sym h.1)
      (subst (λ (l : ℕ). OneOf state (past l)) (sym h.0) (gains-new k state m.past))

  first_state : (j : ℕ) → earliest (m.past j) ≡ earliest (gains k state m.past j)
  first_state j = go (eqb j k) refl
    where
      go : (b : Bool) → eqb j k ≡ b → earliest (m.past j) ≡ earliest (gains k state m.past j)
      go true h =
          sym (ap earliest (gains-here k state m.past j (eqb-true j k h)) ∙ settled-earliest (m.past j) state (a.settled j))
      go false h = sym (ap earliest (gains-other k state m.past j (eqb-false j k h)))

  told : (j : ℕ) → j ≤ last_key → Tells m.session.n w j (latest (gains k state m.past j))
  unfolding latest
  told j h = go (eqb j k) refl
    where
      go : (b : Bool) → eqb j k ≡ b → Tells m.session.n w j (latest (gains k state m.past j))
      go true q =
          let e = eqb-true j k q in
          subst (Tells m.session.n w j) (sym (ap latest (gains-here k state m.past j e)))
          (subst (λ (l : ℕ). Tells m.session.n w l state) (sym e) i.own)
      go false q =
          let d = eqb-false j k q in
          subst (Tells m.session.n w j) (sym (ap latest (gains-other k state m.past j d)))
          (i.others j (latest (m.past j)) d (a.now j h))

  settles : (j : ℕ) → Settled (gains k state m.past j)
  settles j = go (eqb j k) refl
    where
      go : (b : Bool) → eqb j k ≡ b → Settled (gains k state m.past j)
      go true q =
          let e = eqb-true j k q in
          subst Settled (sym (gains-here k state m.past j e))
          (subst (λ (l : ℕ). Settled (state ∷ m.past l)) (sym e) i.settled)
      go false q = subst Settled (sym (gains-other k state m.past j (eqb-false j k q))) (a.settled j)

  pub alive_gained : Alive n (gaining m k state s w)
  alive_gained = record {
    pages = i.pages ∙ a.pages;
    opened = a.opened;
    safe = safe_widen (λ j o. OneOf o (past j)) gained i.safe;
    then = λ j h.
        subst (λ (l : ℕ). Tells l m.stable j (earliest (past j))) (sym i.pages)
        (subst (Tells m.session.n m.stable j) (first_state j) (a.then j h));
    now = λ j h. subst (λ (l : ℕ). Tells l w j (latest (past j))) (sym i.pages) (told j h);
    settled = settles;
    total = i.total;
  }
