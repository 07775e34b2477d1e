-- Withdraw keeps the store safe. It answers missing exactly where nothing is told of the key; refused, it leaves what its walk
-- has mended; done, the key has had one state more, absent, and the table tells it.
use Rattle.std.proofs.Common.{◌≡◌, ℕ, ◌+◌, ◌^◌, ◌<◌, ◌≤◌, true, false, ◌≢◌, List, ◌∷◌, sym, refl, ap, ◌∙◌, subst, arith, Ok, Err}
use mathlib.Core.Option.{Option, some, none}
use Rattle.rules.specs.Layout.{leaf_kind, last_key}
use Rattle.rules.specs.Key.{key_of, good_parts}
use Rattle.rules.specs.Entry.{find}
use Rattle.rules.specs.Page.{Page}
use Rattle.rules.specs.Table.{read, fit0}
use Rattle.rules.specs.Walk.{Step, Way, certs_at, leaf_at, way_of}
use Rattle.rules.specs.Marks.{wraps, uncounted}
use Rattle.rules.specs.Call.{Left, lengths_for}
use Rattle.rules.specs.Withdraw.{removed, withdraw_refused, withdraw_done, withdraw_along, withdraw_key, withdraw}
use Rattle.rules.specs.declared.Session.{Session}
use Rattle.rules.specs.Answer.{Withdrawn}
use Rattle.rules.specs.declared.FindError.{FindError}
use Rattle.rules.proofs.Bytes.Keys.{key_of-bound}
use Rattle.rules.proofs.Demand3.Ways.Ways.{Tells}
use Rattle.rules.proofs.Demand3.Ways.Invariant.{States}
use Rattle.rules.proofs.Demand3.Epochs.Store.{Safe}
use Rattle.rules.proofs.Demand3.Epochs.Syncs.{lengths_for_lem}
use Rattle.rules.proofs.Demand3.Steps.Mended.{steady-tells, steady-told}
use Rattle.rules.proofs.Demand3.Steps.Paths.{At, Descends, way_descends, way-tells}
use Rattle.rules.proofs.Demand3.Steps.Keeps.{Keeps, keeps-of, keeps-totalling, safe-of}
use Rattle.rules.proofs.Demand3.Steps.Restate.{Also, Restates, restate_keeps, restate_own, restate_other}
use Rattle.rules.proofs.Demand3.Steps.TakeOut.{without_cert_lem, take_restates}
use Rattle.rules.proofs.Demand3.Steps.Inserts.{Stays}

-- ── What a call leaves ──────────────────────────────────────────────────────────────────────────────────────────

-- the key, which was told with a record, is told to be absent
pub record Removed (s : Session) (W S : List ℕ) (Been : States) (k x : ℕ) (r : Left Withdrawn) : Type 0 where
  pub answer : r.answer ≡ Ok tt
  pub stable : r.stable ≡ S
  -- there is one certificate less
  pub session : r.session ≡ uncounted s
  pub safe : Safe (uncounted s) r.working S (Also Been k none)
  pub present : Tells s.n W k (some x)
  pub own : Tells s.n r.working k none
  pub others : (j : ℕ) (a : Option ℕ) → j ≢ k → Tells s.n W j a → Tells s.n r.working j a

-- what a withdrawal of a good key can come to
pub data Withdraws (s : Session) (W S : List ℕ) (Been : States) (k : ℕ) (r : Left Withdrawn) : Type 0 where
  missing : Tells s.n W k none → r.answer ≡ Err FindError.Missing → Stays s W S Been r → Withdraws s W S Been k r
  taken : (x : ℕ) → Removed s W S Been k x r → Withdraws s W S Been k r

-- ── The rules' cases, each by itself ────────────────────────────────────────────────────────────────────────────

along_missing : (k : ℕ) (s : Session) (way : List Step) (w t : List ℕ) → find k (certs_at way) ≡ none
    → withdraw_along k s way w t ≡ withdraw_refused (Err FindError.Missing) s w t
unfolding withdraw_along
along_missing k s way w t f = rw (f, withdraw_along)

along_done : (k x : ℕ) (s : Session) (way : List Step) (w t : List ℕ) → find k (certs_at way) ≡ some x
    → withdraw_along k s way w t ≡ withdraw_done k s way w t
unfolding withdraw_along
along_done k x s way w t f = rw (f, withdraw_along)

key_along : (k : ℕ) (s : Session) (w t : List ℕ) (steps : List Step) → (way_of s.n s.c k w).steps ≡ some steps
    → withdraw_key k s w t ≡ withdraw_along k s steps (way_of s.n s.c k w).table t
unfolding withdraw_key
key_along k s w t steps h = rw (withdraw_key, h)

good_key_lem : (w t : List ℕ) (s : Session) (model serial issue : ℕ) → lengths_for s w t ≡ true → good_parts model serial issue ≡ true
    → fit0 s.n w ≡ true → withdraw w t s model serial issue ≡ withdraw_key (key_of model serial issue) s w t
unfolding withdraw
good_key_lem w t s model serial issue l g f = rw (l, withdraw) (rw g (rw f))

bad_key : (w t : List ℕ) (s : Session) (model serial issue : ℕ) → lengths_for s w t ≡ true → good_parts model serial issue ≡ false
    → withdraw w t s model serial issue ≡ withdraw_refused (Err FindError.BadKey) s w t
unfolding withdraw
bad_key w t s model serial issue l g = rw (l, withdraw) (rw g)

-- ── One withdrawal ──────────────────────────────────────────────────────────────────────────────────────────────

module _ {s : Session} {W S : List ℕ} {Been : States} (X : Safe s W S Been) (k : ℕ) (bound : k ≤ last_key) where
  way : Way
  way = way_of s.n s.c k W

  D : Descends s W S Been k way
  unfolding way
  D = way_descends bound W X

  steps : List Step
  steps = D.last ∷ D.above

  abbrev n : ℕ
  n = s.n

  keeps : Keeps n s.c (uncounted s) way.table S Been
  keeps = keeps-totalling (wraps (s.total + 4294967295)) (keeps-of D.safe)

  leaf-tells : (a : Option ℕ) → find k (certs_at steps) ≡ a → Tells n W k a
  unfolding steps
  leaf-tells a h = subst (Tells n W k) h (steady-told D.steady (way-tells bound D))

  here : At n way.table k D.last
  here = D.path.0

  leaf : (read way.table D.last.place.child).view.kind ≡ leaf_kind
  leaf = ap (λ (p : Page). p.view.kind) here.reads ∙ D.leaf

  refusal : (a : Withdrawn) → Stays s W S Been (withdraw_refused a s way.table S)
  unfolding withdraw_refused
  refusal a = record { session = refl; stable = refl; safe = D.safe; steady = D.steady }

  module _ (x : ℕ) (f : find k (certs_at steps) ≡ some x) where
    there : find k (read way.table D.last.place.child).view.certs ≡ some x
    unfolding steps certs_at
    there = ap (λ (p : Page). find k p.view.certs) here.reads ∙ f

    restates : Restates n s.c way.table (removed s.c k way.table D.last.place.child) k none D.last.place
        (without_cert_lem keeps here.node here.found leaf x there)
    restates = take_restates keeps here.node here.found leaf x there

    done : Removed s W S Been k x (withdraw_done k s steps way.table S)
    unfolding withdraw_done steps leaf_at
    done = record {
      answer = refl;
      stable = refl;
      session = refl;
      safe = safe-of (restate_keeps keeps restates);
      present = leaf-tells (some x) f;
      own = restate_own keeps restates;
      others = λ j a d t. restate_other keeps restates j a d (steady-tells D.steady t);
    }

  along : Withdraws s W S Been k (withdraw_along k s steps way.table S)
  unfolding withdraw_refused
  along = go (find k (certs_at steps)) refl
    where
      Goal : Left Withdrawn → Type 0
      Goal r = Withdraws s W S Been k r

      go : (a : Option ℕ) → find k (certs_at steps) ≡ a → Goal (withdraw_along k s steps way.table S)
      go none f =
          subst Goal (sym (along_missing k s steps way.table S f)) (missing (leaf-tells none f) refl (refusal (Err FindError.Missing)))
      go (some x) f = subst Goal (sym (along_done k x s steps way.table S f)) (taken x (done x f))

  withdraw_key_lem : Withdraws s W S Been k (withdraw_key k s W S)
  unfolding way steps
  withdraw_key_lem = subst (Withdraws s W S Been k) (sym (key_along k s W S steps D.given)) along

-- ── The call ────────────────────────────────────────────────────────────────────────────────────────────────────

module _ {s : Session} {W S : List ℕ} {Been : States} (X : Safe s W S Been) (model serial issue : ℕ)
    (wide_model : model < 2 ^ 16) (wide_serial : serial < 2 ^ 32) (wide_issue : issue < 2 ^ 16) where
  pub withdraw-withdraws : good_parts model serial issue ≡ true
      → Withdraws s W S Been (key_of model serial issue) (withdraw W S s model serial issue)
  withdraw-withdraws g =
      subst (Withdraws s W S Been (key_of model serial issue))
      (sym (good_key_lem W S s model serial issue (lengths_for_lem X) g X.working.fit))
      (withdraw_key_lem X (key_of model serial issue) (omega (arith, key_of-bound model serial issue wide_serial wide_issue wide_model)))

  pub withdraw_bad_key : good_parts model serial issue ≡ false → withdraw W S s model serial issue ≡ withdraw_refused (Err FindError.BadKey) s W S
  withdraw_bad_key g = bad_key W S s model serial issue (lengths_for_lem X) g
