-- Newest and list in a safe store: they meet no damage, and answer what the tree holds as it stands; so no call that only reads
-- changes what they answer later.
use Rattle.std.proofs.Common.{◌≡◌, ℕ, Bool, true, false, ◌&&◌, ltb, List, [], ◌∷◌, length, sym, refl, ap, ◌∙◌, subst, arith, Ok, Err}
use Rattle.rules.specs.Entry.{Cert, keys}
use Rattle.rules.specs.Page.{over}
use Rattle.rules.specs.Walk.{walk_of}
use Rattle.rules.specs.Tree.{tree_of}
use Rattle.rules.specs.Call.{Left, newest_no, listed_no, find_error_no, list_error_no}
use Rattle.rules.specs.Newest.{meter, newest_in, newest_left, newest_meter, newest}
use Rattle.rules.specs.List.{ListLeft, up_from, records_of, list_done, list_from, list}
use Rattle.rules.specs.Demand.{SameListing}
use Rattle.rules.specs.declared.Asked.{Asked}
use Rattle.rules.specs.Answer.{Newest}
use Rattle.rules.specs.declared.FindError.{FindError}
use Rattle.rules.specs.declared.ListError.{ListError}
use Rattle.rules.specs.declared.Session.{Session}
use Rattle.rules.proofs.Demand3.Ways.Invariant.{States}
use Rattle.rules.proofs.Demand3.Epochs.Store.{Safe}
use Rattle.rules.proofs.Demand3.Epochs.Syncs.{lengths_for_lem}
use Rattle.rules.proofs.Demand3.Reads.Enters.{Calm, calm}
use Rattle.rules.proofs.Demand3.Reads.Gathers.{gather}
use Rattle.rules.proofs.Demand3.Reads.Walks.{Walking, sought, walk_of-walking}

-- ── Newest ──────────────────────────────────────────────────────────────────────────────────────────────────────

-- what newest answers of a table as it stands
pub newest_of : ℕ → List ℕ → ℕ → ℕ → Newest
newest_of n t model serial =
    elim (ltb 0 model && ltb 0 serial) [ false ↦ Err FindError.BadKey | true ↦ newest_in (sought n t (meter model serial)) ]

-- it is read off the tree's certificates
pub newest_of_same : (n i : ℕ) (t u : List ℕ) (model serial : ℕ) → (tree_of i u).certs ≡ (tree_of n t).certs
    → newest_of i u model serial ≡ newest_of n t model serial
unfolding newest_of
newest_of_same n i t u model serial e =
    ap
    (λ (xs : List Cert).
    elim (ltb 0 model && ltb 0 serial) [ false ↦ Err FindError.BadKey | true ↦ newest_in (gather (meter model serial) [] xs) ])
    e

newest_in_lem : (xs : List Cert) → newest_in xs ≡ Err FindError.Damaged → ⊥
unfolding newest_in find_error_no
newest_in_lem [] h = omega (arith, ap newest_no h)
newest_in_lem (x ∷ []) h = omega (arith, ap newest_no h)
newest_in_lem (x ∷ (y ∷ ys)) h = newest_in_lem (y ∷ ys) h

newest-of : (n : ℕ) (t : List ℕ) (model serial : ℕ) → newest_of n t model serial ≡ Err FindError.Damaged → ⊥
unfolding newest_of find_error_no
newest-of n t model serial h = go (ltb 0 model && ltb 0 serial) refl
  where
    go : (b : Bool) → (ltb 0 model && ltb 0 serial) ≡ b → ⊥
    go true p = newest_in_lem (sought n t (meter model serial)) (rw (p, newest_of) at h)
    go false p = omega (arith, ap newest_no (rw (p, newest_of) at h))

pub meter-whole : (a : Asked) (s : Session) (w t : List ℕ) → (walk_of s.n s.c a w).whole ≡ true
    → newest_meter a s w t ≡ newest_left s (walk_of s.n s.c a w).table t (newest_in (walk_of s.n s.c a w).found)
unfolding newest_meter
meter-whole a s w t h = rw (h, newest_meter)

pub record NewestOf (s : Session) (t S : List ℕ) (Been : States) (model serial : ℕ) (r : Left Newest) : Type 0 where
  pub answer : r.answer ≡ newest_of s.n t model serial
  pub left : Calm s t S Been r.working

module _ {s : Session} {t u S : List ℕ} {Been : States} (x : Safe s t S Been) (m : Calm s t S Been u) where
  newest-good : (model serial : ℕ) → (ltb 0 model && ltb 0 serial) ≡ true
      → newest u S s model serial ≡ newest_meter (meter model serial) s u S
  unfolding newest
  newest-good model serial g = rw (lengths_for_lem m.safe, newest) (rw g (rw m.safe.working.fit))

  newest_bad : (model serial : ℕ) → (ltb 0 model && ltb 0 serial) ≡ false
      → newest u S s model serial ≡ newest_left s u S (Err FindError.BadKey)
  unfolding newest
  newest_bad model serial g = rw (lengths_for_lem m.safe, newest) (rw g)

  pub newest_answers : (model serial : ℕ) → NewestOf s t S Been model serial (newest u S s model serial)
  unfolding newest_left newest_of
  newest_answers model serial = go (ltb 0 model && ltb 0 serial) refl
    where
      w : Walking s t S Been (meter model serial) (sought s.n t (meter model serial)) (walk_of s.n s.c (meter model serial) u)
      w = walk_of-walking (meter model serial) x m

      go : (b : Bool) → (ltb 0 model && ltb 0 serial) ≡ b → NewestOf s t S Been model serial (newest u S s model serial)
      go true g =
          subst (NewestOf s t S Been model serial)
          (sym (newest-good model serial g ∙ meter-whole (meter model serial) s u S w.whole))
          (record { answer = rw (g, newest_of) (ap newest_in w.found); left = w.left })
      go false g =
          subst (NewestOf s t S Been model serial) (sym (newest_bad model serial g))
          (record { answer = rw (g, newest_of); left = m })

-- ── List ────────────────────────────────────────────────────────────────────────────────────────────────────────

pub from-whole : (s : Session) (w t : List ℕ) (start : ℕ) (ks xs : List ℕ) → (walk_of s.n s.c (up_from start ks xs) w).whole ≡ true
    → list_from s w t start ks xs
    ≡ list_done s (walk_of s.n s.c (up_from start ks xs) w).table t (walk_of s.n s.c (up_from start ks xs) w).found ks xs
unfolding list_from
from-whole s w t start ks xs h = rw (h, list_from)

pub record ListOf (s : Session) (t S : List ℕ) (Been : States) (start : ℕ) (ks xs : List ℕ) (r : ListLeft) : Type 0 where
  pub answer : r.answer ≡ Ok (length (sought s.n t (up_from start ks xs)))
  pub keys : r.keys ≡ over (keys (sought s.n t (up_from start ks xs))) ks
  pub records : r.records ≡ over (records_of (sought s.n t (up_from start ks xs))) xs
  pub left : Calm s t S Been r.working

module _ {s : Session} {t u S : List ℕ} {Been : States} (x : Safe s t S Been) (m : Calm s t S Been u) where
  list-good : (start : ℕ) (ks xs : List ℕ) → list u S s start ks xs ≡ list_from s u S start ks xs
  unfolding list
  list-good start ks xs = rw (lengths_for_lem m.safe, list) (rw m.safe.working.fit)

  pub list_answers : (start : ℕ) (ks xs : List ℕ) → ListOf s t S Been start ks xs (list u S s start ks xs)
  unfolding list_done
  list_answers start ks xs =
      subst (ListOf s t S Been start ks xs) (sym (list-good start ks xs ∙ from-whole s u S start ks xs w.whole))
      (record {
        answer = ap (λ (ys : List Cert). Ok (length ys)) w.found;
        keys = ap (λ (ys : List Cert). over (keys ys) ks) w.found;
        records = ap (λ (ys : List Cert). over (records_of ys) xs) w.found;
        left = w.left;
      })
    where
      w : Walking s t S Been (up_from start ks xs) (sought s.n t (up_from start ks xs)) (walk_of s.n s.c (up_from start ks xs) u)
      w = walk_of-walking (up_from start ks xs) x m

-- ── What demand 3 says of them ──────────────────────────────────────────────────────────────────────────────────

module _ {s : Session} {W S : List ℕ} {Been : States} (x : Safe s W S Been) where
  pub never-damaged : (model serial : ℕ) → (newest W S s model serial).answer ≡ Err FindError.Damaged → ⊥
  never-damaged model serial h =
      newest-of s.n W model serial (sym (newest_answers x (calm x) model serial).answer ∙ h)

  pub newest-finds : (model serial : ℕ) → (ltb 0 model && ltb 0 serial) ≡ true
      → (newest W S s model serial).answer ≡ newest_in (sought s.n W (meter model serial))
  unfolding newest_of
  newest-finds model serial g = (newest_answers x (calm x) model serial).answer ∙ rw (g, newest_of)

  pub never-refused : (start : ℕ) (ks xs : List ℕ) → (list W S s start ks xs).answer ≡ Err ListError.Damaged → ⊥
  unfolding list_error_no
  never-refused start ks xs h =
      omega (arith, ap listed_no (sym (list_answers x (calm x) start ks xs).answer ∙ h))

  -- with some lost pages mended
  module _ {u : List ℕ} (m : Calm s W S Been u) where
    pub newest-same : (model serial : ℕ) → (newest u S s model serial).answer ≡ (newest W S s model serial).answer
    newest-same model serial =
        (newest_answers x m model serial).answer ∙ sym (newest_answers x (calm x) model serial).answer

    pub list_same : (start : ℕ) (ks xs : List ℕ) → SameListing (list u S s start ks xs) (list W S s start ks xs)
    list_same start ks xs =
        let a = list_answers x m start ks xs in
        let b = list_answers x (calm x) start ks xs in
        record {
          answer = a.answer ∙ sym b.answer;
          keys = a.keys ∙ sym b.keys;
          records = a.records ∙ sym b.records;
        }
