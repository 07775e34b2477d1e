-- Demand 1 about withdraw: a refusal leaves nothing but mends, as a lookup does, stable never changes, and it answers as a lookup
-- does.
use Rattle.std.proofs.Common.{◌≡◌, ℕ, Bool, true, false, List, refl, Ok, Err}
use mathlib.Core.Option.{Option, some, none}
use Rattle.rules.specs.Key.{key_of, good_parts}
use Rattle.rules.specs.Entry.{find}
use Rattle.rules.specs.Table.{fit0}
use Rattle.rules.specs.Walk.{Step, certs_at, way_of}
use Rattle.rules.specs.Call.{lengths_for}
use Rattle.rules.specs.Withdraw.{withdraw_refused, withdraw_done, withdraw_along, withdraw_key, withdraw}
use Rattle.rules.specs.Lookup.{found_in, lookup_left, lookup_key, lookup}
use Rattle.rules.specs.declared.Session.{Session}
use Rattle.rules.specs.Answer.{Withdrawn, Looked}
use Rattle.rules.proofs.Demand1.Mending.{same, way_mends_lem}
use Rattle.rules.proofs.Demand1.Refusals.{OnlyMended}

-- ── A refusal, and the stable table ─────────────────────────────────────────────────────────────────────────────

module _ (k : ℕ) (s : Session) (w t : List ℕ) where
  key-refused : ((withdraw_key k s w t).answer ≡ Ok tt → ⊥) → OnlyMended w t s (withdraw_key k s w t)
  unfolding withdraw_key withdraw_along withdraw_refused withdraw_done
  key-refused h = go (way_of s.n s.c k w).steps refl
    where
      along : (steps : List Step) → (way_of s.n s.c k w).steps ≡ some steps → (a : Option ℕ) → find k (certs_at steps) ≡ a
          → OnlyMended w t s (withdraw_key k s w t)
      along steps o none f =
          rw (withdraw_key, o, withdraw_along, f) (record { working = way_mends_lem s.n s.c k w; stable = refl; session = refl })
      along steps o (some x) f = absurd (h (rw (withdraw_key, o, withdraw_along, f)))

      go : (o : Option (List Step)) → (way_of s.n s.c k w).steps ≡ o → OnlyMended w t s (withdraw_key k s w t)
      go none o =
          rw (withdraw_key, o) (record { working = way_mends_lem s.n s.c k w; stable = refl; session = refl })
      go (some steps) o = along steps o (find k (certs_at steps)) refl

  key-stable : (withdraw_key k s w t).stable ≡ t
  unfolding withdraw_key withdraw_along withdraw_refused withdraw_done
  key-stable = go (way_of s.n s.c k w).steps refl
    where
      along : (steps : List Step) → (way_of s.n s.c k w).steps ≡ some steps → (a : Option ℕ) → find k (certs_at steps) ≡ a
          → (withdraw_key k s w t).stable ≡ t
      along steps o none f = rw (withdraw_key, o, withdraw_along, f)
      along steps o (some x) f = rw (withdraw_key, o, withdraw_along, f)

      go : (o : Option (List Step)) → (way_of s.n s.c k w).steps ≡ o → (withdraw_key k s w t).stable ≡ t
      go none o = rw (withdraw_key, o)
      go (some steps) o = along steps o (find k (certs_at steps)) refl

module _ (w t : List ℕ) (s : Session) (model serial issue : ℕ) where
  pub withdraw_refused_lem : ((withdraw w t s model serial issue).answer ≡ Ok tt → ⊥)
      → OnlyMended w t s (withdraw w t s model serial issue)
  unfolding withdraw withdraw_refused
  withdraw_refused_lem h = go (lengths_for s w t) refl (good_parts model serial issue) refl (fit0 s.n w) refl
    where
      go : (a : Bool) → lengths_for s w t ≡ a → (b : Bool) → good_parts model serial issue ≡ b
          → (c : Bool) → fit0 s.n w ≡ c → OnlyMended w t s (withdraw w t s model serial issue)
      go false p b q c o = rw (withdraw, p) (record { working = same; stable = refl; session = refl })
      go true p false q c o = rw (withdraw, p, q) (record { working = same; stable = refl; session = refl })
      go true p true q false o = rw (withdraw, p, q, o) (record { working = same; stable = refl; session = refl })
      go true p true q true o =
          rw (withdraw, p, q, o) (key-refused (key_of model serial issue) s w t (λ e. h (rw (withdraw, p, q, o) e)))

  pub withdraw_stable : (withdraw w t s model serial issue).stable ≡ t
  unfolding withdraw withdraw_refused
  withdraw_stable = go (lengths_for s w t) refl (good_parts model serial issue) refl (fit0 s.n w) refl
    where
      go : (a : Bool) → lengths_for s w t ≡ a → (b : Bool) → good_parts model serial issue ≡ b
          → (c : Bool) → fit0 s.n w ≡ c → (withdraw w t s model serial issue).stable ≡ t
      go false p b q c o = rw (withdraw, p)
      go true p false q c o = rw (withdraw, p, q)
      go true p true q false o = rw (withdraw, p, q, o)
      go true p true q true o = rw (withdraw, p, q, o) (key-stable (key_of model serial issue) s w t)

-- ── The answer of a lookup ──────────────────────────────────────────────────────────────────────────────────────

-- done where a lookup finds a record, and else its refusal
unfoldable pub withdrawn_as : Looked → Withdrawn
withdrawn_as (Ok x) = Ok tt
withdrawn_as (Err e) = Err e

key_as : (k : ℕ) (s : Session) (w t : List ℕ) → (withdraw_key k s w t).answer ≡ withdrawn_as (lookup_key k s w t).answer
unfolding withdraw_key withdraw_along withdraw_refused withdraw_done lookup_key lookup_left found_in withdrawn_as
key_as k s w t = go (way_of s.n s.c k w).steps refl
  where
    along : (steps : List Step) → (way_of s.n s.c k w).steps ≡ some steps → (a : Option ℕ) → find k (certs_at steps) ≡ a
        → (withdraw_key k s w t).answer ≡ withdrawn_as (lookup_key k s w t).answer
    along steps o none f = rw (withdraw_key, lookup_key, o, withdraw_along, found_in, f)
    along steps o (some x) f = rw (withdraw_key, lookup_key, o, withdraw_along, found_in, f)

    go : (o : Option (List Step)) → (way_of s.n s.c k w).steps ≡ o
        → (withdraw_key k s w t).answer ≡ withdrawn_as (lookup_key k s w t).answer
    go none o = rw (withdraw_key, lookup_key, o)
    go (some steps) o = along steps o (find k (certs_at steps)) refl

pub withdraw_as : (w t : List ℕ) (s : Session) (model serial issue : ℕ)
    → (withdraw w t s model serial issue).answer ≡ withdrawn_as (lookup w t s model serial issue).answer
unfolding withdraw withdraw_refused lookup lookup_left withdrawn_as
withdraw_as w t s model serial issue = go (lengths_for s w t) refl (good_parts model serial issue) refl (fit0 s.n w) refl
  where
    go : (a : Bool) → lengths_for s w t ≡ a → (b : Bool) → good_parts model serial issue ≡ b → (c : Bool) → fit0 s.n w ≡ c
        → (withdraw w t s model serial issue).answer ≡ withdrawn_as (lookup w t s model serial issue).answer
    go false p b q c o = rw (withdraw, lookup, p)
    go true p false q c o = rw (withdraw, lookup, p, q)
    go true p true q false o = rw (withdraw, lookup, p, q, o)
    go true p true q true o = rw (withdraw, lookup, p, q, o) (key_as (key_of model serial issue) s w t)

-- ── The table of a lookup ───────────────────────────────────────────────────────────────────────────────────────

key-leaves : (k : ℕ) (s : Session) (w t : List ℕ) → ((withdraw_key k s w t).answer ≡ Ok tt → ⊥)
    → (withdraw_key k s w t).working ≡ (lookup_key k s w t).working
unfolding withdraw_key withdraw_along withdraw_refused withdraw_done lookup_key lookup_left
key-leaves k s w t h = go (way_of s.n s.c k w).steps refl
  where
    along : (steps : List Step) → (way_of s.n s.c k w).steps ≡ some steps → (a : Option ℕ) → find k (certs_at steps) ≡ a
        → (withdraw_key k s w t).working ≡ (lookup_key k s w t).working
    along steps o none f = rw (withdraw_key, lookup_key, o, withdraw_along, f)
    along steps o (some x) f = absurd (h (rw (withdraw_key, o, withdraw_along, f)))

    go : (o : Option (List Step)) → (way_of s.n s.c k w).steps ≡ o
        → (withdraw_key k s w t).working ≡ (lookup_key k s w t).working
    go none o = rw (withdraw_key, lookup_key, o)
    go (some steps) o = along steps o (find k (certs_at steps)) refl

-- refused, it leaves the working table that a lookup leaves
pub withdraw-leaves : (w t : List ℕ) (s : Session) (model serial issue : ℕ)
    → ((withdraw w t s model serial issue).answer ≡ Ok tt → ⊥)
    → (withdraw w t s model serial issue).working ≡ (lookup w t s model serial issue).working
unfolding withdraw withdraw_refused lookup lookup_left
withdraw-leaves w t s model serial issue h =
    go (lengths_for s w t) refl (good_parts model serial issue) refl (fit0 s.n w) refl
  where
    go : (a : Bool) → lengths_for s w t ≡ a → (b : Bool) → good_parts model serial issue ≡ b → (c : Bool) → fit0 s.n w ≡ c
        → (withdraw w t s model serial issue).working ≡ (lookup w t s model serial issue).working
    go false p b q c o = rw (withdraw, lookup, p)
    go true p false q c o = rw (withdraw, lookup, p, q)
    go true p true q false o = rw (withdraw, lookup, p, q, o)
    go true p true q true o =
        rw (withdraw, lookup, p, q, o) (key-leaves (key_of model serial issue) s w t (λ e. h (rw (withdraw, p, q, o) e)))
