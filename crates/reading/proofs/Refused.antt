-- A refused insert or withdrawal, and every lookup, leaves each page as it was or mended for a place of the key's way.
use Rattle.std.specs.Prelude.{Ok}
use Prim.Native.Nat.{ℕ, ◌≤◌}
use native.Mathlib.Omega.{arith}
use mathlib.Core.Path.{◌≡◌, refl, sym, ap, ◌∙◌}
use mathlib.Core.Bool.{Bool, true, false}
use mathlib.Core.List.{List}
use mathlib.Core.Option.{Option, some, none}
use lib.ListN.{length}
use Rattle.rules.specs.Layout.{last_key}
use Rattle.rules.specs.Key.{key_of, good_parts}
use Rattle.rules.specs.Entry.{find}
use Rattle.rules.specs.Table.{page_at, fit0}
use Rattle.rules.specs.Walk.{Step, numbers, certs_at, way_of}
use Rattle.rules.specs.Marks.{free_pages}
use Rattle.rules.specs.Call.{Left, lengths_for}
use Rattle.rules.specs.Insert.{splitting, too_soon, no_room, insert_refused, insert_done, insert_along, insert_key, insert}
use Rattle.rules.specs.Lookup.{lookup_left, lookup_key, lookup}
use Rattle.rules.specs.declared.Session.{Session}
use Rattle.rules.specs.Answer.{Inserted, Looked}
use Rattle.rules.proofs.Bytes.Keys.{key_of-bound}
use Rattle.rules.proofs.Bytes.Lengths.{lengths_for_true}
use Rattle.rules.proofs.Demand1.Withdrawals as withdrawals
use Rattle.reading.specs.Leaving.{as_it_was, OnlyWay, Typed, InsertRefused, LookupLeaves, WithdrawRefused}
use Rattle.reading.proofs.Turns.{left-same}
use Rattle.reading.proofs.WayLeft.{way-left}

-- ── A call that writes what its walk leaves, or nothing ─────────────────────────────────────────────────────────

-- the three that every call leaves
pub record Leaves {A : Type 0} (u t : List ℕ) (s : Session) (r : Left A) : Type 0 where
  pub working : r.working ≡ u
  pub stable : r.stable ≡ t
  pub session : r.session ≡ s

pub nothing_written : {A : Type 0} {k : ℕ} {w t : List ℕ} {s : Session} {r : Left A} → Leaves w t s r → OnlyWay k w t s r
nothing_written {w = w} l = record {
  length_stays = ap length l.working;
  page = λ i. as_it_was (rw l.working);
  stable = l.stable;
  session = l.session;
}

pub key-bound : {w : List ℕ} {s : Session} {model serial issue : ℕ} → Typed w s model serial issue → key_of model serial issue ≤ last_key
key-bound {model = model} {serial} {issue} y =
    omega (arith, key_of-bound model serial issue y.wide_serial y.wide_issue y.wide_model)

pub way-written : {A : Type 0} {w t : List ℕ} {s : Session} {model serial issue : ℕ} {r : Left A} → Typed w s model serial issue
    → lengths_for s w t ≡ true → fit0 s.n w ≡ true → Leaves (way_of s.n s.c (key_of model serial issue) w).table t s r
    → OnlyWay (key_of model serial issue) w t s r
way-written {w = w} {t} {s} {model} {serial} {issue} {r} y l f h =
    let k = key_of model serial issue in
    let a = lengths_for_true s w t l in
    let x = way-left s.n s.c k w a.working f y.bytes y.counter (key-bound y) in
    record {
      length_stays = ap length h.working ∙ (x.long ∙ sym a.working);
      page = λ i. rw h.working (x.page i);
      stable = h.stable;
      session = h.session;
    }

-- ── Insert ──────────────────────────────────────────────────────────────────────────────────────────────────────

along_refused : (k x : ℕ) (s : Session) (way : List Step) (u t : List ℕ) → ((insert_along k x s way u t).answer ≡ Ok tt → ⊥)
    → Leaves u t s (insert_along k x s way u t)
unfolding insert_along insert_refused insert_done
along_refused k x s way u t h = go (find k (certs_at way)) refl (too_soon s.c (splitting way)) refl (no_room way (free_pages s (numbers way))) refl
  where
    go : (o : Option ℕ) → find k (certs_at way) ≡ o → (a : Bool) → too_soon s.c (splitting way) ≡ a
        → (b : Bool) → no_room way (free_pages s (numbers way)) ≡ b → Leaves u t s (insert_along k x s way u t)
    go (some y) o a p b q = rw (insert_along, o) (record { working = refl; stable = refl; session = refl })
    go none o true p b q = rw (insert_along, o, p) (record { working = refl; stable = refl; session = refl })
    go none o false p true q = rw (insert_along, o, p, q) (record { working = refl; stable = refl; session = refl })
    go none o false p false q = absurd (h (rw (insert_along, o, p, q)))

key-refused : (k x : ℕ) (s : Session) (w t : List ℕ) → ((insert_key k x s w t).answer ≡ Ok tt → ⊥)
    → Leaves (way_of s.n s.c k w).table t s (insert_key k x s w t)
unfolding insert_key insert_refused
key-refused k x s w t h = go (way_of s.n s.c k w).steps refl
  where
    go : (o : Option (List Step)) → (way_of s.n s.c k w).steps ≡ o → Leaves (way_of s.n s.c k w).table t s (insert_key k x s w t)
    go none o = rw (insert_key, o) (record { working = refl; stable = refl; session = refl })
    go (some steps) o =
        rw (insert_key, o) (along_refused k x s steps (way_of s.n s.c k w).table t (λ e. h (rw (insert_key, o) e)))

pub insert_refused_lem : InsertRefused
unfolding InsertRefused insert insert_refused
insert_refused_lem w t s model serial issue x y h =
    go (lengths_for s w t) refl (good_parts model serial issue) refl (fit0 s.n w) refl
  where
    Goal : Left Inserted → Type 0
    Goal r = OnlyWay (key_of model serial issue) w t s r

    go : (a : Bool) → lengths_for s w t ≡ a → (b : Bool) → good_parts model serial issue ≡ b
        → (c : Bool) → fit0 s.n w ≡ c → Goal (insert w t s model serial issue x)
    go false p b q c o = nothing_written (rw (insert, p) (record { working = refl; stable = refl; session = refl }))
    go true p false q c o = nothing_written (rw (insert, p, q) (record { working = refl; stable = refl; session = refl }))
    go true p true q false o = nothing_written (rw (insert, p, q, o) (record { working = refl; stable = refl; session = refl }))
    go true p true q true o =
        way-written y p o (rw (insert, p, q, o) (key-refused (key_of model serial issue) x s w t (λ e. h (rw (insert, p, q, o) e))))

-- ── Lookup ──────────────────────────────────────────────────────────────────────────────────────────────────────

key-leaves : (k : ℕ) (s : Session) (w t : List ℕ) → Leaves (way_of s.n s.c k w).table t s (lookup_key k s w t)
unfolding lookup_key lookup_left
key-leaves k s w t = go (way_of s.n s.c k w).steps refl
  where
    go : (o : Option (List Step)) → (way_of s.n s.c k w).steps ≡ o → Leaves (way_of s.n s.c k w).table t s (lookup_key k s w t)
    go none o = rw (lookup_key, o) (record { working = refl; stable = refl; session = refl })
    go (some steps) o = rw (lookup_key, o) (record { working = refl; stable = refl; session = refl })

pub lookup-leaves : LookupLeaves
unfolding LookupLeaves lookup lookup_left
lookup-leaves w t s model serial issue y =
    go (lengths_for s w t) refl (good_parts model serial issue) refl (fit0 s.n w) refl
  where
    Goal : Left Looked → Type 0
    Goal r = OnlyWay (key_of model serial issue) w t s r

    go : (a : Bool) → lengths_for s w t ≡ a → (b : Bool) → good_parts model serial issue ≡ b
        → (c : Bool) → fit0 s.n w ≡ c → Goal (lookup w t s model serial issue)
    go false p b q c o = nothing_written (rw (lookup, p) (record { working = refl; stable = refl; session = refl }))
    go true p false q c o = nothing_written (rw (lookup, p, q) (record { working = refl; stable = refl; session = refl }))
    go true p true q false o = nothing_written (rw (lookup, p, q, o) (record { working = refl; stable = refl; session = refl }))
    go true p true q true o = way-written y p o (rw (lookup, p, q, o) (key-leaves (key_of model serial issue) s w t))

-- ── Withdraw ────────────────────────────────────────────────────────────────────────────────────────────────────

-- refused, it leaves what a lookup leaves
pub withdraw_refused_lem : WithdrawRefused
unfolding WithdrawRefused LookupLeaves
withdraw_refused_lem w t s model serial issue y h =
    let e = withdrawals.withdraw-leaves w t s model serial issue h in
    let x = lookup-leaves w t s model serial issue y in
    record {
      length_stays = ap length e ∙ x.length_stays;
      page = λ i. left-same (ap (λ (u : List ℕ). page_at u i) e) (x.page i);
      stable = withdrawals.withdraw_stable w t s model serial issue;
      session = (withdrawals.withdraw_refused_lem w t s model serial issue h).session;
    }
