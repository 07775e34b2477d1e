-- A refused insert leaves what the walk of its key has mended, and nothing else; a lookup too. Assumes nothing.
use Prim.Native.Nat.{ℕ}
use mathlib.Core.Path.{◌≡◌, refl, ap}
use mathlib.Core.Logic.{inl, inr}
use mathlib.Core.Bool.{Bool, true, false}
use mathlib.Core.List.{List}
use mathlib.Core.Option.{Option, some, none}
use Rattle.rules.specs.Key.{key_of, good_parts}
use Rattle.rules.specs.Entry.{find}
use Rattle.rules.specs.Table.{fit0}
use Rattle.rules.specs.Walk.{Step, numbers, certs_at, way_of}
use Rattle.rules.specs.Marks.{free_pages}
use Rattle.rules.specs.Call.{Unchanged, inserted_no, lengths_for, insert_error_no}
use Rattle.rules.specs.Insert.{insert, insert_key, insert_along, insert_done, insert_refused, splitting, too_soon, no_room}
use Rattle.rules.specs.Lookup.{lookup, lookup_key, lookup_left}
use Rattle.rules.specs.declared.Session.{Session}
use Rattle.rules.proofs.Entries.Tests.{not_both}
use Rattle.rules.proofs.Demand1.Refusals as rules
use Rattle.answers.specs.OneKey.{EndsIn, MendedBy, nothing}
use Rattle.answers.specs.Causes.{BeforeWalk}
use Rattle.answers.specs.Demand1.{Refused, WalkMended}
use Rattle.answers.proofs.Meets.{way-ends}
use Rattle.answers.proofs.Tells.{bad_lengths, good_lengths_lem, bad_key, good_key_lem}
use Rattle.answers.proofs.Walks.{way-mended}

-- ── Insert ──────────────────────────────────────────────────────────────────────────────────────────────────────

-- past the walk nothing more is written
along_left : (k x : ℕ) (s : Session) (way : List Step) (w t : List ℕ)
    → Refused (inserted_no (insert_along k x s way w t).answer) → (insert_along k x s way w t).working ≡ w
unfolding insert_along insert_refused insert_done insert_error_no
along_left k x s way w t h =
    go (find k (certs_at way)) refl (too_soon s.c (splitting way)) refl (no_room way (free_pages s (numbers way))) refl
  where
    go : (o : Option ℕ) → find k (certs_at way) ≡ o → (a : Bool) → too_soon s.c (splitting way) ≡ a
        → (b : Bool) → no_room way (free_pages s (numbers way)) ≡ b → (insert_along k x s way w t).working ≡ w
    go (some y) o a p b q = rw (insert_along, o)
    go none o true p b q = rw (insert_along, o, p)
    go none o false p true q = rw (insert_along, o, p, q)
    go none o false p false q = absurd (h (rw (insert_along, o, p, q)))

key_left : (k x : ℕ) (s : Session) (w t : List ℕ) → Refused (inserted_no (insert_key k x s w t).answer)
    → (insert_key k x s w t).working ≡ (way_of s.n s.c k w).table
unfolding insert_key insert_refused
key_left k x s w t h = go (way_of s.n s.c k w).steps refl
  where
    go : (o : Option (List Step)) → (way_of s.n s.c k w).steps ≡ o
        → (insert_key k x s w t).working ≡ (way_of s.n s.c k w).table
    go none o = rw (insert_key, o)
    go (some steps) o =
        rw (insert_key, o) (along_left k x s steps (way_of s.n s.c k w).table t (λ e. h (rw (insert_key, o) e)))

module _ (w t : List ℕ) (s : Session) (model serial issue x : ℕ) where
  abbrev k : ℕ
  k = key_of model serial issue

  insert-left : Refused (inserted_no (insert w t s model serial issue x).answer)
      → MendedBy s.n s.c k w (insert w t s model serial issue x).working
  unfolding insert insert_refused
  insert-left h = go (lengths_for s w t) refl (good_parts model serial issue) refl (fit0 s.n w) refl
    where
      go : (a : Bool) → lengths_for s w t ≡ a → (b : Bool) → good_parts model serial issue ≡ b
          → (c : Bool) → fit0 s.n w ≡ c
          → MendedBy s.n s.c k w (insert w t s model serial issue x).working
      go false p b q c o = rw (insert, p) nothing
      go true p false q c o = rw (insert, p, q) nothing
      go true p true q false o = rw (insert, p, q, o) nothing
      go true p true q true o =
          rw (insert, p, q, o, key_left k x s w t (λ e. h (rw (insert, p, q, o) e))) (way-mended s.n s.c k w)

  pub insert-mended : Refused (inserted_no (insert w t s model serial issue x).answer)
      → WalkMended k w t s (insert w t s model serial issue x)
  unfolding insert_error_no
  insert-mended h =
      let r = rules.insert_refused_lem w t s model serial issue x (λ e. h (ap inserted_no e)) in
      record { working = insert-left h; stable = r.stable; session = r.session }

  -- nothing before the walk
  pub insert_unwalked : BeforeWalk w t s model serial issue → Unchanged w t s (insert w t s model serial issue x)
  unfolding insert insert_refused
  insert_unwalked h = go (lengths_for s w t) refl (good_parts model serial issue) refl (fit0 s.n w) refl h
    where
      go : (a : Bool) → lengths_for s w t ≡ a → (b : Bool) → good_parts model serial issue ≡ b → (c : Bool) → fit0 s.n w ≡ c
          → BeforeWalk w t s model serial issue → Unchanged w t s (insert w t s model serial issue x)
      go false p b q c o h = rw (insert, p) (record { working = refl; stable = refl; session = refl })
      go true p false q c o h = rw (insert, p, q) (record { working = refl; stable = refl; session = refl })
      go true p true q false o h = rw (insert, p, q, o) (record { working = refl; stable = refl; session = refl })
      go true p true q true o (inl h) = absurd (good_lengths_lem w t s p h)
      go true p true q true o (inr (inl h)) = absurd (good_key_lem model serial issue q h)
      go true p true q true o (inr (inr h)) = absurd (not_both o h)

  -- behind it, the table in which the walk ended
  pub insert_stands : (BeforeWalk w t s model serial issue → ⊥) → Refused (inserted_no (insert w t s model serial issue x).answer)
      → EndsIn s.n s.c k w (insert w t s model serial issue x).working
  unfolding insert
  insert_stands b h = go (lengths_for s w t) refl (good_parts model serial issue) refl (fit0 s.n w) refl
    where
      go : (a : Bool) → lengths_for s w t ≡ a → (d : Bool) → good_parts model serial issue ≡ d → (c : Bool) → fit0 s.n w ≡ c
          → EndsIn s.n s.c k w (insert w t s model serial issue x).working
      go false p d q c o = absurd (b (inl (bad_lengths w t s p)))
      go true p false q c o = absurd (b (inr (inl (bad_key model serial issue q))))
      go true p true q false o = absurd (b (inr (inr o)))
      go true p true q true o =
          rw (insert, p, q, o, key_left k x s w t (λ e. h (rw (insert, p, q, o) e))) (way-ends s.n s.c k w)

-- ── Lookup ──────────────────────────────────────────────────────────────────────────────────────────────────────

key-looked : (k : ℕ) (s : Session) (w t : List ℕ) → (lookup_key k s w t).working ≡ (way_of s.n s.c k w).table
unfolding lookup_key lookup_left
key-looked k s w t = go (way_of s.n s.c k w).steps refl
  where
    go : (o : Option (List Step)) → (way_of s.n s.c k w).steps ≡ o
        → (lookup_key k s w t).working ≡ (way_of s.n s.c k w).table
    go none o = rw (lookup_key, o)
    go (some steps) o = rw (lookup_key, o)

module _ (w t : List ℕ) (s : Session) (model serial issue : ℕ) where
  lookup_left_lem : MendedBy s.n s.c (key_of model serial issue) w (lookup w t s model serial issue).working
  unfolding lookup lookup_left
  lookup_left_lem = go (lengths_for s w t) refl (good_parts model serial issue) refl (fit0 s.n w) refl
    where
      go : (a : Bool) → lengths_for s w t ≡ a → (b : Bool) → good_parts model serial issue ≡ b
          → (c : Bool) → fit0 s.n w ≡ c
          → MendedBy s.n s.c (key_of model serial issue) w (lookup w t s model serial issue).working
      go false p b q c o = rw (lookup, p) nothing
      go true p false q c o = rw (lookup, p, q) nothing
      go true p true q false o = rw (lookup, p, q, o) nothing
      go true p true q true o =
          rw (lookup, p, q, o, key-looked (key_of model serial issue) s w t) (way-mended s.n s.c (key_of model serial issue) w)

  pub lookup-mended : WalkMended (key_of model serial issue) w t s (lookup w t s model serial issue)
  lookup-mended =
      let r = rules.lookup_mends w t s model serial issue in
      record { working = lookup_left_lem; stable = r.stable; session = r.session }

  pub lookup_stands : (BeforeWalk w t s model serial issue → ⊥)
      → EndsIn s.n s.c (key_of model serial issue) w (lookup w t s model serial issue).working
  unfolding lookup
  lookup_stands b = go (lengths_for s w t) refl (good_parts model serial issue) refl (fit0 s.n w) refl
    where
      go : (a : Bool) → lengths_for s w t ≡ a → (d : Bool) → good_parts model serial issue ≡ d → (c : Bool) → fit0 s.n w ≡ c
          → EndsIn s.n s.c (key_of model serial issue) w (lookup w t s model serial issue).working
      go false p d q c o = absurd (b (inl (bad_lengths w t s p)))
      go true p false q c o = absurd (b (inr (inl (bad_key model serial issue q))))
      go true p true q false o = absurd (b (inr (inr o)))
      go true p true q true o =
          rw (lookup, p, q, o, key-looked (key_of model serial issue) s w t) (way-ends s.n s.c (key_of model serial issue) w)
