-- A refused insert or withdrawal leaves the working table that a lookup of its key leaves. Assumes nothing.
use Rattle.std.proofs.Common.{◌≡◌, ℕ, Bool, true, false, List, sym, refl, ◌∙◌, Ok}
use mathlib.Core.Option.{Option, some, none}
use Rattle.rules.specs.Key.{key_of, good_parts}
use Rattle.rules.specs.Entry.{find}
use Rattle.rules.specs.Table.{fit0}
use Rattle.rules.specs.Walk.{Step, certs_at, way_of}
use Rattle.rules.specs.Call.{lengths_for}
use Rattle.rules.specs.Insert.{insert, insert_refused}
use Rattle.rules.specs.Withdraw.{withdraw_refused, withdraw_done, withdraw_along, withdraw_key, withdraw}
use Rattle.rules.specs.Lookup.{lookup, lookup_left}
use Rattle.rules.specs.declared.Session.{Session}
use Rattle.rules.proofs.Demand1.Reports.{lookup-walked, insert-walked}

pub insert-leaves : (w t : List ℕ) (s : Session) (model serial issue x : ℕ) → ((insert w t s model serial issue x).answer ≡ Ok tt → ⊥)
    → (insert w t s model serial issue x).working ≡ (lookup w t s model serial issue).working
unfolding insert insert_refused lookup lookup_left
insert-leaves w t s model serial issue x r = go (lengths_for s w t) refl (good_parts model serial issue) refl (fit0 s.n w) refl
  where
    k : ℕ
    k = key_of model serial issue

    go : (a : Bool) → lengths_for s w t ≡ a → (b : Bool) → good_parts model serial issue ≡ b → (c : Bool) → fit0 s.n w ≡ c
        → (insert w t s model serial issue x).working ≡ (lookup w t s model serial issue).working
    go false p b q c o = rw (insert, lookup, p)
    go true p false q c o = rw (insert, lookup, p, q)
    go true p true q false o = rw (insert, lookup, p, q, o)
    go true p true q true o =
        rw (insert, lookup, p, q, o)
        (insert-walked k x s w t (λ e. r (rw (insert, p, q, o) e)) ∙ sym (lookup-walked k s w t))

withdraw-walked : (k : ℕ) (s : Session) (w t : List ℕ) → ((withdraw_key k s w t).answer ≡ Ok tt → ⊥)
    → (withdraw_key k s w t).working ≡ (way_of s.n s.c k w).table
unfolding withdraw_key withdraw_along withdraw_refused withdraw_done
withdraw-walked k s w t r = go (way_of s.n s.c k w).steps refl
  where
    along : (steps : List Step) → (way_of s.n s.c k w).steps ≡ some steps → (a : Option ℕ) → find k (certs_at steps) ≡ a
        → (withdraw_key k s w t).working ≡ (way_of s.n s.c k w).table
    along steps o none f = rw (withdraw_key, o, withdraw_along, f)
    along steps o (some x) f = absurd (r (rw (withdraw_key, o, withdraw_along, f)))

    go : (o : Option (List Step)) → (way_of s.n s.c k w).steps ≡ o → (withdraw_key k s w t).working ≡ (way_of s.n s.c k w).table
    go none o = rw (withdraw_key, o)
    go (some steps) o = along steps o (find k (certs_at steps)) refl

pub withdraw-leaves : (w t : List ℕ) (s : Session) (model serial issue : ℕ) → ((withdraw w t s model serial issue).answer ≡ Ok tt → ⊥)
    → (withdraw w t s model serial issue).working ≡ (lookup w t s model serial issue).working
unfolding withdraw withdraw_refused lookup lookup_left
withdraw-leaves w t s model serial issue r = go (lengths_for s w t) refl (good_parts model serial issue) refl (fit0 s.n w) refl
  where
    k : ℕ
    k = key_of model serial issue

    go : (a : Bool) → lengths_for s w t ≡ a → (b : Bool) → good_parts model serial issue ≡ b → (c : Bool) → fit0 s.n w ≡ c
        → (withdraw w t s model serial issue).working ≡ (lookup w t s model serial issue).working
    go false p b q c o = rw (withdraw, lookup, p)
    go true p false q c o = rw (withdraw, lookup, p, q)
    go true p true q false o = rw (withdraw, lookup, p, q, o)
    go true p true q true o =
        rw (withdraw, lookup, p, q, o)
        (withdraw-walked k s w t (λ e. r (rw (withdraw, p, q, o) e)) ∙ sym (lookup-walked k s w t))
