-- A call mends the pages that its companion in Mends computes, in that order, and does nothing else to the working table: each
-- call that reads, and an insert or a withdrawal that is refused. Assumes nothing.
use Rattle.std.proofs.Common.{◌≡◌, ℕ, Bool, true, false, ◌&&◌, ltb, List, [], sym, refl, subst, true≢false, Ok}
use Rattle.rules.specs.Test.{every}
use Rattle.rules.specs.Key.{key_of, good_parts}
use Rattle.rules.specs.Table.{fit0}
use Rattle.rules.specs.Walk.{way_of, walk_of}
use Rattle.rules.specs.Call.{lengths_for}
use Rattle.rules.specs.Insert.{insert}
use Rattle.rules.specs.Withdraw.{withdraw}
use Rattle.rules.specs.Lookup.{lookup, lookup_left}
use Rattle.rules.specs.Newest.{newest, newest_left, meter}
use Rattle.rules.specs.HasAny.{has_any, any_meter, any_left, first_of}
use Rattle.rules.specs.List.{list, list_refused, up_from}
use Rattle.rules.specs.Mends.{way_mends, walk_of_mends, tested_mends, key_mends, meter_mends, list_mends, InTurn, no_mend}
use Rattle.rules.specs.declared.Session.{Session}
use Rattle.rules.specs.declared.Asked.{Asked}
use Rattle.rules.proofs.Demand1.InTurns.{way-turns, walk_of-turns}
use Rattle.rules.proofs.Demand1.Reports.{lookup-walked, newest-walked, list-walked}
use Rattle.rules.proofs.Demand1.LikeLookup.{insert-leaves, withdraw-leaves}

-- a call that makes its tests in this order leaves the table as it was, unless its walk began
module _ (s : Session) (w t : List ℕ) (good : Bool) (xs left walked : List ℕ)
    (at_length : lengths_for s w t ≡ false → left ≡ w)
    (at_key : lengths_for s w t ≡ true → good ≡ false → left ≡ w)
    (at_zero : lengths_for s w t ≡ true → good ≡ true → fit0 s.n w ≡ false → left ≡ w)
    (at-end : lengths_for s w t ≡ true → good ≡ true → fit0 s.n w ≡ true → left ≡ walked) where
  tested-turns : InTurn s.n s.c xs w walked → InTurn s.n s.c (tested_mends s w t good xs) w left
  unfolding tested_mends every
  tested-turns x = go (lengths_for s w t) refl good refl (fit0 s.n w) refl
    where
      go : (a : Bool) → lengths_for s w t ≡ a → (b : Bool) → good ≡ b → (c : Bool) → fit0 s.n w ≡ c
          → InTurn s.n s.c (tested_mends s w t good xs) w left
      go false l b g c f = rw (tested_mends, l) (subst (InTurn s.n s.c [] w) (sym (at_length l)) no_mend)
      go true l false g c f = rw (tested_mends, l, g) (subst (InTurn s.n s.c [] w) (sym (at_key l g)) no_mend)
      go true l true g false f = rw (tested_mends, l, g, f) (subst (InTurn s.n s.c [] w) (sym (at_zero l g f)) no_mend)
      go true l true g true f = rw (tested_mends, l, g, f) (subst (InTurn s.n s.c xs w) (sym (at-end l g f)) x)

any-walked : (a : Asked) (s : Session) (w t : List ℕ) → (any_meter a s w t).working ≡ (walk_of s.n s.c a w).table
unfolding any_meter any_left
any-walked a s w t = go (walk_of s.n s.c a w).whole refl
  where
    go : (b : Bool) → (walk_of s.n s.c a w).whole ≡ b → (any_meter a s w t).working ≡ (walk_of s.n s.c a w).table
    go false h = rw (any_meter, h)
    go true h = rw (any_meter, h)

module _ (w t : List ℕ) (s : Session) where
  pub lookup-turns : (model serial issue : ℕ)
      → InTurn s.n s.c (key_mends w t s model serial issue) w (lookup w t s model serial issue).working
  unfolding key_mends lookup lookup_left
  lookup-turns model serial issue =
      let k = key_of model serial issue in
      tested-turns s w t (good_parts model serial issue) (way_mends s.n s.c k w) (lookup w t s model serial issue).working
      (way_of s.n s.c k w).table (λ l. rw (lookup, l)) (λ l g. rw (lookup, l, g)) (λ l g f. rw (lookup, l, g, f))
      (λ l g f. rw (lookup, l, g, f) (lookup-walked k s w t)) (way-turns s.n s.c k w)

  pub insert-turns : (model serial issue x : ℕ) → ((insert w t s model serial issue x).answer ≡ Ok tt → ⊥)
      → InTurn s.n s.c (key_mends w t s model serial issue) w (insert w t s model serial issue x).working
  insert-turns model serial issue x refused =
      subst (InTurn s.n s.c (key_mends w t s model serial issue) w) (sym (insert-leaves w t s model serial issue x refused))
      (lookup-turns model serial issue)

  pub withdraw-turns : (model serial issue : ℕ) → ((withdraw w t s model serial issue).answer ≡ Ok tt → ⊥)
      → InTurn s.n s.c (key_mends w t s model serial issue) w (withdraw w t s model serial issue).working
  withdraw-turns model serial issue refused =
      subst (InTurn s.n s.c (key_mends w t s model serial issue) w) (sym (withdraw-leaves w t s model serial issue refused))
      (lookup-turns model serial issue)

  pub newest-turns : (model serial : ℕ)
      → InTurn s.n s.c (meter_mends w t s model serial (meter model serial)) w (newest w t s model serial).working
  unfolding meter_mends newest newest_left
  newest-turns model serial =
      let a = meter model serial in
      tested-turns s w t (ltb 0 model && ltb 0 serial) (walk_of_mends s.n s.c a w) (newest w t s model serial).working
      (walk_of s.n s.c a w).table (λ l. rw (newest, l)) (λ l g. rw (newest, l, g)) (λ l g f. rw (newest, l, g, f))
      (λ l g f. rw (newest, l, g, f) (newest-walked a s w t)) (walk_of-turns s.n s.c a w)

  pub any-turns : (model serial : ℕ)
      → InTurn s.n s.c (meter_mends w t s model serial (first_of model serial)) w (has_any w t s model serial).working
  unfolding meter_mends has_any any_left
  any-turns model serial =
      let a = first_of model serial in
      tested-turns s w t (ltb 0 model && ltb 0 serial) (walk_of_mends s.n s.c a w) (has_any w t s model serial).working
      (walk_of s.n s.c a w).table (λ l. rw (has_any, l)) (λ l g. rw (has_any, l, g)) (λ l g f. rw (has_any, l, g, f))
      (λ l g f. rw (has_any, l, g, f) (any-walked a s w t)) (walk_of-turns s.n s.c a w)

  pub list-turns : (start : ℕ) (ks xs : List ℕ)
      → InTurn s.n s.c (list_mends w t s (up_from start ks xs)) w (list w t s start ks xs).working
  unfolding list_mends list list_refused
  list-turns start ks xs =
      let a = up_from start ks xs in
      tested-turns s w t true (walk_of_mends s.n s.c a w) (list w t s start ks xs).working
      (walk_of s.n s.c a w).table (λ l. rw (list, l)) (λ l g. absurd (true≢false g)) (λ l g f. rw (list, l, f))
      (λ l g f. rw (list, l, f) (list-walked s w t start ks xs)) (walk_of-turns s.n s.c a w)
