-- What newest, has-any and list leave: what their walk has mended, and nothing else. Assumes nothing.
use Prim.Native.Nat.{ℕ}
use native.Mathlib.Omega.{arith}
use mathlib.Core.Path.{◌≡◌, refl}
use mathlib.Core.Bool.{Bool, true, false, ◌&&◌}
use mathlib.Core.List.{List, [], ◌∷◌}
use lib.Dec.{ltb}
use Rattle.rules.specs.Entry.{Cert}
use Rattle.rules.specs.Table.{fit0}
use Rattle.rules.specs.Walk.{walk_of}
use Rattle.rules.specs.Call.{lengths_for, newest_no, any_no, listed_no, any_error_no, find_error_no, list_error_no}
use Rattle.rules.specs.Newest.{newest, newest_meter, newest_left, newest_in, meter}
use Rattle.rules.specs.HasAny.{has_any, any_meter, any_left, any_in, first_of}
use Rattle.rules.specs.List.{list, list_from, list_done, list_refused, up_from}
use Rattle.rules.specs.declared.Session.{Session}
use Rattle.rules.specs.declared.Asked.{Asked}
use Rattle.rules.proofs.Demand1.Refusals as rules
use Rattle.answers.specs.Range.{StopsIn, MendedIn, nothing}
use Rattle.answers.specs.Demand1.{RangeMended}
use Rattle.answers.proofs.RangeWalks.{range-mended}
use Rattle.answers.proofs.RangeMeets.{cut-stops}

-- ── Newest ──────────────────────────────────────────────────────────────────────────────────────────────────────

-- what was found is no damage
not_damaged : (xs : List Cert) → newest_no (newest_in xs) ≡ 3 → ⊥
unfolding find_error_no newest_in
not_damaged [] h = omega (arith, h)
not_damaged (x ∷ []) h = omega (arith, h)
not_damaged (x ∷ (y ∷ ys)) h = not_damaged (y ∷ ys) h

meter-left : (a : Asked) (s : Session) (w t : List ℕ) → MendedIn s.n s.c a w (newest_meter a s w t).working
unfolding newest_meter newest_left
meter-left a s w t = go (walk_of s.n s.c a w).whole refl
  where
    go : (b : Bool) → (walk_of s.n s.c a w).whole ≡ b → MendedIn s.n s.c a w (newest_meter a s w t).working
    go false p = rw (newest_meter, p) (range-mended s.n s.c a w)
    go true p = rw (newest_meter, p) (range-mended s.n s.c a w)

module _ (w t : List ℕ) (s : Session) (model serial : ℕ) where
  newest_left_lem : MendedIn s.n s.c (meter model serial) w (newest w t s model serial).working
  unfolding newest newest_left
  newest_left_lem = go (lengths_for s w t) refl (ltb 0 model && ltb 0 serial) refl (fit0 s.n w) refl
    where
      go : (a : Bool) → lengths_for s w t ≡ a → (b : Bool) → (ltb 0 model && ltb 0 serial) ≡ b
          → (c : Bool) → fit0 s.n w ≡ c
          → MendedIn s.n s.c (meter model serial) w (newest w t s model serial).working
      go false p b q c o = rw (newest, p) nothing
      go true p false q c o = rw (newest, p, q) nothing
      go true p true q false o = rw (newest, p, q, o) nothing
      go true p true q true o = rw (newest, p, q, o) (meter-left (meter model serial) s w t)

  pub newest-mended : let r = newest w t s model serial in
      RangeMended (meter model serial) w t s r.working r.stable r.session
  newest-mended =
      let r = rules.newest_mends w t s model serial in
      record { working = newest_left_lem; stable = r.stable; session = r.session }

  pub newest_stands : fit0 s.n w ≡ true → newest_no (newest w t s model serial).answer ≡ 3
      → StopsIn s.n s.c (meter model serial) w (newest w t s model serial).working
  unfolding newest newest_meter newest_left find_error_no
  newest_stands f h =
      go (lengths_for s w t) refl (ltb 0 model && ltb 0 serial) refl (walk_of s.n s.c (meter model serial) w).whole refl
    where
      go : (a : Bool) → lengths_for s w t ≡ a → (b : Bool) → (ltb 0 model && ltb 0 serial) ≡ b
          → (c : Bool) → (walk_of s.n s.c (meter model serial) w).whole ≡ c
          → StopsIn s.n s.c (meter model serial) w (newest w t s model serial).working
      go false p b q c o = absurd (omega (arith, rw (newest, p) at h))
      go true p false q c o = absurd (omega (arith, rw (newest, p, q) at h))
      go true p true q true o =
          absurd (not_damaged (walk_of s.n s.c (meter model serial) w).found (rw (newest, p, q, f, newest_meter, o) at h))
      go true p true q false o = rw (newest, p, q, f, newest_meter, o) (cut-stops s.n s.c (meter model serial) w o)

-- ── Has-any ─────────────────────────────────────────────────────────────────────────────────────────────────────

-- yes or no is no damage
any_not_damaged : (xs : List Cert) → any_no (any_in xs) ≡ 3 → ⊥
unfolding any_error_no any_in
any_not_damaged [] h = omega (arith, h)
any_not_damaged (x ∷ xs) h = omega (arith, h)

first-left : (a : Asked) (s : Session) (w t : List ℕ) → MendedIn s.n s.c a w (any_meter a s w t).working
unfolding any_meter any_left
first-left a s w t = go (walk_of s.n s.c a w).whole refl
  where
    go : (b : Bool) → (walk_of s.n s.c a w).whole ≡ b → MendedIn s.n s.c a w (any_meter a s w t).working
    go false p = rw (any_meter, p) (range-mended s.n s.c a w)
    go true p = rw (any_meter, p) (range-mended s.n s.c a w)

module _ (w t : List ℕ) (s : Session) (model serial : ℕ) where
  any_left_lem : MendedIn s.n s.c (first_of model serial) w (has_any w t s model serial).working
  unfolding has_any any_left
  any_left_lem = go (lengths_for s w t) refl (ltb 0 model && ltb 0 serial) refl (fit0 s.n w) refl
    where
      go : (a : Bool) → lengths_for s w t ≡ a → (b : Bool) → (ltb 0 model && ltb 0 serial) ≡ b
          → (c : Bool) → fit0 s.n w ≡ c
          → MendedIn s.n s.c (first_of model serial) w (has_any w t s model serial).working
      go false p b q c o = rw (has_any, p) nothing
      go true p false q c o = rw (has_any, p, q) nothing
      go true p true q false o = rw (has_any, p, q, o) nothing
      go true p true q true o = rw (has_any, p, q, o) (first-left (first_of model serial) s w t)

  pub any-mended : let r = has_any w t s model serial in
      RangeMended (first_of model serial) w t s r.working r.stable r.session
  any-mended =
      let r = rules.any_mends w t s model serial in
      record { working = any_left_lem; stable = r.stable; session = r.session }

  pub any_stands : fit0 s.n w ≡ true → any_no (has_any w t s model serial).answer ≡ 3
      → StopsIn s.n s.c (first_of model serial) w (has_any w t s model serial).working
  unfolding has_any any_meter any_left any_error_no
  any_stands f h =
      go (lengths_for s w t) refl (ltb 0 model && ltb 0 serial) refl (walk_of s.n s.c (first_of model serial) w).whole refl
    where
      go : (a : Bool) → lengths_for s w t ≡ a → (b : Bool) → (ltb 0 model && ltb 0 serial) ≡ b
          → (c : Bool) → (walk_of s.n s.c (first_of model serial) w).whole ≡ c
          → StopsIn s.n s.c (first_of model serial) w (has_any w t s model serial).working
      go false p b q c o = absurd (omega (arith, rw (has_any, p) at h))
      go true p false q c o = absurd (omega (arith, rw (has_any, p, q) at h))
      go true p true q true o =
          absurd (any_not_damaged (walk_of s.n s.c (first_of model serial) w).found (rw (has_any, p, q, f, any_meter, o) at h))
      go true p true q false o = rw (has_any, p, q, f, any_meter, o) (cut-stops s.n s.c (first_of model serial) w o)

-- ── List ────────────────────────────────────────────────────────────────────────────────────────────────────────

module _ (w t : List ℕ) (s : Session) (start : ℕ) (ks xs : List ℕ) where
  from-left : MendedIn s.n s.c (up_from start ks xs) w (list_from s w t start ks xs).working
  unfolding list_from list_done list_refused
  from-left = go (walk_of s.n s.c (up_from start ks xs) w).whole refl
    where
      go : (b : Bool) → (walk_of s.n s.c (up_from start ks xs) w).whole ≡ b
          → MendedIn s.n s.c (up_from start ks xs) w (list_from s w t start ks xs).working
      go false p = rw (list_from, p) (range-mended s.n s.c (up_from start ks xs) w)
      go true p = rw (list_from, p) (range-mended s.n s.c (up_from start ks xs) w)

  list_left : MendedIn s.n s.c (up_from start ks xs) w (list w t s start ks xs).working
  unfolding list list_refused
  list_left = go (lengths_for s w t) refl (fit0 s.n w) refl
    where
      go : (a : Bool) → lengths_for s w t ≡ a → (b : Bool) → fit0 s.n w ≡ b
          → MendedIn s.n s.c (up_from start ks xs) w (list w t s start ks xs).working
      go false p b q = rw (list, p) nothing
      go true p false q = rw (list, p, q) nothing
      go true p true q = rw (list, p, q) from-left

  pub list-mended : let r = list w t s start ks xs in
      RangeMended (up_from start ks xs) w t s r.working r.stable r.session
  list-mended =
      let r = rules.list_mends_lem s w t start ks xs in
      record { working = list_left; stable = r.stable; session = r.session }

  pub list_stands : fit0 s.n w ≡ true → listed_no (list w t s start ks xs).answer ≡ 3
      → StopsIn s.n s.c (up_from start ks xs) w (list w t s start ks xs).working
  unfolding list list_from list_done list_refused list_error_no
  list_stands f h = go (lengths_for s w t) refl (walk_of s.n s.c (up_from start ks xs) w).whole refl
    where
      go : (a : Bool) → lengths_for s w t ≡ a → (b : Bool) → (walk_of s.n s.c (up_from start ks xs) w).whole ≡ b
          → StopsIn s.n s.c (up_from start ks xs) w (list w t s start ks xs).working
      go false p b q = absurd (omega (arith, rw (list, p) at h))
      go true p true q = absurd (omega (arith, rw (list, p, f, list_from, q) at h))
      go true p false q = rw (list, p, f, list_from, q) (cut-stops s.n s.c (up_from start ks xs) w q)
