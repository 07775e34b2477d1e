-- Newest, has-any and list: each number exactly when document 01's table says. Assumes nothing.
use Rattle.std.specs.Prelude.{Ok}
use Prim.Native.Nat.{ℕ}
use native.Mathlib.Omega.{arith}
use mathlib.Core.Path.{◌≡◌, refl, sym, ◌∙◌}
use mathlib.Core.Logic.{inl, inr}
use mathlib.Core.Bool.{Bool, true, false, ◌&&◌}
use mathlib.Core.List.{List, [], ◌∷◌}
use lib.Dec.{ltb}
use lib.ListN.{length}
use Rattle.rules.specs.Entry.{Cert}
use Rattle.rules.specs.Table.{fit0}
use Rattle.rules.specs.Walk.{Walked, walk_of}
use Rattle.rules.specs.Call.{newest_no, any_no, listed_no, lengths_for, any_error_no, find_error_no, list_error_no}
use Rattle.rules.specs.Newest.{newest, newest_meter, newest_left, newest_in, meter}
use Rattle.rules.specs.HasAny.{has_any, any_meter, any_left, any_in, first_of}
use Rattle.rules.specs.List.{list, list_from, list_done, list_refused, up_from}
use Rattle.rules.specs.declared.Session.{Session}
use Rattle.answers.specs.Given.{Given}
use Rattle.answers.specs.Causes.{newest_causes, any_causes, list_causes}
use Rattle.answers.proofs.RangeMeets.{cut_damage}
use Rattle.answers.proofs.Tells.{bad_lengths, good_lengths_lem, bad_meter, good-meter, whole-range, nil-cons}

-- ── Newest ──────────────────────────────────────────────────────────────────────────────────────────────────────

-- what is found is answered
newest-some : (x : Cert) (xs : List Cert) → newest_no (newest_in (x ∷ xs)) ≡ 0
unfolding newest_in find_error_no
newest-some x [] = refl
newest-some x (y ∷ ys) = newest-some y ys

module _ (w t : List ℕ) (s : Session) (model serial : ℕ) where
  abbrev walked : Walked
  walked = walk_of s.n s.c (meter model serial) w

  abbrev GivenNewest : Type 0
  GivenNewest = Given (newest_causes w t s model serial) (newest_no (newest w t s model serial).answer)

  pub newest-given : GivenNewest
  unfolding newest newest_meter newest_left find_error_no newest_in
  newest-given =
      go (lengths_for s w t) refl (ltb 0 model && ltb 0 serial) refl (fit0 s.n w) refl
      walked.whole refl walked.found refl
    where
      go : (a : Bool) → lengths_for s w t ≡ a → (b : Bool) → (ltb 0 model && ltb 0 serial) ≡ b
          → (c : Bool) → fit0 s.n w ≡ c → (d : Bool) → walked.whole ≡ d
          → (f : List Cert) → walked.found ≡ f → GivenNewest
      go false p b q c o d h f e = inl (rw (p, newest), bad_lengths w t s p)
      go true p false q c o d h f e = inr (good_lengths_lem w t s p, inl (rw (p, newest, q), bad_meter model serial q))
      go true p true q false o d h f e =
          inr (good_lengths_lem w t s p, inr (good-meter model serial q, inl (rw (p, newest, q, o), inl o)))
      go true p true q true o false h f e =
          inr (good_lengths_lem w t s p, inr (good-meter model serial q, inl (rw (p, newest, q, o, newest_meter, h), inr (cut_damage s.n s.c (meter model serial) w h))))
      go true p true q true o true h [] e =
          inr (
            good_lengths_lem w t s p,
            inr (
              good-meter model serial q,
              inr (
                whole-range s (meter model serial) w o h,
                inl (rw (p, newest, q, o, newest_meter, h, e), e),
              ),
            ),
          )
      go true p true q true o true h (x ∷ xs) e =
          inr (
            good_lengths_lem w t s p,
            inr (
              good-meter model serial q,
              inr (
                whole-range s (meter model serial) w o h,
                inr ((λ none. nil-cons x xs (sym none ∙ e)), rw (p, newest, q, o, newest_meter, h, e) (newest-some x xs)),
              ),
            ),
          )

  -- done: the answer is the last certificate found
  pub newest-done : newest_no (newest w t s model serial).answer ≡ 0
      → (newest w t s model serial).answer ≡ newest_in walked.found
  unfolding newest newest_meter newest_left find_error_no
  newest-done z =
      go (lengths_for s w t) refl (ltb 0 model && ltb 0 serial) refl (fit0 s.n w) refl walked.whole refl
    where
      go : (a : Bool) → lengths_for s w t ≡ a → (b : Bool) → (ltb 0 model && ltb 0 serial) ≡ b
          → (c : Bool) → fit0 s.n w ≡ c → (d : Bool) → walked.whole ≡ d
          → (newest w t s model serial).answer ≡ newest_in walked.found
      go false p b q c o d h = absurd (omega (arith, rw (p, newest) at z))
      go true p false q c o d h = absurd (omega (arith, rw (p, newest, q) at z))
      go true p true q false o d h = absurd (omega (arith, rw (p, newest, q, o) at z))
      go true p true q true o false h = absurd (omega (arith, rw (p, newest, q, o, newest_meter, h) at z))
      go true p true q true o true h = rw (p, newest, q, o, newest_meter, h)

-- ── Has-any ─────────────────────────────────────────────────────────────────────────────────────────────────────

-- yes and no are 0
any_zero : (xs : List Cert) → any_no (any_in xs) ≡ 0
unfolding any_in any_error_no
any_zero [] = refl
any_zero (x ∷ xs) = refl

module _ (w t : List ℕ) (s : Session) (model serial : ℕ) where
  abbrev first : Walked
  first = walk_of s.n s.c (first_of model serial) w

  abbrev GivenAny : Type 0
  GivenAny = Given (any_causes w t s model serial) (any_no (has_any w t s model serial).answer)

  pub any-given : GivenAny
  unfolding has_any any_meter any_left any_error_no
  any-given = go (lengths_for s w t) refl (ltb 0 model && ltb 0 serial) refl (fit0 s.n w) refl first.whole refl
    where
      go : (a : Bool) → lengths_for s w t ≡ a → (b : Bool) → (ltb 0 model && ltb 0 serial) ≡ b
          → (c : Bool) → fit0 s.n w ≡ c → (d : Bool) → first.whole ≡ d → GivenAny
      go false p b q c o d h = inl (rw (p, has_any), bad_lengths w t s p)
      go true p false q c o d h = inr (good_lengths_lem w t s p, inl (rw (p, has_any, q), bad_meter model serial q))
      go true p true q false o d h =
          inr (good_lengths_lem w t s p, inr (good-meter model serial q, inl (rw (p, has_any, q, o), inl o)))
      go true p true q true o false h =
          inr (good_lengths_lem w t s p, inr (good-meter model serial q, inl (rw (p, has_any, q, o, any_meter, h), inr (cut_damage s.n s.c (first_of model serial) w h))))
      go true p true q true o true h =
          inr (
            good_lengths_lem w t s p,
            inr (
              good-meter model serial q,
              inr (whole-range s (first_of model serial) w o h, rw (p, has_any, q, o, any_meter, h) (any_zero first.found)),
            ),
          )

  -- done: yes, if one was found
  pub any-done : any_no (has_any w t s model serial).answer ≡ 0 → (has_any w t s model serial).answer ≡ any_in first.found
  unfolding has_any any_meter any_left any_error_no
  any-done z = go (lengths_for s w t) refl (ltb 0 model && ltb 0 serial) refl (fit0 s.n w) refl first.whole refl
    where
      go : (a : Bool) → lengths_for s w t ≡ a → (b : Bool) → (ltb 0 model && ltb 0 serial) ≡ b
          → (c : Bool) → fit0 s.n w ≡ c → (d : Bool) → first.whole ≡ d
          → (has_any w t s model serial).answer ≡ any_in first.found
      go false p b q c o d h = absurd (omega (arith, rw (p, has_any) at z))
      go true p false q c o d h = absurd (omega (arith, rw (p, has_any, q) at z))
      go true p true q false o d h = absurd (omega (arith, rw (p, has_any, q, o) at z))
      go true p true q true o false h = absurd (omega (arith, rw (p, has_any, q, o, any_meter, h) at z))
      go true p true q true o true h = rw (p, has_any, q, o, any_meter, h)

-- ── List ────────────────────────────────────────────────────────────────────────────────────────────────────────

module _ (w t : List ℕ) (s : Session) (start : ℕ) (ks xs : List ℕ) where
  abbrev listing : Walked
  listing = walk_of s.n s.c (up_from start ks xs) w

  abbrev GivenList : Type 0
  GivenList = Given (list_causes w t s start ks xs) (listed_no (list w t s start ks xs).answer)

  pub list-given : GivenList
  unfolding list list_from list_done list_refused list_error_no
  list-given = go (lengths_for s w t) refl (fit0 s.n w) refl listing.whole refl
    where
      go : (a : Bool) → lengths_for s w t ≡ a → (b : Bool) → fit0 s.n w ≡ b → (c : Bool) → listing.whole ≡ c → GivenList
      go false p b q c h = inl (rw (p, list), bad_lengths w t s p)
      go true p false q c h = inr (good_lengths_lem w t s p, inl (rw (p, list, q), inl q))
      go true p true q false h = inr (good_lengths_lem w t s p, inl (rw (p, list, q, list_from, h), inr (cut_damage s.n s.c (up_from start ks xs) w h)))
      go true p true q true h =
          inr (good_lengths_lem w t s p, inr (whole-range s (up_from start ks xs) w q h, rw (p, list, q, list_from, h)))

  -- done: as many as were found
  pub list_done_lem : listed_no (list w t s start ks xs).answer ≡ 0
      → (list w t s start ks xs).answer ≡ Ok (length listing.found)
  unfolding list list_from list_done list_refused list_error_no
  list_done_lem z = go (lengths_for s w t) refl (fit0 s.n w) refl listing.whole refl
    where
      go : (a : Bool) → lengths_for s w t ≡ a → (b : Bool) → fit0 s.n w ≡ b → (c : Bool) → listing.whole ≡ c
          → (list w t s start ks xs).answer ≡ Ok (length listing.found)
      go false p b q c h = absurd (omega (arith, rw (p, list) at z))
      go true p false q c h = absurd (omega (arith, rw (p, list, q) at z))
      go true p true q false h = absurd (omega (arith, rw (p, list, q, list_from, h) at z))
      go true p true q true h = rw (p, list, q, list_from, h)
