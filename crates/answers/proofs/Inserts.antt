-- Insert: each number exactly when document 01's table says. Assumes nothing.
use Prim.Native.Nat.{ℕ}
use mathlib.Core.Path.{◌≡◌, refl, sym, ◌∙◌}
use mathlib.Core.Logic.{inl, inr}
use mathlib.Core.Bool.{Bool, true, false}
use mathlib.Core.List.{List, [], ◌∷◌}
use mathlib.Core.Option.{Option, some, none, none-ne-some}
use Rattle.rules.specs.Key.{key_of, good_parts}
use Rattle.rules.specs.Entry.{find}
use Rattle.rules.specs.Table.{fit0}
use Rattle.rules.specs.Walk.{Step, numbers, certs_at, way_of}
use Rattle.rules.specs.Marks.{free_pages}
use Rattle.rules.specs.Call.{inserted_no, lengths_for, insert_error_no}
use Rattle.rules.specs.Insert.{insert, insert_key, insert_along, insert_done, insert_refused, splitting, too_soon, no_room}
use Rattle.rules.specs.declared.Session.{Session}
use Rattle.rules.proofs.Entries.Tests.{not_both}
use Rattle.answers.specs.Given.{Cause, Given, ◌when◌}
use Rattle.answers.specs.Causes.{insert_causes, entered, Present, SyncFirst, Full}
use Rattle.answers.proofs.Meets.{none_damage}
use Rattle.answers.proofs.Tells.{bad_lengths, good_lengths_lem, bad_key, good_key_lem, whole-way, entered-steps, under-steps, is_full_lem, not_full}

-- ── Along a whole way: 5, 6, 7 ──────────────────────────────────────────────────────────────────────────────────

abbrev later_causes : Session → ℕ → List ℕ → List Cause
later_causes s k w =
    (5 when Present s k w) ∷ (6 when SyncFirst s (entered s k w)) ∷ (7 when Full s (entered s k w)) ∷ []

module _ (k x : ℕ) (s : Session) (w u t : List ℕ) (steps : List Step) (h : (way_of s.n s.c k w).steps ≡ some steps) where
  abbrev GivenLater : Type 0
  GivenLater = Given (later_causes s k w) (inserted_no (insert_along k x s steps u t).answer)

  along_given : GivenLater
  unfolding insert_along insert_refused insert_done insert_error_no
  along_given =
      go (find k (certs_at steps)) refl (too_soon s.c (splitting steps)) refl
      (no_room steps (free_pages s (numbers steps))) refl
    where
      absent : find k (certs_at steps) ≡ none → Present s k w → ⊥
      absent f e = none-ne-some e.0 (sym (under-steps s k w steps h ∙ f) ∙ e.1)

      in_time : too_soon s.c (splitting steps) ≡ false → SyncFirst s (entered s k w) → ⊥
      in_time a e = not_both e (rw (entered-steps s k w steps h) a)

      go : (y : Option ℕ) → find k (certs_at steps) ≡ y → (a : Bool) → too_soon s.c (splitting steps) ≡ a
          → (b : Bool) → no_room steps (free_pages s (numbers steps)) ≡ b → GivenLater
      go (some y) f a p b q = inl (rw (insert_along, f), (y, under-steps s k w steps h ∙ f))
      go none f true p b q = inr (absent f, inl (rw (insert_along, f, p), rw (entered-steps s k w steps h) p))
      go none f false p true q =
          inr (absent f, inr (in_time p, inl (rw (insert_along, f, p, q), rw (entered-steps s k w steps h) (is_full_lem s steps q))))
      go none f false p false q =
          inr (absent f, inr (in_time p, inr ((λ e. not_full s steps q (rw (entered-steps s k w steps h) at e)), rw (insert_along, f, p, q))))

-- ── The call ────────────────────────────────────────────────────────────────────────────────────────────────────

module _ (w t : List ℕ) (s : Session) (model serial issue x : ℕ) where
  abbrev k : ℕ
  k = key_of model serial issue

  abbrev GivenInsert : Type 0
  GivenInsert = Given (insert_causes w t s model serial issue) (inserted_no (insert w t s model serial issue x).answer)

  pub insert-given : GivenInsert
  unfolding insert insert_key insert_refused insert_error_no
  insert-given =
      go (lengths_for s w t) refl (good_parts model serial issue) refl (fit0 s.n w) refl
      (way_of s.n s.c k w).steps refl
    where
      go : (a : Bool) → lengths_for s w t ≡ a → (b : Bool) → good_parts model serial issue ≡ b
          → (c : Bool) → fit0 s.n w ≡ c → (o : Option (List Step)) → (way_of s.n s.c k w).steps ≡ o
          → GivenInsert
      go false p b q c o steps h = inl (rw (p, insert), bad_lengths w t s p)
      go true p false q c o steps h =
          inr (good_lengths_lem w t s p, inl (rw (p, insert, q), bad_key model serial issue q))
      go true p true q false o steps h =
          inr (good_lengths_lem w t s p, inr (good_key_lem model serial issue q, inl (rw (p, insert, q, o), inl o)))
      go true p true q true o none h =
          inr (good_lengths_lem w t s p, inr (good_key_lem model serial issue q, inl (rw (p, insert, q, o, insert_key, h), inr (none_damage s.n s.c k w h))))
      go true p true q true o (some steps) h =
          inr (
            good_lengths_lem w t s p,
            inr (
              good_key_lem model serial issue q,
              inr (
                whole-way s k w o steps h,
                later (along_given k x s w (way_of s.n s.c k w).table t steps h),
              ),
            ),
          )
        where
          same : insert w t s model serial issue x ≡ insert_along k x s steps (way_of s.n s.c k w).table t
          same = rw (p, insert, q, o, insert_key, h)

          later : Given (later_causes s k w) (inserted_no (insert_along k x s steps (way_of s.n s.c k w).table t).answer)
              → Given (later_causes s k w) (inserted_no (insert w t s model serial issue x).answer)
          later g = rw same g
