-- Lookup: each number exactly when document 01's table says, and the record found. Assumes nothing.
use Rattle.std.specs.Prelude.{Ok}
use Prim.Native.Nat.{ℕ}
use native.Mathlib.Omega.{arith}
use mathlib.Core.Path.{◌≡◌, refl, sym, ◌∙◌}
use mathlib.Core.Logic.{inl, inr}
use mathlib.Core.Bool.{Bool, true, false}
use mathlib.Core.List.{List}
use mathlib.Core.Option.{Option, some, none, none-ne-some}
use Rattle.rules.specs.Key.{key_of, good_parts}
use Rattle.rules.specs.Entry.{find}
use Rattle.rules.specs.Table.{fit0}
use Rattle.rules.specs.Walk.{Step, certs_at, way_of}
use Rattle.rules.specs.Call.{looked_no, lengths_for, find_error_no}
use Rattle.rules.specs.Lookup.{lookup, lookup_key, lookup_left, found_in}
use Rattle.rules.specs.declared.Session.{Session}
use Rattle.answers.specs.Given.{Given}
use Rattle.answers.specs.Causes.{lookup_causes, under}
use Rattle.answers.proofs.Meets.{none_damage}
use Rattle.answers.proofs.Tells.{bad_lengths, good_lengths_lem, bad_key, good_key_lem, whole-way, under-steps}

module _ (w t : List ℕ) (s : Session) (model serial issue : ℕ) where
  abbrev k : ℕ
  k = key_of model serial issue

  abbrev GivenLookup : Type 0
  GivenLookup = Given (lookup_causes w t s model serial issue) (looked_no (lookup w t s model serial issue).answer)

  pub lookup-given : GivenLookup
  unfolding lookup lookup_key lookup_left found_in find_error_no
  lookup-given =
      go (lengths_for s w t) refl (good_parts model serial issue) refl (fit0 s.n w) refl
      (way_of s.n s.c k w).steps refl
    where
      found : lengths_for s w t ≡ true → good_parts model serial issue ≡ true → fit0 s.n w ≡ true
          → (steps : List Step) → (way_of s.n s.c k w).steps ≡ some steps
          → (x : Option ℕ) → find k (certs_at steps) ≡ x → GivenLookup
      found p q o steps h none f =
          inr (
            good_lengths_lem w t s p,
            inr (
              good_key_lem model serial issue q,
              inr (
                whole-way s k w o steps h,
                inl (rw (lookup, p, q, o, lookup_key, h, found_in, f), under-steps s k w steps h ∙ f),
              ),
            ),
          )
      found p q o steps h (some x) f =
          inr (
            good_lengths_lem w t s p,
            inr (
              good_key_lem model serial issue q,
              inr (
                whole-way s k w o steps h,
                inr ((λ e. none-ne-some x (sym e ∙ (under-steps s k w steps h ∙ f))), rw (lookup, p, q, o, lookup_key, h, found_in, f)),
              ),
            ),
          )

      go : (a : Bool) → lengths_for s w t ≡ a → (b : Bool) → good_parts model serial issue ≡ b
          → (c : Bool) → fit0 s.n w ≡ c → (o : Option (List Step)) → (way_of s.n s.c k w).steps ≡ o
          → GivenLookup
      go false p b q c o steps h = inl (rw (p, lookup), bad_lengths w t s p)
      go true p false q c o steps h =
          inr (good_lengths_lem w t s p, inl (rw (p, lookup, q), bad_key model serial issue q))
      go true p true q false o steps h =
          inr (good_lengths_lem w t s p, inr (good_key_lem model serial issue q, inl (rw (p, lookup, q, o), inl o)))
      go true p true q true o none h =
          inr (good_lengths_lem w t s p, inr (good_key_lem model serial issue q, inl (rw (p, lookup, q, o, lookup_key, h), inr (none_damage s.n s.c k w h))))
      go true p true q true o (some steps) h = found p q o steps h (find k (certs_at steps)) refl

  -- done: the answer is the record that stands under the key
  pub lookup-done : looked_no (lookup w t s model serial issue).answer ≡ 0
      → (x : ℕ) × ((lookup w t s model serial issue).answer ≡ Ok x) × (under s k w ≡ some x)
  unfolding lookup lookup_key lookup_left found_in find_error_no
  lookup-done z =
      go (lengths_for s w t) refl (good_parts model serial issue) refl (fit0 s.n w) refl
      (way_of s.n s.c k w).steps refl
    where
      Done : Type 0
      Done = (x : ℕ) × ((lookup w t s model serial issue).answer ≡ Ok x) × (under s k w ≡ some x)

      found : lengths_for s w t ≡ true → good_parts model serial issue ≡ true → fit0 s.n w ≡ true
          → (steps : List Step) → (way_of s.n s.c k w).steps ≡ some steps
          → (x : Option ℕ) → find k (certs_at steps) ≡ x → Done
      found p q o steps h none f = absurd (omega (arith, rw (lookup, p, q, o, lookup_key, h, found_in, f) at z))
      found p q o steps h (some x) f =
          (x, rw (lookup, p, q, o, lookup_key, h, found_in, f), under-steps s k w steps h ∙ f)

      go : (a : Bool) → lengths_for s w t ≡ a → (b : Bool) → good_parts model serial issue ≡ b
          → (c : Bool) → fit0 s.n w ≡ c → (o : Option (List Step)) → (way_of s.n s.c k w).steps ≡ o → Done
      go false p b q c o steps h = absurd (omega (arith, rw (p, lookup) at z))
      go true p false q c o steps h = absurd (omega (arith, rw (p, lookup, q) at z))
      go true p true q false o steps h = absurd (omega (arith, rw (p, lookup, q, o) at z))
      go true p true q true o none h = absurd (omega (arith, rw (p, lookup, q, o, lookup_key, h) at z))
      go true p true q true o (some steps) h = found p q o steps h (find k (certs_at steps)) refl
