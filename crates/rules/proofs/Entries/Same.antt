-- Entries in key order are one list if the same stands under each key. Assumes nothing.
use Rattle.std.proofs.Common.{◌≡◌, ℕ, ◌≤◌, Bool, true, false, leb, ◌⊎◌, List, [], ◌∷◌, sym, refl, ap, ◌∙◌, inl, inr, arith, leb-false, leb-true}
use mathlib.Core.Option.{some, some-injective, none-ne-some}
use Rattle.rules.specs.Test.{mem}
use Rattle.rules.specs.Entry.{Entry, keys, find, rising}
use Rattle.rules.proofs.Entries.Tests.{mem_cases}
use Rattle.rules.proofs.Entries.Rises.{rises-mem, rising-from, rising_tail}
use Rattle.rules.proofs.Entries.Entries.{find_head, find_tail, find-below, mem-find}

module _ {B : Type 0} where
  -- nothing before the first key
  found_from : (k : ℕ) (x : Entry B) (xs : List (Entry B)) (v : B) → rising (keys (x ∷ xs)) ≡ true → find k (x ∷ xs) ≡ some v
      → x.key ≤ k
  unfolding keys
  found_from k x xs v r f = go (mem_cases k x.key (keys xs) (mem-find k (x ∷ xs) v f))
    where
      go : (k ≡ x.key) ⊎ (mem k (keys xs) ≡ true) → x.key ≤ k
      go (inl e) = omega (arith, e)
      go (inr m) = omega (arith, rises-mem x.key k (keys xs) (rising-from x.key (keys xs) r) m)

  pub find-same : (xs ys : List (Entry B)) → rising (keys xs) ≡ true → rising (keys ys) ≡ true
      → ((k : ℕ) → find k xs ≡ find k ys) → xs ≡ ys
  unfolding find keys
  find-same [] [] r q f = refl
  find-same [] (y ∷ ys) r q f = absurd (none-ne-some y.value (f y.key ∙ find_head y.key y ys refl))
  find-same (x ∷ xs) [] r q f = absurd (none-ne-some x.value (sym (f x.key) ∙ find_head x.key x xs refl))
  find-same (x ∷ xs) (y ∷ ys) r q f =
      ap (λ (z : Entry B). z ∷ xs) entry
      ∙ ap (λ (zs : List (Entry B)). y ∷ zs) (find-same xs ys (rising_tail x.key (keys xs) r) (rising_tail y.key (keys ys) q) rest)
    where
      there : find x.key (y ∷ ys) ≡ some x.value
      there = sym (f x.key) ∙ find_head x.key x xs refl

      key : x.key ≡ y.key
      key =
          omega (
            arith,
            found_from x.key y ys x.value q there,
            found_from y.key x xs y.value r (f y.key ∙ find_head y.key y ys refl),
          )

      entry : x ≡ y
      entry =
          ap (λ (k : ℕ). record { key = k; value = x.value }) key
          ∙ ap (λ (v : B). record { key = y.key; value = v })
          (some-injective x.value y.value (sym there ∙ find_head x.key y ys key))

      rest : (k : ℕ) → find k xs ≡ find k ys
      rest k = go (leb k x.key) refl
        where
          go : (b : Bool) → leb k x.key ≡ b → find k xs ≡ find k ys
          go true e =
              let l = leb-true k x.key e in
              find-below x.key k xs (rising-from x.key (keys xs) r) l
              ∙ sym (find-below y.key k ys (rising-from y.key (keys ys) q) (omega (arith, l, key)))
          go false e =
              let l = leb-false k x.key e in
              sym (find_tail k x xs (λ h. omega (arith, l, h)))
              ∙ (f k ∙ find_tail k y ys (λ h. omega (arith, l, h, key)))
