-- Where certificates rise, a listing from a meter's first issue on shows something of the meter exactly if a walk with room for
-- one certificate finds something. Assumes nothing.
use Prim.Native.Nat.{ℕ, zero, suc, ◌≤◌, ◌<◌}
use native.Mathlib.Omega.{arith}
use mathlib.Core.Path.{◌≡◌, refl, sym, ap, ◌∙◌}
use mathlib.Core.Bool.{Bool, true, false}
use mathlib.Core.Logic.{◌⊎◌, inl, inr}
use mathlib.Core.List.{List, [], ◌∷◌}
use lib.ListN.{take}
use Rattle.rules.specs.Layout.{last_key}
use Rattle.rules.specs.Test.{between, all}
use Rattle.rules.specs.Entry.{Cert, keys, cut, rising}
use Rattle.rules.specs.HasAny.{any_in}
use Rattle.rules.proofs.Entries.Tests.{all_head, between-low, between-above, between_cases}
use Rattle.rules.proofs.Entries.Rises.{rises-mem, rising-from, rising-take, keys-take}
use Rattle.rules.proofs.Entries.Entries.{cut_in, cut_out, cut-none, cut-cut, cut-within, cut-rising}

module _ (low high : ℕ) where
  -- the first is above the range, and so are all
  none-shown : (y : Cert) (ys : List Cert) → rising (keys (y ∷ ys)) ≡ true → high < y.key → cut low high (y ∷ ys) ≡ []
  unfolding keys
  none-shown y ys r h =
      cut_out low high y ys (between-above low high y.key h)
      ∙ cut-none low high ys (λ k m. between-above low high k (omega (arith, rises-mem y.key k (keys ys) (rising-from y.key (keys ys) r) m)))

  -- of keys that are not below the range, the first says it
  first_says : (m : ℕ) (ys : List Cert) → rising (keys ys) ≡ true → all (between low last_key) (keys ys) ≡ true
      → any_in (take 1 (cut low high ys)) ≡ any_in (cut low high (take (suc m) ys))
  unfolding any_in keys cut
  first_says m [] r w = refl
  first_says m (y ∷ ys) r w = go (between low high y.key) refl
    where
      from : low ≤ y.key
      from = between-low low last_key y.key (all_head (between low last_key) y.key (keys ys) w)

      rest : rising (keys (y ∷ take m ys)) ≡ true
      rest = ap rising (keys-take (suc m) (y ∷ ys)) ∙ rising-take (suc m) (keys (y ∷ ys)) r

      above : (y.key < low) ⊎ (high < y.key) → high < y.key
      above (inl h) = absurd (omega (arith, h, from))
      above (inr h) = h

      go : (b : Bool) → between low high y.key ≡ b
          → any_in (take 1 (cut low high (y ∷ ys))) ≡ any_in (cut low high (y ∷ take m ys))
      go true b = ap (λ (xs : List Cert). any_in (take 1 xs)) (cut_in low high y ys b) ∙ sym (ap any_in (cut_in low high y (take m ys) b))
      go false b =
          let h = above (between_cases low high y.key b) in
          ap (λ (xs : List Cert). any_in (take 1 xs)) (none-shown y ys r h) ∙ sym (ap any_in (none-shown y (take m ys) rest h))

  pub first-shown : (certs : List Cert) → rising (keys certs) ≡ true → high ≤ last_key → (m : ℕ) → 0 < m
      → any_in (take 1 (cut low high certs)) ≡ any_in (cut low high (take m (cut low last_key certs)))
  first-shown certs r h zero l = absurd (omega arith)
  first-shown certs r h (suc m) l =
      ap (λ (xs : List Cert). any_in (take 1 xs)) (sym (cut-cut low last_key low high certs (omega arith) h))
      ∙ first_says m (cut low last_key certs) (cut-rising low last_key certs r) (cut-within low last_key certs)
