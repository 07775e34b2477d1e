-- Keys that rise in a range are at most as many as its numbers, so newest never wants for room. Assumes nothing.
use Prim.Native.Nat.{ℕ, suc, ◌+◌, ◌-◌, ◌≤◌}
use native.Mathlib.Omega.{arith}
use mathlib.Core.Path.{◌≡◌}
use mathlib.Core.Bool.{true}
use mathlib.Core.List.{List, [], ◌∷◌}
use lib.ListN.{length}
use Rattle.rules.specs.Test.{between, all, mem}
use Rattle.rules.specs.Entry.{Cert, keys, cut, rising}
use Rattle.rules.proofs.Entries.Tests.{between-low, between-high, all-mem, mem-head, mem_tail}
use Rattle.rules.proofs.Entries.Rises.{rises-mem, rising-from, rising_tail, length-keys}
use Rattle.rules.proofs.Entries.Entries.{cut-within, cut-rising, mem-cut}

few : (low high : ℕ) (ks : List ℕ) → rising ks ≡ true → ((k : ℕ) → mem k ks ≡ true → (low ≤ k) × (k ≤ high)) → length ks ≤ high + 1 - low
few low high [] r h = omega arith
few low high (k ∷ ks) r h =
    let x = h k (mem-head k ks) in
    let y = few (suc k) high ks (rising_tail k ks r)
    (λ j m. (rises-mem k j ks (rising-from k ks r) m, (h j (mem_tail j k ks m)).1)) in
    omega (arith, x.0, x.1, y)

module _ (low high : ℕ) (xs : List Cert) (r : rising (keys xs) ≡ true) where
  count_cut : (last : ℕ) → ((k : ℕ) → mem k (keys (cut low high xs)) ≡ true → k ≤ last) → length (cut low high xs) ≤ last + 1 - low
  count_cut last h =
      let z = few low last (keys (cut low high xs)) (cut-rising low high xs r)
      (λ k m. (between-low low high k (all-mem (between low high) k (keys (cut low high xs)) (cut-within low high xs) m), h k m)) in
      omega (arith, z, length-keys (cut low high xs))

  pub few-asked : length (cut low high xs) ≤ high + 1 - low
  few-asked =
      count_cut high
      (λ k m. between-high low high k (all-mem (between low high) k (keys (cut low high xs)) (cut-within low high xs) m))

  -- those of a page are no more than its range allows
  pub few-within : (from to : ℕ) → all (between from to) (keys xs) ≡ true → length (cut low high xs) ≤ to + 1 - low
  few-within from to w =
      count_cut to (λ k m. between-high from to k (all-mem (between from to) k (keys xs) w (mem-cut low high k xs m)))
