-- The spot of a key: one entry passed, and the first that is not.
-- Assumes nothing.
use mathlib.Core.Path.{◌≡◌}
use mathlib.Core.List.{List}
use Prim.Native.Nat.{ℕ, suc, ◌+◌, ◌*◌, ◌≤◌, ◌<◌}
use native.Mathlib.Nat.{mul-suc, mul-le-mul_left}
use native.Mathlib.Numerals.{add-one}
use native.Mathlib.Omega.{arith}
use lib.ListN.{length, get_or, drop, drop_of_length-le}
use lib.Seq.{drop-cons}
use Rattle.entries.specs.Spot.{spot_of}
use Rattle.entries.proofs.Cut.{spot-cons, spot-first}

-- one more entry of a page lies within as many bytes as all of them take
pub within : (size j n : ℕ) → j < n → size * j + size ≤ size * n
within size j n h = rw mul-suc at (mul-le-mul_left size h)

module _ (k j : ℕ) (ks : List ℕ) where
  pub spot_pass : j < length ks → get_or ks j 0 ≤ k → spot_of k (drop j ks) ≡ 1 + spot_of k (drop (j + 1) ks)
  spot_pass h l = rw (drop-cons ks j 0 h, spot-cons k (get_or ks j 0) (drop (suc j) ks) l, add-one) (omega arith)

  pub spot_stop : j < length ks → k < get_or ks j 0 → spot_of k (drop j ks) ≡ 0
  spot_stop h l = rw (drop-cons ks j 0 h, spot-first k (get_or ks j 0) (drop (suc j) ks) l)

  pub spot-end : length ks ≤ j → spot_of k (drop j ks) ≡ 0
  unfolding spot_of
  spot-end h = rw (drop_of_length-le ks h)
