-- Where halving ends among keys, whatever their order.
use Rattle.std.specs.Prelude.{ℕ, zero, suc, ◌+◌, ◌-◌, ◌/◌, true, false, List, leb, length, get_or}

-- how many of a half are passed: all, if its last key is not above k, else none
unfoldable pub passed : ℕ → ℕ → ℕ → ℕ
passed k last half = elim (leb last k) [ true ↦ half | false ↦ 0 ]

-- so many turns over the `left` keys from low on; with none left a turn changes nothing
unfoldable pub halve : ℕ → ℕ → List ℕ → ℕ → ℕ → ℕ
halve zero k ks low left = low
halve (suc turns) k ks low left =
    halve turns k ks (low + passed k (get_or ks (low + (left - left / 2) - 1) 0) (left - left / 2)) (left / 2)

-- there are never more turns than keys
unfoldable pub guess_of : ℕ → List ℕ → ℕ
guess_of k ks = halve (length ks) k ks 0 (length ks)
