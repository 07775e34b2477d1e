-- The certificate key: model, serial and issue in one number that orders them.
use Rattle.std.specs.Prelude.{ℕ, ◌+◌, ◌*◌, ◌/◌, ◌%◌, ◌^◌, Bool, [], ◌∷◌, nat_lt}
use Rattle.rules.specs.Test.{every}

unfoldable pub key_of : ℕ → ℕ → ℕ → ℕ
key_of model serial issue = model * 2 ^ 48 + serial * 2 ^ 16 + issue

-- the parts of a key
unfoldable pub model_of : ℕ → ℕ
model_of k = k / 2 ^ 48

unfoldable pub serial_of : ℕ → ℕ
serial_of k = k / 2 ^ 16 % 2 ^ 32

unfoldable pub issue_of : ℕ → ℕ
issue_of k = k % 2 ^ 16

-- no part is zero: what a call asks of its key, and a sound leaf of its entries
unfoldable pub good_parts : ℕ → ℕ → ℕ → Bool
good_parts model serial issue = every (nat_lt 0 model ∷ nat_lt 0 serial ∷ nat_lt 0 issue ∷ [])

unfoldable pub good_key : ℕ → Bool
good_key k = good_parts (model_of k) (serial_of k) (issue_of k)
