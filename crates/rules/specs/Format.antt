-- Format: a stable table with one empty leaf. Working stays.
use Rattle.std.specs.Prelude.{ℕ, true, false, List, [], length, replicate, Ok, Err}
use Rattle.fields.specs.Field.{put_at}
use Rattle.rules.specs.Layout.{zero_kind, leaf_kind, last_key}
use Rattle.rules.specs.Page.{View, fresh}
use Rattle.rules.specs.Table.{build, pages, good_lengths, set_number, set_root}
use Rattle.rules.specs.Answer.{Formatted}
use Rattle.rules.specs.declared.LengthError.{LengthError}

pub record Formatting : Type 0 where
  pub answer : Formatted
  pub stable : List ℕ

unfoldable pub empty_leaf : View
empty_leaf = record { kind = leaf_kind; certs = []; children = [] }

-- all zero; then page 0 with number 2, root 1, previous 0, birth 1; then page 1, an empty leaf over every key
unfoldable pub formatted : ℕ → ℕ → List ℕ
formatted n bytes =
    let named = put_at (put_at (replicate bytes 0) 0 2 zero_kind) 2 2 n in
    build (set_root (set_number named 2) 1 0 1) 1 (fresh 1 1 0 last_key empty_leaf)

unfoldable pub format : List ℕ → List ℕ → Formatting
format w s =
    elim (good_lengths w s) [
      | true ↦ record { answer = Ok tt; stable = formatted (pages s) (length s) }
      | false ↦ record { answer = Err LengthError.Length; stable = s }
    ]
