-- Where halving ends on a page that nobody has tested.
use Rattle.std.specs.Prelude.{ℕ, true, false, List, ltb, eqb}
use Rattle.fields.specs.Field.{le_at}
use Rattle.rules.specs.Layout.{leaf_kind, leaf_header, inner_header, cert_size, child_size, leaf_room, inner_room}
use Rattle.entries.specs.Spot.{keys_in}
use Rattle.seek.specs.Guess.{guess_of}

-- among as many entries as the page says it has; with more than there is room for it ends before the first
unfoldable pub ahead_in : ℕ → ℕ → ℕ → ℕ → List ℕ → ℕ
ahead_in room header size k b =
    elim (ltb room (le_at b 2 2)) [ true ↦ 0 | false ↦ guess_of k (keys_in header size (le_at b 2 2) b) ]

-- in a leaf for one key, in an inner page for another
unfoldable pub ahead_of : ℕ → ℕ → List ℕ → ℕ
ahead_of key upto b =
    elim (eqb (le_at b 0 2) leaf_kind)
    [ true ↦ ahead_in leaf_room leaf_header cert_size upto b | false ↦ ahead_in inner_room inner_header child_size key b ]
