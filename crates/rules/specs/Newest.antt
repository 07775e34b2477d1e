-- Newest answers the largest issue of a meter and its record.
use Rattle.std.specs.Prelude.{ℕ, true, false, ◌&&◌, List, [], ◌∷◌, nat_lt, Err, Ok}
use Rattle.rules.specs.Layout.{last_key, last_final}
use Rattle.rules.specs.Key.{key_of, issue_of}
use Rattle.rules.specs.Entry.{Cert}
use Rattle.rules.specs.Table.{fit0}
use Rattle.rules.specs.Walk.{walk_of}
use Rattle.rules.specs.Call.{Left, lengths_for}
use Rattle.rules.specs.declared.Session.{Session}
use Rattle.rules.specs.Answer.{Newest, newest_is}
use Rattle.rules.specs.declared.FindError.{FindError}
use Rattle.rules.specs.declared.Asked.{Asked}

-- the asked range: issues 1 to 32,767 of one meter, with room for all of them. Those above are provisional: a provisional
-- curve must never be applied in the field
unfoldable pub meter : ℕ → ℕ → Asked
meter model serial = record { low = key_of model serial 1; high = key_of model serial last_final; room = last_key }

-- the last of the certificates found, which rise
unfoldable pub newest_in : List Cert → Newest
newest_in [] = Err FindError.Missing
newest_in (x ∷ []) = Ok (newest_is (issue_of x.key) x.value)
newest_in (x ∷ (y ∷ ys)) = newest_in (y ∷ ys)

unfoldable pub newest_left : Session → List ℕ → List ℕ → Newest → Left Newest
newest_left s w t answer = record { answer = answer; session = s; working = w; stable = t }

unfoldable pub newest_meter : Asked → Session → List ℕ → List ℕ → Left Newest
newest_meter a s w t =
    let walked = walk_of s.n s.c a w in
    elim walked.whole [
      | false ↦ newest_left s walked.table t (Err FindError.Damaged)
      | true ↦ newest_left s walked.table t (newest_in walked.found)
    ]

unfoldable pub newest : List ℕ → List ℕ → Session → ℕ → ℕ → Left Newest
newest w t s model serial =
    elim (lengths_for s w t) [
      | false ↦ newest_left s w t (Err FindError.Length)
      | true ↦ elim (nat_lt 0 model && nat_lt 0 serial) [
        | false ↦ newest_left s w t (Err FindError.BadKey)
        | true ↦ elim (fit0 s.n w)
            [ false ↦ newest_left s w t (Err FindError.Damaged) | true ↦ newest_meter (meter model serial) s w t ]
      ]
    ]
