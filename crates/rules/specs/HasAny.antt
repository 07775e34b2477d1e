-- Has-any answers whether a meter has a certificate.
use Rattle.std.specs.Prelude.{ℕ, true, false, ◌&&◌, List, [], ◌∷◌, nat_lt, Ok, Err}
use Rattle.rules.specs.Layout.{largest_issue}
use Rattle.rules.specs.Key.{key_of}
use Rattle.rules.specs.Entry.{Cert}
use Rattle.rules.specs.Table.{fit0}
use Rattle.rules.specs.Walk.{walk_of}
use Rattle.rules.specs.Call.{Left, lengths_for}
use Rattle.rules.specs.declared.Session.{Session}
use Rattle.rules.specs.Answer.{Any}
use Rattle.rules.specs.declared.AnyError.{AnyError}
use Rattle.rules.specs.declared.Asked.{Asked}

-- the asked range: all issues of one meter, provisional ones too, with room for one certificate. A place is entered while there is
-- room, so the walk ends with the leaf in which the first certificate is found
unfoldable pub first_of : ℕ → ℕ → Asked
first_of model serial = record { low = key_of model serial 1; high = key_of model serial largest_issue; room = 1 }

unfoldable pub any_in : List Cert → Any
any_in [] = Ok false
any_in (x ∷ xs) = Ok true

unfoldable pub any_left : Session → List ℕ → List ℕ → Any → Left Any
any_left s w t answer = record { answer = answer; session = s; working = w; stable = t }

unfoldable pub any_meter : Asked → Session → List ℕ → List ℕ → Left Any
any_meter a s w t =
    let walked = walk_of s.n s.c a w in
    elim walked.whole [
      | false ↦ any_left s walked.table t (Err AnyError.Damaged)
      | true ↦ any_left s walked.table t (any_in walked.found)
    ]

unfoldable pub has_any : List ℕ → List ℕ → Session → ℕ → ℕ → Left Any
has_any w t s model serial =
    elim (lengths_for s w t) [
      | false ↦ any_left s w t (Err AnyError.Length)
      | true ↦ elim (nat_lt 0 model && nat_lt 0 serial) [
        | false ↦ any_left s w t (Err AnyError.BadKey)
        | true ↦ elim (fit0 s.n w)
            [ false ↦ any_left s w t (Err AnyError.Damaged) | true ↦ any_meter (first_of model serial) s w t ]
      ]
    ]
