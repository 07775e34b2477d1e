-- List fills two lent lists from a start key upwards, and says how many.
use Rattle.std.specs.Prelude.{ℕ, min, true, false, List, [], ◌∷◌, length, Ok, Err}
use Rattle.rules.specs.Layout.{last_key}
use Rattle.rules.specs.Entry.{Cert, keys}
use Rattle.rules.specs.Page.{over}
use Rattle.rules.specs.Table.{fit0}
use Rattle.rules.specs.Walk.{walk_of}
use Rattle.rules.specs.Call.{lengths_for}
use Rattle.rules.specs.declared.Session.{Session}
use Rattle.rules.specs.Answer.{Listed}
use Rattle.rules.specs.declared.ListError.{ListError}
use Rattle.rules.specs.declared.Asked.{Asked}

-- a listing leaves the two lists too
pub record ListLeft : Type 0 where
  pub answer : Listed
  pub session : Session
  pub working : List ℕ
  pub stable : List ℕ
  pub keys : List ℕ
  pub records : List ℕ

-- the asked range: from the start upwards, up to the shorter list
unfoldable pub up_from : ℕ → List ℕ → List ℕ → Asked
up_from start ks xs = record { low = start; high = last_key; room = min (length ks) (length xs) }

unfoldable pub records_of : List Cert → List ℕ
records_of [] = []
records_of (x ∷ xs) = x.value ∷ records_of xs

-- the first places hold what was read on entering; places beyond stay
unfoldable pub list_done : Session → List ℕ → List ℕ → List Cert → List ℕ → List ℕ → ListLeft
list_done s w t found ks xs = record {
  answer = Ok (length found);
  session = s;
  working = w;
  stable = t;
  keys = over (keys found) ks;
  records = over (records_of found) xs;
}

-- a refused listing changes neither list
unfoldable pub list_refused : Listed → Session → List ℕ → List ℕ → List ℕ → List ℕ → ListLeft
list_refused answer s w t ks xs = record {
  answer = answer;
  session = s;
  working = w;
  stable = t;
  keys = ks;
  records = xs;
}

unfoldable pub list_from : Session → List ℕ → List ℕ → ℕ → List ℕ → List ℕ → ListLeft
list_from s w t start ks xs =
    let walked = walk_of s.n s.c (up_from start ks xs) w in
    elim walked.whole [
      | false ↦ list_refused (Err ListError.Damaged) s walked.table t ks xs
      | true ↦ list_done s walked.table t walked.found ks xs
    ]

unfoldable pub list : List ℕ → List ℕ → Session → ℕ → List ℕ → List ℕ → ListLeft
list w t s start ks xs =
    elim (lengths_for s w t) [
      | false ↦ list_refused (Err ListError.Length) s w t ks xs
      | true ↦ elim (fit0 s.n w)
          [ false ↦ list_refused (Err ListError.Damaged) s w t ks xs | true ↦ list_from s w t start ks xs ]
    ]
