-- Lookup answers the record of a certificate.
use Rattle.std.specs.Prelude.{ℕ, true, false, List, Ok, Err}
use Rattle.std.proofs.Math.Option.{some, none}
use Rattle.rules.specs.Key.{key_of, good_parts}
use Rattle.rules.specs.Entry.{find}
use Rattle.rules.specs.Table.{fit0}
use Rattle.rules.specs.Walk.{Step, way_of, certs_at}
use Rattle.rules.specs.Call.{Left, lengths_for}
use Rattle.rules.specs.declared.Session.{Session}
use Rattle.rules.specs.Answer.{Looked}
use Rattle.rules.specs.declared.FindError.{FindError}

unfoldable pub found_in : ℕ → List Step → Looked
found_in k steps = elim (find k (certs_at steps)) [ some x ↦ Ok x | none ↦ Err FindError.Missing ]

-- what a lookup answers, with what its walk mended
unfoldable pub lookup_left : Session → List ℕ → List ℕ → Looked → Left Looked
lookup_left s w t answer = record { answer = answer; session = s; working = w; stable = t }

unfoldable pub lookup_key : ℕ → Session → List ℕ → List ℕ → Left Looked
lookup_key k s w t =
    let way = way_of s.n s.c k w in
    elim way.steps [
      | none ↦ lookup_left s way.table t (Err FindError.Damaged)
      | some steps ↦ lookup_left s way.table t (found_in k steps)
    ]

unfoldable pub lookup : List ℕ → List ℕ → Session → ℕ → ℕ → ℕ → Left Looked
lookup w t s model serial issue =
    elim (lengths_for s w t) [
      | false ↦ lookup_left s w t (Err FindError.Length)
      | true ↦ elim (good_parts model serial issue) [
        | false ↦ lookup_left s w t (Err FindError.BadKey)
        | true ↦ elim (fit0 s.n w) [
          | false ↦ lookup_left s w t (Err FindError.Damaged)
          | true ↦ lookup_key (key_of model serial issue) s w t
        ]
      ]
    ]
