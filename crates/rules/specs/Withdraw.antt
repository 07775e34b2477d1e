-- Withdraw: the way of the key, then its certificate is taken out of its leaf. The leaf stays, even if it is empty.
use Rattle.std.specs.Prelude.{ℕ, true, false, List, Ok, Err}
use Rattle.std.proofs.Math.Option.{some, none}
use Rattle.rules.specs.Key.{key_of, good_parts}
use Rattle.rules.specs.Entry.{find, without}
use Rattle.rules.specs.Page.{View, touch}
use Rattle.rules.specs.Table.{read, shrink, fit0}
use Rattle.rules.specs.Walk.{Step, way_of, certs_at, leaf_at}
use Rattle.rules.specs.Marks.{uncounted}
use Rattle.rules.specs.Call.{Left, lengths_for}
use Rattle.rules.specs.declared.Session.{Session}
use Rattle.rules.specs.Answer.{Withdrawn}
use Rattle.rules.specs.declared.FindError.{FindError}

unfoldable pub without_cert : ℕ → View → View
without_cert k v = record { kind = v.kind; certs = without k v.certs; children = v.children }

-- the later certificates move down, the last place is zeroed, and the leaf is touched now
unfoldable pub removed : ℕ → ℕ → List ℕ → ℕ → List ℕ
removed c k t i = shrink t i (touch c (without_cert k (read t i).view) (read t i))

-- a refused withdrawal leaves what its walk had mended, and nothing else
unfoldable pub withdraw_refused : Withdrawn → Session → List ℕ → List ℕ → Left Withdrawn
withdraw_refused answer s w t = record { answer = answer; session = s; working = w; stable = t }

unfoldable pub withdraw_done : ℕ → Session → List Step → List ℕ → List ℕ → Left Withdrawn
withdraw_done k s way w t = record {
  answer = Ok tt;
  session = uncounted s;
  working = removed s.c k w (leaf_at way);
  stable = t;
}

unfoldable pub withdraw_along : ℕ → Session → List Step → List ℕ → List ℕ → Left Withdrawn
withdraw_along k s way w t =
    elim (find k (certs_at way))
    [ none ↦ withdraw_refused (Err FindError.Missing) s w t | some x ↦ withdraw_done k s way w t ]

unfoldable pub withdraw_key : ℕ → Session → List ℕ → List ℕ → Left Withdrawn
withdraw_key k s w t =
    let way = way_of s.n s.c k w in
    elim way.steps [
      | none ↦ withdraw_refused (Err FindError.Damaged) s way.table t
      | some steps ↦ withdraw_along k s steps way.table t
    ]

unfoldable pub withdraw : List ℕ → List ℕ → Session → ℕ → ℕ → ℕ → Left Withdrawn
withdraw w t s model serial issue =
    elim (lengths_for s w t) [
      | false ↦ withdraw_refused (Err FindError.Length) s w t
      | true ↦ elim (good_parts model serial issue) [
        | false ↦ withdraw_refused (Err FindError.BadKey) s w t
        | true ↦ elim (fit0 s.n w) [
          | false ↦ withdraw_refused (Err FindError.Damaged) s w t
          | true ↦ withdraw_key (key_of model serial issue) s w t
        ]
      ]
    ]
