-- A list without room enters no page, in tables of any bytes.
use Prim.Native.Nat.{ℕ, min}
use mathlib.Core.Path.{◌≡◌, refl, ap}
use mathlib.Core.Bool.{Bool, true, false}
use mathlib.Core.List.{List, []}
use lib.ListN.{length}
use Rattle.rules.specs.Entry.{keys}
use Rattle.rules.specs.Page.{over}
use Rattle.rules.specs.Table.{fit0}
use Rattle.rules.specs.Walk.{Walked}
use Rattle.rules.specs.Call.{lengths_for}
use Rattle.rules.specs.List.{up_from, records_of, list_refused, list_done, list_from, list}
use Rattle.rules.specs.declared.Session.{Session}
use Rattle.rules.proofs.Demand1.WalkSteps.{walk_none}
use Rattle.reading.specs.Leaving.{NothingListed, EmptyList}

from-none : (s : Session) (w t : List ℕ) (start : ℕ) (ks xs : List ℕ) → min (length ks) (length xs) ≡ 0
    → list_from s w t start ks xs ≡ list_done s w t [] ks xs
unfolding list_from up_from
from-none s w t start ks xs h =
    let q = walk_none s.n s.c (up_from start ks xs) w h in
    rw (ap (λ (y : Walked). y.whole) q, list_from) (ap (λ (y : Walked). list_done s y.table t y.found ks xs) q)

done_none : (s : Session) (w t ks xs : List ℕ) → NothingListed w ks xs (list_done s w t [] ks xs)
unfolding list_done over keys records_of
done_none s w t ks xs = record { working = refl; keys = refl; records = refl }

pub empty-list : EmptyList
unfolding EmptyList list list_refused
empty-list w t s start ks xs h = go (lengths_for s w t) refl (fit0 s.n w) refl
  where
    go : (a : Bool) → lengths_for s w t ≡ a → (b : Bool) → fit0 s.n w ≡ b → NothingListed w ks xs (list w t s start ks xs)
    go false p b q = rw (list, p) (record { working = refl; keys = refl; records = refl })
    go true p false q = rw (list, p, q) (record { working = refl; keys = refl; records = refl })
    go true p true q = rw (list, p, q) (rw (from-none s w t start ks xs h) (done_none s w t ks xs))
