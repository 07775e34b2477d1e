-- An empty list enters no page: with no room the walk ends before the root, and the table stays. Assumes nothing.
use Rattle.std.specs.Prelude.{Ok}
use mathlib.Core.Path.{◌≡◌, refl, sym, ap}
use mathlib.Core.Bool.{true}
use mathlib.Core.List.{List}
use Prim.Native.Nat.{ℕ, min}
use lib.ListN.{length}
use Rattle.rules.specs.Entry.{keys}
use Rattle.rules.specs.Page.{over}
use Rattle.rules.specs.Table.{fit0}
use Rattle.rules.specs.Call.{lengths_for}
use Rattle.rules.specs.Report.{nothing}
use Rattle.rules.specs.Reports.{list_reported}
use Rattle.rules.specs.List as rules
use Rattle.rules.specs.declared.Session.{Session}
use Rattle.rules.proofs.Demand1.WalkSteps.{walk_none}
use Rattle.list.specs.Lists.{telling, sought, told}
use Rattle.list.proofs.Calls.{handed, answers}

-- an empty list is done with nothing written, whatever the root is
pub list-empty : (w t : List ℕ) (s : Session) (start : ℕ) (ks xs : List ℕ) → lengths_for s w t ≡ true → fit0 s.n w ≡ true
    → min (length ks) (length xs) ≡ 0 → handed s t (telling w (sought (Ok 0) nothing) ks xs) ≡ list_reported w t s start ks xs
unfolding told over keys rules.records_of rules.up_from
list-empty w t s start ks xs h z e =
    answers w t s refl refl start ks xs h z (rules.up_from start ks xs) refl w (sought (Ok 0) nothing) ks xs
    (ap (told ks xs) (sym (walk_none s.n s.c (rules.up_from start ks xs) w e)))
