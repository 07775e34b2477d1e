-- Entering one place: its page if it fits, else the page mended from its previous page, else nothing.
use Rattle.std.specs.Prelude.{ℕ, true, false, List}
use Rattle.std.proofs.Math.Option.{Option, some, none}
use Rattle.rules.specs.Test.{mem}
use Rattle.rules.specs.Page.{Page}
use Rattle.rules.specs.Table.{read, build}
use Rattle.rules.specs.Place.{fits, mendable, mended}
use Rattle.rules.specs.declared.Place.{Place}

-- what entering leaves and finds; no page: the place is damaged
pub record Entered : Type 0 where
  pub table : List ℕ
  pub page : Option Page

abbrev pub damaged : List ℕ → Entered
damaged t = record { table = t; page = none }

-- a child that doesn't fit is lost: it is mended where it can be
unfoldable pub mend : ℕ → ℕ → List ℕ → Place → Entered
mend n c t e =
    elim (mendable n e (read t e.previous)) [
      | true ↦
          let p = mended c e (read t e.previous) in
          record { table = build t e.child p; page = some p }
      | false ↦ damaged t
    ]

-- above: the numbers of the pages above on the way from the root; a child among them is damaged
unfoldable pub enter : ℕ → ℕ → List ℕ → List ℕ → Place → Entered
enter n c above t e =
    elim (mem e.child above) [
      | true ↦ damaged t
      | false ↦ elim (fits n e (read t e.child))
          [ true ↦ record { table = t; page = some (read t e.child) } | false ↦ mend n c t e ]
    ]
