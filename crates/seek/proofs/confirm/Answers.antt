-- `seek::confirm`: a guess that stands is the spot, and any other is sought.
-- Assumes nothing.
use mathlib.Core.Path.{sym, ◌∙◌}
use borrow.Author.Tests.{eqb-true}
use Rattle.entries.specs.Spot.{spot_of}
use Rattle.entries.specs.Layout.{keys_on}
use Rattle.seek.proofs.confirm.Goals as goal

pub returns-then-stands : goal.returns-then-stands
returns-then-stands c =
    let a = c.args in
    eqb-true a.guess (spot_of a.key (keys_on a.entries a.page.now)) (sym c.stands.ensures ∙ c.if-stands.true)
