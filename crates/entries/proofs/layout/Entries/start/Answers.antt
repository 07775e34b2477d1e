-- `Entries::start`: nothing stands before 0; else what is not below a key is above the one before it.
-- Assumes nothing.
use mathlib.Core.Path.{sym, ◌∙◌}
use native.Mathlib.Omega.{arith}
use borrow.Author.Rules.{rules}
use Rattle.entries.specs.Spot.{start_of}
use Rattle.entries.specs.Layout.{keys_on}
use Rattle.entries.proofs.Cut.{start-spot}
use Rattle.entries.proofs.layout.Entries.start.Goals as goal

pub returns-then-low-eq0 : goal.returns-then-low-eq0
unfolding start_of
returns-then-low-eq0 c = search rules

pub returns : goal.returns
returns c =
    let a = c.args in
    c.spot.ensures ∙ sym (start-spot a.low (keys_on a.self a.page.now) (omega arith))
