-- `seek::seek`: among keys that rise halving ends at the spot.
-- Assumes nothing.
use mathlib.Core.Path.{◌∙◌}
use Rattle.entries.specs.Layout.{keys_on}
use Rattle.seek.proofs.Halving.{guess-spot}
use Rattle.seek.proofs.seek.Goals as goal

pub returns : goal.returns
returns c = let a = c.args in c.guess.ensures ∙ guess-spot a.key (keys_on a.entries a.page.now) c.requires.1
