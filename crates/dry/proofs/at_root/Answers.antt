-- `dry::at_root`: two runs of no entries. Assumes nothing.
use mathlib.Core.Path.{refl}
use Rattle.dry.specs.Cursor.{at_root}
use Rattle.dry.proofs.Turns.{run_none, way_none}
use Rattle.dry.proofs.at_root.Goals as goal

pub returns : goal.returns
unfolding at_root
returns c =
    let d = c.default.ensures in
    let upper = run_none d.1.1.0.0 d.1.1.0.1.0 d.1.1.0.1.1.0 d.1.1.0.1.1.1 in
    let lower = run_none d.1.1.1.1.0.0 d.1.1.1.1.0.1.0 d.1.1.1.1.0.1.1.0 d.1.1.1.1.0.1.1.1 in
    way_none refl d.1.0 upper d.1.1.1.0 lower d.1.1.1.1.1
