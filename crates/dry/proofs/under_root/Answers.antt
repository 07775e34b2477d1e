-- `dry::under_root`: the lower run has no entries. Assumes nothing.
use mathlib.Core.Path.{refl}
use Rattle.dry.proofs.Turns.{run_none, way_none}
use Rattle.dry.proofs.under_root.Goals as goal

pub returns : goal.returns
returns c =
    let d = c.default.ensures in
    way_none d.0 refl refl d.1.1.1.0 (run_none d.1.1.1.1.0.0 d.1.1.1.1.0.1.0 d.1.1.1.1.0.1.1.0 d.1.1.1.1.0.1.1.1) d.1.1.1.1.1
