-- `dry::due_root`: the root, and nothing behind it. Assumes nothing.
use mathlib.Core.Path.{ap, ◌∙◌}
use Rattle.rules.specs.Place.{root_place}
use Rattle.rules.specs.declared.Place.{Place}
use Rattle.dry.specs.Cursor.{spot_at, due_root}
use Rattle.dry.specs.declared.Cursor.{Cursor}
use Rattle.dry.proofs.Turns.{run_none, way_none}
use Rattle.dry.proofs.due_root.Goals as goal

pub returns : goal.returns
unfolding due_root
returns c =
    let d = c.default.ensures in
    let upper = run_none d.1.1.0.0 d.1.1.0.1.0 d.1.1.0.1.1.0 d.1.1.0.1.1.1 in
    let lower = run_none d.1.1.1.1.0.0 d.1.1.1.1.0.1.0 d.1.1.1.1.0.1.1.0 d.1.1.1.1.0.1.1.1 in
    ap (λ (e : Place). spot_at 3 0 0 e c.default.result) c.root_place.ensures
    ∙ ap (λ (x : Cursor). spot_at 3 0 0 (root_place c.args.table.bytes.now) x) (way_none d.0 d.1.0 upper d.1.1.1.0 lower d.1.1.1.1.1)
