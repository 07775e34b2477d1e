-- `insert::is_present`: found, with any record, is there.
-- Assumes nothing.
use mathlib.Core.Path.{◌∙◌}
use Rattle.rules.specs.Entry.{find}
use Rattle.rules.specs.Table.{read}
use Rattle.insert.proofs.Along.{found-present}
use Rattle.insert.proofs.is_present.Goals as goal

pub returns : goal.returns
returns c =
    c.is_ok.ensures.value ∙ found-present (find c.args.key (read c.args.table.now c.args.leaf.place.child).view.certs) c.find_at.result c.find_at.ensures
