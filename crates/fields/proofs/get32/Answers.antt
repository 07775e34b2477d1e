use mathlib.Core.Path.{◌∙◌}
use Rattle.fields.proofs.Library.{le_at_bytes}
use Rattle.fields.proofs.get32.Goals as goal

pub returns : goal.returns
returns c = let a = c.args in c.from_le_bytes.ensures ∙ le_at_bytes 3 a.b.now c.bytes_at.result a.at c.bytes_at.ensures
