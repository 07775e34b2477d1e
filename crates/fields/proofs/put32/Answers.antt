use mathlib.Core.Path.{◌∙◌}
use Rattle.fields.proofs.Library.{put_at_bytes}
use Rattle.fields.proofs.put32.Goals as goal

pub returns : goal.returns
returns c =
    let a = c.args in
    put_at_bytes a.b.now c.copy_from_slice.new.self a.at 4 a.v (c.copy_from_slice.ensures.after ∙ c.to_le_bytes.ensures) c.requires
