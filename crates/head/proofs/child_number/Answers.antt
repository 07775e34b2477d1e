-- `head::child_number`: the field of an entry is a field of the page, further on.
-- Assumes nothing.
use Rattle.rules.specs.Page.{child_in}
use Rattle.head.specs.Head.{child_at}
use Rattle.fields.proofs.Field.{le_at-drop}
use Rattle.head.proofs.child_number.Goals as goal

pub returns : goal.returns
unfolding child_at child_in
returns c = rw (c.get16.ensures, le_at-drop)
