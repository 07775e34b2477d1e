-- `head::cert_record`: the field of an entry is a field of the page, further on.
-- Assumes nothing.
use Rattle.rules.specs.Page.{cert_in}
use Rattle.head.specs.Head.{cert_at}
use Rattle.fields.proofs.Field.{le_at-drop}
use Rattle.head.proofs.cert_record.Goals as goal

pub returns : goal.returns
unfolding cert_at cert_in
returns c = rw (c.get32.ensures, le_at-drop)
