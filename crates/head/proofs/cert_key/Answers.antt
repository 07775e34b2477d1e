-- `head::cert_key`: the field of an entry is a field of the page, further on.
-- Assumes nothing.
use Rattle.rules.specs.Page.{cert_in}
use Rattle.head.specs.Head.{cert_at}
use Rattle.fields.proofs.Field.{le_at-drop}
use native.Mathlib.Nat.{add-zero}
use Rattle.head.proofs.cert_key.Goals as goal

pub returns : goal.returns
unfolding cert_at cert_in
returns c = rw (c.get64.ensures, le_at-drop, add-zero)
