-- `head::page_at`: the part lent is the page.
-- Assumes nothing.
use native.Mathlib.Nat.{add-sub_cancel_left}
use Rattle.rules.specs.Table.{page_at}
use Rattle.head.proofs.page_at.Goals as goal

pub returns-clause-bytes : goal.returns-clause-bytes
unfolding page_at
returns-clause-bytes c = rw add-sub_cancel_left
