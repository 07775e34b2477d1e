-- `split::retire`: the session is the one that releases the page, or the one where it waits. Assumes nothing.
use mathlib.Core.Path.{sym, ◌∙◌}
use Rattle.split.proofs.ByHead.{retire-free, retire-wait}
use Rattle.split.proofs.retire.Goals as goal

pub returns-then-frees : goal.returns-then-frees
returns-then-frees c =
    let args = c.args in
    retire-free args.c args.child args.head args.session (sym c.frees.ensures ∙ c.if-frees.true)

pub returns-else-frees : goal.returns-else-frees
returns-else-frees c =
    let args = c.args in
    retire-wait args.c args.child args.head args.session (sym c.frees.ensures ∙ c.if-frees.false)
