-- `list::list`: the lean call, with the session as it came beside it. Assumes nothing.
use mathlib.Core.Path.{refl}
use Rattle.list.proofs.list.Goals as goal

pub returns : goal.returns
returns c =
    let args = c.args in
    c.lean-sought.ensures args.session refl refl
