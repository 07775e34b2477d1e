-- `read::enter`: what the insert leaves, one more if it was done, its report behind those before. Assumes nothing.
use Prim.Native.Nat.{◌+◌}
use mathlib.Core.Path.{ap, ◌∙◌}
use mir.Val.{bool_byte}
use Rattle.read.proofs.Turns.{more-is, done-more}
use Rattle.read.proofs.enter.Goals as goal

pub returns : goal.returns
returns c =
    let a = c.args in
    let i = c.insert-inserted in
    more-is a.working.now a.stable.now a.made a.certificate i.result i.new.working (a.made.done + c.from.result) c.join.result
    i.ensures
    (ap (λ n. a.made.done + n) (c.from.ensures ∙ ap bool_byte c.is_ok.ensures.value) ∙ done-more a.made.done i.result.answer)
    c.join.ensures
