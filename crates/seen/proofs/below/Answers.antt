-- `seen::below`: none below 0, else those up to the number before.
-- Assumes nothing.
use Rattle.std.proofs.Common.{ℕ, ◌≡◌, ◌-◌, sym, ap, ◌∙◌, arith}
use Rattle.seen.specs.Run.{entries_from, up_to}
use Rattle.seen.proofs.Cuts.{below_none, below-some}
use Rattle.seen.proofs.below.Goals as goal

pub returns-then-low-eq0 : goal.returns-then-low-eq0
returns-then-low-eq0 c =
    let args = c.args in
    sym (below_none args.low (entries_from 0 args.count args.page.now) c.if-low-eq0.true)

pub returns : goal.returns
returns c =
    let args = c.args in
    let all : args.count - 0 ≡ args.count = omega arith in
    c.up_to.ensures
    ∙ ap (λ (i : ℕ). up_to (args.low - 1) (entries_from 0 i args.page.now)) all
    ∙ sym (below-some args.low (entries_from 0 args.count args.page.now) c.if-low-eq0.false)
