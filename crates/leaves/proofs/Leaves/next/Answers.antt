-- `Leaves::next`: from the key at which the walk goes on, if there is one. Assumes nothing.
use mathlib.Core.Path.{sym, ◌∙◌}
use Rattle.leaves.proofs.Steps.{step-none, step-leaf, step-damaged}
use Rattle.leaves.proofs.Leaves.next.Goals as goal

pub returns-in_err-key : goal.returns-in_err-key
returns-in_err-key c =
    let args = c.args in
    step-none args.n args.c args.t.now args.self.now (sym c.take.ensures.value ∙ c.in_err-key.was) _ c.from_residual.ensures _ c.take.ensures.after

pub returns-in-Ok : goal.returns-in-Ok
returns-in-Ok c =
    let args = c.args in
    let next = c.next-step in
    step-leaf args.n args.c args.t.now args.self.now c.in_ok-key.key (sym c.take.ensures.value ∙ c.in_ok-key.was) next.new.t next.result next.ensures c.in-Ok.leaf c.in-Ok.is _ c.behind-self.ensures

pub returns-in-Err : goal.returns-in-Err
returns-in-Err c =
    let args = c.args in
    let next = c.next-step in
    rw c.take.ensures.after
    (step-damaged args.n args.c args.t.now args.self.now c.in_ok-key.key (sym c.take.ensures.value ∙ c.in_ok-key.was) next.new.t next.result next.ensures c.in-Err.report c.in-Err.is)
