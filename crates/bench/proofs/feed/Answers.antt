-- A byte more is a step more; behind the last there is nothing.
use Rattle.std.proofs.Common.{ap, sym, ◌∙◌, ◌+◌, drop, get_or, arith}
use Rattle.bench.specs.Runs.{stand, run}
use Rattle.bench.proofs.Running.{step_after, run-next, run_end}
use Rattle.bench.proofs.feed.Goals as goal

pub loop-b-preserved : goal.loop-b-preserved
loop-b-preserved c =
    let input = c.args.input.now in
    let loop = c.loop-b in
    let step = c.step-step in
    ap (run (drop (loop.b-index + 1) input))
    (step_after step.result step.new.working step.new.stable (get_or input loop.b-index 0) loop.bench loop.working loop.stable step.ensures)
    ∙ sym (run-next input loop.b-index (stand loop.bench loop.working loop.stable) c.loop-b-test.true)
    ∙ loop.invariant

pub returns : goal.returns
returns c =
    let loop = c.loop-b in
    sym (run_end c.args.input.now loop.b-index (stand loop.bench loop.working loop.stable) (omega arith)) ∙ loop.invariant
