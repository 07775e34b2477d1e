-- What is left of the input does to what stands now what the whole of it does to what stood first.
use Rattle.std.proofs.Common.{◌≡◌, drop}
use Rattle.bench.specs.Runs.{run, stand}
use Rattle.bench.proofs.feed.Given as goal

abbrev pub invariant-loop-b : goal.invariant-loop-b
invariant-loop-b l =
    run (drop l.b-index l.input) (stand l.bench l.working l.stable) ≡ run l.input (stand l.initial.bench l.initial.working l.initial.stable)
