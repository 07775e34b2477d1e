-- A run of bytes, taken one byte at a time. Assumes nothing.
use Prim.Native.Nat.{ℕ, ◌+◌, ◌≤◌, ◌<◌}
use native.Mathlib.Numerals.{add-one}
use mathlib.Core.Path.{◌≡◌, ap}
use mathlib.Core.List.{List}
use lib.ListN.{length, drop, get_or, drop_of_length-le}
use lib.Seq.{drop-cons}
use Rattle.driver.specs.declared.Bench.{Bench}
use Rattle.driver.specs.declared.Step.{Step}
use Rattle.driver.specs.Acts.{Stepped, stepped, step_left}
use Rattle.bench.specs.Runs.{Stand, stand, after, run}

-- what a step leaves
pub step_after : (r : Step) (v t : List ℕ) (b : ℕ) (m : Bench) (w s : List ℕ) → step_left r v t ≡ stepped m b w s → stand r.bench v t ≡ after b (stand m w s)
unfolding after
step_after r v t b m w s e = ap (λ (x : Stepped). stand x.bench x.working x.stable) e

-- the next byte, then the others
pub run-next : (input : List ℕ) (i : ℕ) (x : Stand) → i < length input → run (drop i input) x ≡ run (drop (i + 1) input) (after (get_or input i 0) x)
unfolding run
run-next input i x h = rw (add-one, drop-cons input i 0 h)

-- none is left
pub run_end : (input : List ℕ) (i : ℕ) (x : Stand) → length input ≤ i → run (drop i input) x ≡ x
unfolding run
run_end input i x h = rw (drop_of_length-le input h)
