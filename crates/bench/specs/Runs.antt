-- What a run of bytes leaves, byte after byte; what is printed on the way stands in driver's `stepped`.
use Rattle.std.specs.Prelude.{ℕ, List, [], ◌∷◌}
use Rattle.driver.specs.declared.Bench.{Bench}
use Rattle.driver.specs.Acts.{stepped}

pub record Stand : Type 0 where
  pub bench : Bench
  pub working : List ℕ
  pub stable : List ℕ

abbrev pub stand : Bench → List ℕ → List ℕ → Stand
stand m w s = record { bench = m; working = w; stable = s }

-- after one byte
unfoldable pub after : ℕ → Stand → Stand
after b x =
    let r = stepped x.bench b x.working x.stable in
    stand r.bench r.working r.stable

-- after the bytes of a list
unfoldable pub run : List ℕ → Stand → Stand
run [] x = x
run (b ∷ bs) x = run bs (after b x)
