-- What is told of a trouble on standard error.
use Rattle.std.specs.Prelude.{ℕ, List, codes}
use Rattle.bench.specs.declared.Trouble.{Trouble}

abbrev pub trouble_text : Trouble → List ℕ
trouble_text Trouble.Read = codes "bench: cannot read standard input"
trouble_text Trouble.Write = codes "bench: cannot write to standard output"
