-- What an opening leaves, from what it hands back and the two tables.
use Rattle.std.specs.Prelude.{ℕ, List}
use Rattle.rules.specs.Marks.{nobody}
use Rattle.rules.specs.Call.{Left}
use Rattle.rules.specs.Answer.{Opened}
use Rattle.rules.specs.Handing.{Opening}

-- what a refused opening hands back
abbrev pub refused_with : Opened → Opening
refused_with answer = record { answer = answer; session = nobody }
