-- What a sync leaves, from what it hands back and the two tables.
use Rattle.std.specs.Prelude.{ℕ, List}
use Rattle.rules.specs.Call.{Left}
use Rattle.rules.specs.Answer.{Synced}
