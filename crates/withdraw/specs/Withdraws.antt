-- What a withdrawal hands back, and what it leaves, as the rules say it.
use Rattle.std.specs.Prelude.{ℕ, List}
use Rattle.rules.specs.Report.{Reported}
use Rattle.rules.specs.Call.{Left}
use Rattle.rules.specs.declared.Session.{Session}
use Rattle.rules.specs.Answer.{Withdrawn}
