-- `rules::Report::nothing`. Assumes nothing.
use Rattle.rules.specs.Report.{nothing}
use Rattle.std.proofs.Common.{rules}
use Rattle.rules.proofs.Report.nothing.Goals as goal

pub returns : goal.returns
unfolding nothing
returns c = search rules
