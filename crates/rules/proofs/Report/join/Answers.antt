-- `rules::Report::join`: the counts add up; the first reason of the two stays.
-- Assumes nothing.
use Rattle.std.proofs.Common.{sym}
use Rattle.rules.specs.Batch.{joins}
use Rattle.rules.proofs.Entries.Reasons.{first-or}
use Rattle.rules.proofs.Report.join.Goals as goal

pub returns : goal.returns
unfolding joins
returns c = rw (joins, sym (first-or c.args.self.reason c.args.next.reason), c.or.ensures, c.wrapping_add_u32.ensures.value)
