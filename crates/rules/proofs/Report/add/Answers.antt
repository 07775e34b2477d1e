-- `rules::Report::add`: a page that fitted adds nothing; the first reason stays.
-- Assumes nothing.
use Rattle.std.proofs.Common.{sym}
use Rattle.rules.specs.Report.{adds}
use Rattle.rules.proofs.Entries.Reasons.{first-or}
use Rattle.rules.proofs.Report.add.Goals as goal

pub returns-then-is_none : goal.returns-then-is_none
unfolding adds
returns-then-is_none c = rw (adds, c.is_none.ensures, c.if-is_none.true)

pub returns : goal.returns
unfolding adds
returns c = rw (adds, c.is_none.ensures, c.if-is_none.false, sym (first-or c.args.self.reason c.args.reason), c.or.ensures, c.wrapping_add_u32.ensures.value)
