-- `sound::unfit_at`: beyond the table nothing is sound.
-- Assumes nothing.
use Rattle.rules.specs.Table.{read}
use Rattle.rules.specs.Report.{reason_at}
use Rattle.sound.proofs.Fitting.{unfit_beyond}
use Rattle.sound.proofs.unfit_at.Goals as goal

pub returns-then-child-table : goal.returns-then-child-table
unfolding reason_at
returns-then-child-table c = unfit_beyond c.args.table.pages c.args.e.child c.args.table.bytes.now c.args.e c.args.table.whole c.if-child-table.true

pub returns : goal.returns
unfolding reason_at read
returns c = rw (c.unfit.ensures, c.page.ensures.bytes)
