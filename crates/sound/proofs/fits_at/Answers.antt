-- `sound::fits_at`: a page fits if it fails no test.
-- Assumes nothing.
use Rattle.std.proofs.Common.{ap, ◌∙◌, is_none}
use Rattle.rules.specs.Place.{fits}
use Rattle.rules.specs.Report.{reason_at}
use Rattle.rules.proofs.Entries.Reasons.{none_told}
use Rattle.sound.proofs.fits_at.Goals as goal

pub returns : goal.returns
unfolding fits reason_at
returns c = none_told c.unfit_at.result c.is_none.result c.is_none.ensures ∙ ap is_none c.unfit_at.ensures
