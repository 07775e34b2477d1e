-- No second outcome satisfies a contract of this crate. Assumes nothing.
use Rattle.std.proofs.Common.{sym, refl, ◌∙◌}
use Rattle.tight.specs.Tight.{Tight}
use Rattle.rules.proofs as this

pub session-take_tight : Tight this.Session.take.Kinds.ps this.Session.take.Kinds.r this.Session.take.Reads.Pre this.Session.take.Reads.Post
session-take_tight κs a pre z z' l l' p q = (p ∙ sym q, refl)

pub session-release_tight : Tight this.Session.release.Kinds.ps this.Session.release.Kinds.r this.Session.release.Reads.Pre this.Session.release.Reads.Post
session-release_tight κs a pre z z' l l' p q = (p ∙ sym q, refl)

pub session-wait_tight : Tight this.Session.wait.Kinds.ps this.Session.wait.Kinds.r this.Session.wait.Reads.Pre this.Session.wait.Reads.Post
session-wait_tight κs a pre z z' l l' p q = (p ∙ sym q, refl)

pub session-raise_tight : Tight this.Session.raise.Kinds.ps this.Session.raise.Kinds.r this.Session.raise.Reads.Pre this.Session.raise.Reads.Post
session-raise_tight κs a pre z z' l l' p q = (p ∙ sym q, refl)

pub session-count_tight : Tight this.Session.count.Kinds.ps this.Session.count.Kinds.r this.Session.count.Reads.Pre this.Session.count.Reads.Post
session-count_tight κs a pre z z' l l' p q = (p ∙ sym q, refl)

pub session-uncount_tight : Tight this.Session.uncount.Kinds.ps this.Session.uncount.Kinds.r this.Session.uncount.Reads.Pre this.Session.uncount.Reads.Post
session-uncount_tight κs a pre z z' l l' p q = (p ∙ sym q, refl)

pub report-nothing_tight : Tight this.Report.nothing.Kinds.ps this.Report.nothing.Kinds.r this.Report.nothing.Reads.Pre this.Report.nothing.Reads.Post
report-nothing_tight κs a pre z z' l l' p q = (p ∙ sym q, refl)

pub report-add_tight : Tight this.Report.add.Kinds.ps this.Report.add.Kinds.r this.Report.add.Reads.Pre this.Report.add.Reads.Post
report-add_tight κs a pre z z' l l' p q = (p ∙ sym q, refl)

pub report-join_tight : Tight this.Report.join.Kinds.ps this.Report.join.Kinds.r this.Report.join.Reads.Pre this.Report.join.Reads.Post
report-join_tight κs a pre z z' l l' p q = (p ∙ sym q, refl)
