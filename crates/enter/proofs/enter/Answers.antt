-- `enter::enter`: above, fitting, or lost.
-- Assumes nothing.
use Rattle.std.specs.Prelude.{is_none}
use mathlib.Core.Path.{sym, ap, ◌∙◌}
use Rattle.rules.specs.Place.{fits}
use Rattle.rules.specs.Enter as rules
use Rattle.rules.specs.Report.{reason_at}
use Rattle.head.specs.Head.{head_in}
use Rattle.rules.proofs.Entries.Reasons.{none_told}
use Rattle.enter.specs.Entering.{told, above_of, entering}
use Rattle.enter.specs.Entering as enters
use Rattle.enter.proofs.Mended.{head_read}
use Rattle.enter.proofs.Told.{enter-above, enter-fits, enter-lost}
use Rattle.enter.proofs.enter.Goals as goal

pub returns-then-stands_above : goal.returns-then-stands_above
returns-then-stands_above c = enter-above c.args.n c.args.c c.args.t.now c.args.e (reason_at c.args.n c.args.t.now c.args.e) (above_of c.args.above) (sym c.stands_above.ensures ∙ c.if-stands_above.true)

pub returns-then-is_none : goal.returns-then-is_none
unfolding fits reason_at
returns-then-is_none c =
    let args = c.args in
    let why = c.unfit_at-reason.ensures in
    cc (
      ap (λ a. entering args.t.now (enters.found a (reason_at args.n args.t.now args.e)))
          (head_read args.t.now args.e.child (c.read_head-head.ensures ∙ ap head_in c.page_at.ensures.bytes))
          ∙ enter-fits args.n args.c args.t.now args.e (reason_at args.n args.t.now args.e) (above_of args.above)
          (sym c.stands_above.ensures ∙ c.if-stands_above.false) (sym (none_told c.unfit_at-reason.result c.is_none.result c.is_none.ensures ∙ ap is_none why) ∙ c.if-is_none.true),
      why,
    )

pub returns : goal.returns
unfolding fits reason_at
returns c =
    let args = c.args in
    let why = c.unfit_at-reason.ensures in
    c.mend.ensures ∙ ap (λ r. told r (rules.mend args.n args.c args.t.now args.e)) why ∙ ap (told (reason_at args.n args.t.now args.e))
    (sym (enter-lost args.n args.c args.t.now args.e (reason_at args.n args.t.now args.e) (above_of args.above) (sym c.stands_above.ensures ∙ c.if-stands_above.false)
    (sym (none_told c.unfit_at-reason.result c.is_none.result c.is_none.ensures ∙ ap is_none why) ∙ c.if-is_none.false)))
