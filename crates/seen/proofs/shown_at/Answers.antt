-- `seen::shown_at`: each return is one of the three things that a place can show.
-- Assumes nothing.
use Rattle.std.proofs.Common.{sym, ap, ◌∙◌}
use Rattle.std.specs.Prelude.{Some}
use Rattle.seen.proofs.Shows.{shown-fitting, shown-lost, shown-damaged, runs_fitting, runs_lost}
use Rattle.seen.proofs.shown_at.Goals as goal

pub run_in-requires : goal.run_in-requires
run_in-requires c =
    let args = c.args in
    runs_fitting args.table.pages args.table.bytes.now args.e args.table.whole
    (sym c.fits_at.ensures ∙ c.if-fits_at.true)

pub returns-then-fits_at : goal.returns-then-fits_at
returns-then-fits_at c =
    let args = c.args in
    ap Some c.run_in.ensures ∙ shown-fitting args.table.pages args.table.bytes.now args.e
    (sym c.fits_at.ensures ∙ c.if-fits_at.true)

pub run_in-requires-then-mendable_at : goal.run_in-requires-then-mendable_at
run_in-requires-then-mendable_at c =
    let args = c.args in
    runs_lost args.table.pages args.table.bytes.now args.e args.table.whole
    (sym c.mendable_at.ensures ∙ c.if-mendable_at.true)

pub returns-then-mendable_at : goal.returns-then-mendable_at
returns-then-mendable_at c =
    let args = c.args in
    let fits-at = c.fits_at in
    let if1 = c.if-fits_at in
    ap Some c.run_in-then-mendable_at.ensures ∙ shown-lost args.table.pages args.table.bytes.now args.e
    (sym fits-at.ensures ∙ if1.false)
    (sym c.mendable_at.ensures ∙ c.if-mendable_at.true)

pub returns : goal.returns
returns c =
    let args = c.args in
    shown-damaged args.table.pages args.table.bytes.now args.e
    (sym c.fits_at.ensures ∙ c.if-fits_at.false)
    (sym c.mendable_at.ensures ∙ c.if-mendable_at.false)
