-- `plan::choose`: what `marks::lowest` chooses for as many pages as the splits need.
use mathlib.Core.Path.{◌∙◌}
use Rattle.plan.proofs.Plans.{splits-within, chosen-asks, chosen_of}
use native.Mathlib.Omega.{arith}
use Rattle.plan.proofs.choose.Goals as goal

pub need-requires : goal.need-requires
need-requires c = omega (arith, splits-within c.args.way.now c.splits-many.result c.splits-many.ensures, c.requires.1)

pub lowest-requires : goal.lowest-requires
lowest-requires c =
    chosen-asks c.args.session.now c.args.way.now c.requires.0 c.requires.1 c.splits-many.result c.splits-many.ensures
    c.need.result c.need.ensures

pub returns : goal.returns
returns c =
    c.lowest.ensures ∙ chosen_of c.args.session.now c.args.way.now c.splits-many.result c.splits-many.ensures c.as_slice.result.now
    (c.as_slice.ensures.items ∙ c.entered-entered.ensures) c.need.result c.need.ensures
