-- `plan::plan`: each return is one step of the rules' plan, in document 01's order.
use Rattle.plan.proofs.Plans.{splits-within}
use Rattle.plan.proofs.Steps.{few, present_planned, soon_planned, stuck_planned, few_planned, go_planned}
use mathlib.Core.Path.{sym, ap, ◌∙◌}
use lib.Seq.{length-take-le}
use native.Mathlib.Omega.{arith}
use Rattle.plan.specs.Plan.{too_soon_by}
use Rattle.plan.proofs.Heads.{heads-take}
use Rattle.plan.proofs.plan.Goals as goal

pub returns-then-present : goal.returns-then-present
returns-then-present c = λ p. present_planned p c.args.present c.if-present.true

pub slice_bounds-too_soon-end : goal.slice_bounds-too_soon-end
slice_bounds-too_soon-end c =
    sym (length-take-le c.splits-many.result c.args.way.now (splits-within c.args.way.now c.splits-many.result c.splits-many.ensures))

pub returns-then-too_soon : goal.returns-then-too_soon
returns-then-too_soon c =
    let args = c.args in
    let splits = c.splits-many in
    let too-soon = c.too_soon in
    λ p. soon_planned p args.present c.if-present.false splits.result splits.ensures too-soon.result (too-soon.ensures ∙ ap (too_soon_by args.c) (heads-take splits.result args.way.now)) c.if-too_soon.true

pub is_stuck-requires : goal.is_stuck-requires
is_stuck-requires c = c.requires.some_page

pub returns-then-is_stuck : goal.returns-then-is_stuck
returns-then-is_stuck c =
    let args = c.args in
    let if1 = c.if-present in
    let splits = c.splits-many in
    let too-soon = c.too_soon in
    let is_stuck = c.is_stuck in
    λ p. stuck_planned p args.present if1.false splits.result splits.ensures too-soon.result (too-soon.ensures ∙ ap (too_soon_by args.c) (heads-take splits.result args.way.now)) c.if-too_soon.false is_stuck.result is_stuck.ensures c.if-is_stuck.true

pub need-requires : goal.need-requires
need-requires c = omega (arith, splits-within c.args.way.now c.splits-many.result c.splits-many.ensures, few c.requires)

pub returns-then-chosen-need : goal.returns-then-chosen-need
returns-then-chosen-need c =
    let args = c.args in
    let if1 = c.if-present in
    let splits = c.splits-many in
    let too-soon = c.too_soon in
    let if2 = c.if-too_soon in
    let is_stuck = c.is_stuck in
    let need = c.need in
    λ p. few_planned p args.present if1.false splits.result splits.ensures too-soon.result (too-soon.ensures ∙ ap (too_soon_by args.c) (heads-take splits.result args.way.now)) if2.false is_stuck.result is_stuck.ensures c.if-is_stuck.false need.result need.ensures c.if-chosen-need.true

pub returns : goal.returns
returns c =
    let args = c.args in
    let if1 = c.if-present in
    let splits = c.splits-many in
    let too-soon = c.too_soon in
    let if2 = c.if-too_soon in
    let is_stuck = c.is_stuck in
    let need = c.need in
    λ p. go_planned p args.present if1.false splits.result splits.ensures too-soon.result (too-soon.ensures ∙ ap (too_soon_by args.c) (heads-take splits.result args.way.now)) if2.false is_stuck.result is_stuck.ensures c.if-is_stuck.false need.result need.ensures (omega (arith, c.if-chosen-need.false))
