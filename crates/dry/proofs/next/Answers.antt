-- `dry::next`: the place that is next, as it is met. Assumes nothing.
use mathlib.Core.Path.{sym, ap, ◌∙◌}
use Rattle.std.specs.Prelude.{Result}
use Rattle.dry.specs.Cursor.{stepping}
use Rattle.dry.specs.declared.Damaged.{Damaged}
use Rattle.dry.specs.declared.Step.{Step}
use Rattle.dry.proofs.Turns.{err-is, step-ends, step_settles, step-breaks}
use Rattle.dry.proofs.Sures.{sure_own}
use Rattle.dry.proofs.next.Goals as goal

pub returns-in_default : goal.returns-in_default
returns-in_default g c =
    let args = c.args in
    let next-spot = c.next_spot in
    step-ends args.table.pages args.a args.table.bytes.now args.c args.marks.now next-spot.result next-spot.ensures c.in_default.is

pub meet-requires : goal.meet-requires
meet-requires g c =
    let pre = c.requires in
    let args = c.args in
    let next-spot = c.next_spot in
    (λ k h. sure_own args.table.pages args.a args.table.bytes.now args.c args.marks.now pre.0 (pre.1 k) c.in-Some.s (sym next-spot.ensures ∙ c.in-Some.is) h)

pub returns-in_err-met : goal.returns-in_err-met
returns-in_err-met g c =
    let args = c.args in
    let f = c.from_residual.ensures in
    let y = c.in_err-met.field-0.0 in
    ap (λ (v : Result Step Damaged). stepping v c.meet.new.marks) (err-is c.from_residual.result f.0)
    ∙ step-breaks args.table.pages args.a args.table.bytes.now args.c args.marks.now c.next_spot.result c.next_spot.ensures c.in-Some.s c.in-Some.is
    c.meet.result c.meet.new.marks c.meet.ensures y c.in_err-met.was

pub returns : goal.returns
returns g c =
    let args = c.args in
    step_settles args.table.pages args.a args.table.bytes.now args.c args.marks.now c.next_spot.result c.next_spot.ensures c.in-Some.s c.in-Some.is
    c.meet.result c.meet.new.marks c.meet.ensures c.in_ok-met.met (c.in_ok-met.was) c.settle.result c.settle.ensures
