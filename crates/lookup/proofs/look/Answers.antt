-- `lookup::look`: the leaf at the end of the way, where there is one.
-- Assumes nothing.
use mathlib.Core.Path.{sym, ap, ◌∙◌}
use Rattle.rules.specs.Report.{Reported}
use Rattle.rules.specs.Walk.{way_of}
use Rattle.way.specs.Ways.{Ending, ending}
use Rattle.way.proofs.Stood.{way-stands}
use Rattle.lookup.proofs.Along.{reported_too, no_leaf, ended, leaf-below, spot-within, looked-before}
use native.Mathlib.Omega.{arith}
use Rattle.lookup.proofs.look.Goals as goal

pub returns-in_default : goal.returns-in_default
returns-in_default c =
    let args = c.args in
    let pre = c.requires in
    let leaf-of = c.leaf_of-ended in
    let x = way_of args.n args.c args.key args.t.now in
    let a = way-stands args.n args.c args.key args.t.now pre.0 pre.1 c.slice_known-1.given (omega (arith, c.ranges.c)) (omega (arith, c.ranges.key)) in
    reported_too (ap (λ (y : Reported Ending). y.report) leaf-of.ensures)
    (no_leaf args.n args.key x leaf-of.new.t a (ap (ending leaf-of.new.t) (sym c.in_default.is) ∙ ap (λ (y : Reported Ending). y.left) leaf-of.ensures))

pub find_on-requires : goal.find_on-requires
find_on-requires c =
    let args = c.args in
    let pre = c.requires in
    let leaf-of = c.leaf_of-ended in
    let x = way_of args.n args.c args.key args.t.now in
    let a = way-stands args.n args.c args.key args.t.now pre.0 pre.1 c.slice_known-1.given (omega (arith, c.ranges.c)) (omega (arith, c.ranges.key)) in
    let d = ended args.n args.key x leaf-of.new.t a c.in-Some.end (ap (ending leaf-of.new.t) (sym c.in-Some.is) ∙ ap (λ (y : Reported Ending). y.left) leaf-of.ensures) in (
      omega (arith, leaf-of.auto.t, pre.0, leaf-below args.n args.key x leaf-of.new.t a c.in-Some.end d),
      spot-within args.n args.key x leaf-of.new.t a c.in-Some.end d,
    )

pub returns : goal.returns
returns c =
    let args = c.args in
    let pre = c.requires in
    let leaf-of = c.leaf_of-ended in
    let x = way_of args.n args.c args.key args.t.now in
    let a = way-stands args.n args.c args.key args.t.now pre.0 pre.1 c.slice_known-1.given (omega (arith, c.ranges.c)) (omega (arith, c.ranges.key)) in
    let d = ended args.n args.key x leaf-of.new.t a c.in-Some.end (ap (ending leaf-of.new.t) (sym c.in-Some.is) ∙ ap (λ (y : Reported Ending). y.left) leaf-of.ensures) in
    reported_too (ap (λ (y : Reported Ending). y.report) leaf-of.ensures)
    (looked-before args.n args.key x leaf-of.new.t a c.in-Some.end d c.find_on.result c.find_on.ensures)
