-- `marks::turn`: the loop's invariant says that the pages below i have turned. The measure is what is left of the marks.
-- Assumes nothing.
use Rattle.rules.specs.Layout.{most_pages}
use Rattle.rules.specs.Marks.{raised}
use Rattle.rules.specs.declared.Session.{Session}
use mathlib.Core.Path.{◌≡◌, ap, ◌∙◌}
use native.Mathlib.Omega.{arith}
use Rattle.marks.proofs.Turning.{turning, turn_page, turning-more, turning-none, turning-all}
use borrow.Author.Rules.{rules}
use Rattle.marks.proofs.turn.Goals as goal

pub loop-i-init : goal.loop-i-init
loop-i-init c = (search rules, turning-none c.args.s)

pub loop-i-preserved : goal.loop-i-preserved
loop-i-preserved c =
    let args = c.args in
    let loop = c.loop-i in
    let s = args.s in
    let i = loop.i in
    let turned = turning-more s (search rules) (search rules) i c.loop-i-test.true in
    (search rules, rw c.is_page-page.ensures (ap (turn_page s.n i) loop.invariant.1 ∙ turned))

pub raise-requires : goal.raise-requires
raise-requires c = omega (arith, ap (λ (t : Session). t.c) c.loop-i.invariant.1, c.requires)

pub returns : goal.returns
returns c =
    let loop = c.loop-i in
    let s = c.args.s in
    let all : loop.i ≡ most_pages = omega (arith, loop.invariant.0, c.loop-i-test.false) in
    c.raise.ensures ∙ (ap raised (loop.invariant.1 ∙ ap (turning s) all) ∙ turning-all s (search rules) (search rules))
