-- `marks::opened`: the loop's invariant says that the free marks below i are filled in.
-- Assumes nothing.
use Rattle.marks.proofs.Opening.{opened_by-made}
use mathlib.Core.Path.{◌≡◌, refl, ap, ◌∙◌}
use mathlib.Core.Bool.{Bool, false}
use mathlib.Core.List.{List}
use Prim.Native.Nat.{ℕ}
use native.Mathlib.Omega.{arith}
use lib.ListN.{set}
use Rattle.rules.specs.Layout.{most_pages}
use Rattle.rules.specs.Marks.{marks_from, marks}
use Rattle.rules.proofs.Bytes.Marked.{length-marks}
use Rattle.marks.specs.Opened.{free_at_opening}
use Rattle.marks.proofs.Fill.{filled, filled_more, filled-all}
use borrow.Author.Rules.{rules}
use Rattle.marks.proofs.opened.Goals as goal

pub loop-i-init : goal.loop-i-init
unfolding marks marks_from
loop-i-init c = (search rules, refl)

pub loop-i-preserved : goal.loop-i-preserved
loop-i-preserved c =
    let args = c.args in
    let loop = c.loop-i in
    let free = free_at_opening args.n args.children args.spared in
    let i = loop.i in
    let none = marks (λ j. false) in
    let filling = filled_more free i none (omega (arith, length-marks (λ j. false), c.loop-i-test.true)) in
    (search rules, rw c.is_page.ensures (ap (λ (l : List Bool). set l i (free i)) loop.invariant.1 ∙ filling))

pub returns : goal.returns
returns c =
    let args = c.args in
    let loop = c.loop-i in
    let free = free_at_opening args.n args.children args.spared in
    let none = marks (λ j. false) in
    let i = loop.i in
    let all : i ≡ most_pages = omega (arith, loop.invariant.0, c.loop-i-test.false) in
    let filling = ap (λ (k : ℕ). filled free k none) all ∙ filled-all free none (length-marks (λ j. false)) in
    opened_by-made args.n args.c args.total args.children args.spared loop.free (loop.invariant.1 ∙ filling)
