-- `head::child_high`: the next entry's key less one, or the page's high.
-- Assumes nothing.
use mathlib.Core.Path.{◌≡◌, ◌∙◌}
use native.Mathlib.Omega.{arith}
use Prim.Native.Nat.{◌+◌, ◌-◌}
use Rattle.head.proofs.Kids.{high-last, high-next}
use Rattle.head.proofs.child_high.Goals as goal

pub returns-then-next-count : goal.returns-then-next-count
returns-then-next-count c =
    let args = c.args in
    high-last args.page.now args.count args.high (args.j + 1) c.if-next-count.true

pub returns-then-key-eq0 : goal.returns-then-key-eq0
returns-then-key-eq0 c =
    let args = c.args in
    let child-key = c.child_key-key in
    let z : 0 ≡ child-key.result - 1 = omega arith in
    z ∙ high-next args.page.now args.count args.high (args.j + 1) c.if-next-count.false
    child-key.ensures

pub returns : goal.returns
returns c =
    let args = c.args in
    high-next args.page.now args.count args.high (args.j + 1) c.if-next-count.false
    c.child_key-key.ensures
