-- `head::fit0`: a test that fails decides, and if all before it pass the last one does.
-- Assumes nothing.
use Prim.Native.Nat.{◌-◌}
use borrow.Author.Tests.{ne_eqb}
use Rattle.rules.specs.Layout.{zero_kind}
use Rattle.rules.proofs.Entries.Tests.{between-below, between-above}
use Rattle.head.proofs.PageZero.{fit0_fails, fit0-last}
use native.Mathlib.Omega.{arith}
use Rattle.head.proofs.fit0.Goals as goal

pub returns-then-zero-ne-ZERO : goal.returns-then-zero-ne-ZERO
returns-then-zero-ne-ZERO c =
    let args = c.args in
    let read-zero = c.read_zero-zero in
    let z = read-zero.result in
    fit0_fails args.n args.table.now z read-zero.ensures 0 (ne_eqb z.kind zero_kind c.if-zero-ne-ZERO.true)

pub returns-then-zero-n : goal.returns-then-zero-n
returns-then-zero-n c =
    let args = c.args in
    let read-zero = c.read_zero-zero in
    let n = args.n in
    let z = read-zero.result in
    fit0_fails n args.table.now z read-zero.ensures 1 (ne_eqb z.n n c.if-zero-n.true)

pub returns-then-zero-eq0 : goal.returns-then-zero-eq0
returns-then-zero-eq0 c =
    let args = c.args in
    let read-zero = c.read_zero-zero in
    let n = args.n in
    let z = read-zero.result in
    fit0_fails n args.table.now z read-zero.ensures 2 (between-below 1 (n - 1) z.root (omega arith))

pub returns-then-zero-n-2 : goal.returns-then-zero-n-2
returns-then-zero-n-2 c =
    let args = c.args in
    let read-zero = c.read_zero-zero in
    let n = args.n in
    let z = read-zero.result in
    fit0_fails n args.table.now z read-zero.ensures 2 (between-above 1 (n - 1) z.root (omega arith))

pub returns : goal.returns
returns c =
    let args = c.args in
    let read-zero = c.read_zero-zero in
    let if1 = c.if-zero-ne-ZERO in
    let if2 = c.if-zero-n in
    fit0-last args.n args.table.now read-zero.result read-zero.ensures if1.false if2.false
    (omega arith) (omega arith)
