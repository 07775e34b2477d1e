-- `tables::good_lengths`: the tests one after the other.
-- Assumes nothing.
use mathlib.Core.Bool.{and-true}
use lib.ListN.{length}
use Prim.Native.Nat.{◌%◌}
use borrow.Author.Tests.{eq-eqb, ne_eqb}
use Rattle.rules.specs.Test.{between, every}
use Rattle.rules.specs.Table.{pages, good_lengths}
use Rattle.tables.proofs.good_lengths.Goals as goal

pub returns-then-bytes-stable : goal.returns-then-bytes-stable
unfolding good_lengths every
returns-then-bytes-stable c =
    let args = c.args in
    rw (ne_eqb (length args.working.now) (length args.stable.now) c.if-bytes-stable.true)

pub returns-then-bytes-ne0 : goal.returns-then-bytes-ne0
unfolding good_lengths every
returns-then-bytes-ne0 c =
    let args = c.args in
    rw
    (eq-eqb (length args.working.now) (length args.stable.now) c.if-bytes-stable.false, ne_eqb (length args.working.now % 512) 0 c.if-bytes-ne0.true)

pub returns : goal.returns
unfolding good_lengths every between pages
returns c =
    let args = c.args in
    rw
    (eq-eqb (length args.working.now) (length args.stable.now) c.if-bytes-stable.false, eq-eqb (length args.working.now % 512) 0 c.if-bytes-ne0.false, and-true)
