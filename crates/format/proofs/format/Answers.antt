-- `format::format`: refused, or cleared, named and given its first leaf.
-- Assumes nothing.
-- past the test the lengths are good
use mathlib.Core.Path.{sym, ◌∙◌}
use lib.ListN.{length}
use Rattle.rules.specs.Table.{pages, set_page}
use Rattle.format.proofs.Whole.{few, long, refused, page-blank, made}
use native.Mathlib.Omega.{arith}
use Rattle.format.proofs.format.Goals as goal

pub returns-then-not-good_lengths : goal.returns-then-not-good_lengths
returns-then-not-good_lengths c =
    let args = c.args in
    let good_lengths_lem = c.good_lengths in
    let failed = sym good_lengths_lem.ensures ∙ c.if-not-good_lengths.true in
    refused args.working.now args.stable.now failed

pub overflow_cast-n : goal.overflow_cast-n
overflow_cast-n c =
    let args = c.args in
    omega (arith, few args.working.now args.stable.now (sym c.good_lengths.ensures ∙ c.if-not-good_lengths.false))

pub name_root-requires : goal.name_root-requires
name_root-requires c =
    let a = c.args in
    omega
    (arith, c.clear.auto.table, long a.working.now a.stable.now (sym c.good_lengths.ensures ∙ c.if-not-good_lengths.false))

pub slice_bounds-empty_leaf-end : goal.slice_bounds-empty_leaf-end
slice_bounds-empty_leaf-end c =
    let clear = c.clear in
    let a = c.args in
    omega
    (arith, c.name_root.auto.stable, clear.auto.table, long a.working.now a.stable.now (sym c.good_lengths.ensures ∙ c.if-not-good_lengths.false))

pub empty_leaf-requires : goal.empty_leaf-requires
empty_leaf-requires c =
    let clear = c.clear in
    let a = c.args in
    let bytes = length a.stable.now in
    rw (c.name_root.ensures, clear.ensures)
    (page-blank _ bytes (long a.working.now a.stable.now (sym c.good_lengths.ensures ∙ c.if-not-good_lengths.false)))

pub returns : goal.returns
unfolding set_page pages
returns c =
    let clear = c.clear in
    let name-root = c.name_root in
    let a = c.args in
    rw (c.empty_leaf.ensures, name-root.ensures, clear.ensures)
    (made a.working.now a.stable.now (sym c.good_lengths.ensures ∙ c.if-not-good_lengths.false))
