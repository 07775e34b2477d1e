-- `build::build_range`: entries copied, zeros behind them, the header over them (Built).
-- Assumes nothing.
use mathlib.Core.Path.{◌≡◌}
use Prim.Native.Nat.{◌+◌, ◌*◌}
use Rattle.build.proofs.Built.{ranged_of, ranged_fits, range-built}
use native.Mathlib.Omega.{arith}
use borrow.Author.Rules.{rules}
use Rattle.build.proofs.build_range.Goals as goal

pub at-requires : goal.at-requires
at-requires c =
    let a = c.args in
    let pre = c.requires in
    let e = c.of_kind-entries in
    let r = ranged_of {t = a.table.now} {to = a.to} {from = a.from} {first = a.run.first} {past = a.run.past}
    pre.page_size_in_bounds pre.roomy pre.first_bound c.get16-kind.ensures c.saturating_sub-many.ensures e.ensures in
    let f = ranged_fits r in
    omega arith

pub overflow_add-source : goal.overflow_add-source
overflow_add-source c =
    let a = c.args in
    let pre = c.requires in
    let e = c.of_kind-entries in
    let r = ranged_of {t = a.table.now} {to = a.to} {from = a.from} {first = a.run.first} {past = a.run.past}
    pre.page_size_in_bounds pre.roomy pre.first_bound c.get16-kind.ensures c.saturating_sub-many.ensures e.ensures in
    let f = ranged_fits r in
    omega arith

pub overflow_mul-entries : goal.overflow_mul-entries
overflow_mul-entries c =
    let a = c.args in
    let pre = c.requires in
    let e = c.of_kind-entries in
    let r = ranged_of {t = a.table.now} {to = a.to} {from = a.from} {first = a.run.first} {past = a.run.past}
    pre.page_size_in_bounds pre.roomy pre.first_bound c.get16-kind.ensures c.saturating_sub-many.ensures e.ensures in
    let f = ranged_fits r in
    omega arith

pub overflow_add-at : goal.overflow_add-at
overflow_add-at c =
    let a = c.args in
    let pre = c.requires in
    let e = c.of_kind-entries in
    let r = ranged_of {t = a.table.now} {to = a.to} {from = a.from} {first = a.run.first} {past = a.run.past}
    pre.page_size_in_bounds pre.roomy pre.first_bound c.get16-kind.ensures c.saturating_sub-many.ensures e.ensures in
    let f = ranged_fits r in
    omega arith

pub copy-requires-clause-to_in_bounds : goal.copy-requires-clause-to_in_bounds
copy-requires-clause-to_in_bounds c =
    let a = c.args in
    let pre = c.requires in
    let e = c.of_kind-entries in
    let r = ranged_of {t = a.table.now} {to = a.to} {from = a.from} {first = a.run.first} {past = a.run.past}
    pre.page_size_in_bounds pre.roomy pre.first_bound c.get16-kind.ensures c.saturating_sub-many.ensures e.ensures in
    let f = ranged_fits r in
    omega arith

pub copy-requires-clause-from_in_bounds : goal.copy-requires-clause-from_in_bounds
copy-requires-clause-from_in_bounds c =
    let a = c.args in
    let pre = c.requires in
    let e = c.of_kind-entries in
    let r = ranged_of {t = a.table.now} {to = a.to} {from = a.from} {first = a.run.first} {past = a.run.past}
    pre.page_size_in_bounds pre.roomy pre.first_bound c.get16-kind.ensures c.saturating_sub-many.ensures e.ensures in
    let f = ranged_fits r in
    omega arith

pub at-requires-2 : goal.at-requires-2
at-requires-2 c =
    let a = c.args in
    let pre = c.requires in
    let e = c.of_kind-entries in
    let r = ranged_of {t = a.table.now} {to = a.to} {from = a.from} {first = a.run.first} {past = a.run.past}
    pre.page_size_in_bounds pre.roomy pre.first_bound c.get16-kind.ensures c.saturating_sub-many.ensures e.ensures in
    let f = ranged_fits r in
    omega arith

pub overflow_add-at-2 : goal.overflow_add-at-2
overflow_add-at-2 c =
    let a = c.args in
    let pre = c.requires in
    let e = c.of_kind-entries in
    let r = ranged_of {t = a.table.now} {to = a.to} {from = a.from} {first = a.run.first} {past = a.run.past}
    pre.page_size_in_bounds pre.roomy pre.first_bound c.get16-kind.ensures c.saturating_sub-many.ensures e.ensures in
    let f = ranged_fits r in
    omega arith

pub overflow_add-at-3 : goal.overflow_add-at-3
overflow_add-at-3 c =
    let a = c.args in
    let pre = c.requires in
    let e = c.of_kind-entries in
    let r = ranged_of {t = a.table.now} {to = a.to} {from = a.from} {first = a.run.first} {past = a.run.past}
    pre.page_size_in_bounds pre.roomy pre.first_bound c.get16-kind.ensures c.saturating_sub-many.ensures e.ensures in
    let f = ranged_fits r in
    omega arith

pub clear-requires-clause-at_le_end : goal.clear-requires-clause-at_le_end
clear-requires-clause-at_le_end c =
    let a = c.args in
    let pre = c.requires in
    let e = c.of_kind-entries in
    let r = ranged_of {t = a.table.now} {to = a.to} {from = a.from} {first = a.run.first} {past = a.run.past}
    pre.page_size_in_bounds pre.roomy pre.first_bound c.get16-kind.ensures c.saturating_sub-many.ensures e.ensures in
    let f = ranged_fits r in
    omega arith

pub overflow_cast-many : goal.overflow_cast-many
overflow_cast-many c =
    let a = c.args in
    let pre = c.requires in
    let e = c.of_kind-entries in
    let r = ranged_of {t = a.table.now} {to = a.to} {from = a.from} {first = a.run.first} {past = a.run.past}
    pre.page_size_in_bounds pre.roomy pre.first_bound c.get16-kind.ensures c.saturating_sub-many.ensures e.ensures in
    let f = ranged_fits r in
    omega arith

pub returns : goal.returns
returns c =
    let a = c.args in
    let pre = c.requires in
    let e = c.of_kind-entries in
    let r = ranged_of {t = a.table.now} {to = a.to} {from = a.from} {first = a.run.first} {past = a.run.past}
    pre.page_size_in_bounds pre.roomy pre.first_bound c.get16-kind.ensures c.saturating_sub-many.ensures e.ensures in
    let source : a.from * 512 + (e.result.header + e.result.size * a.run.first) ≡ a.from * 512 + e.result.header + e.result.size * a.run.first = omega arith in
    let end : a.to * 512 + (e.result.header + e.result.size * c.saturating_sub-many.result)
    ≡ a.to * 512 + e.result.header + e.result.size * c.saturating_sub-many.result = omega arith in
    rw (c.header.ensures, c.clear.ensures, c.copy.ensures, c.at.ensures, c.at-2.ensures, source, end)
    (range-built r a.page.birth a.page.c a.page.low a.page.high (search rules))
