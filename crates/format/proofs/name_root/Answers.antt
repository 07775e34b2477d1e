-- `format::name_root`: the six puts are those of `named`.
-- Assumes nothing.
use Rattle.rules.specs.Table.{set_number, set_root}
use Rattle.format.specs.Formats.{named}
use Rattle.format.proofs.name_root.Goals as goal

pub returns : goal.returns
unfolding named set_number set_root
returns c =
    let put16 = c.put16 in
    let put162 = c.put16-2 in
    let put32 = c.put32 in
    let put163 = c.put16-3 in
    let put164 = c.put16-4 in
    let kind = put16.ensures in
    let n = put162.ensures in
    let number = put32.ensures in
    let root = put163.ensures in
    let previous = put164.ensures in
    rw (c.put32-2.ensures, previous, root, number, n, kind)
