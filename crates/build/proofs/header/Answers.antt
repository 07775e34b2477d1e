-- `build::header`: the seven fields of the header, one after the other.
-- Assumes nothing.
use Rattle.build.specs.Range.{header_of}
use Rattle.entries.proofs.Header.{header_at}
use mathlib.Core.Path.{sym}
use Rattle.build.proofs.header.Goals as goal

pub returns : goal.returns
unfolding header_of
returns c =
    let put642 = c.put64-2 in
    let put64 = c.put64 in
    let put323 = c.put32-3 in
    let put322 = c.put32-2 in
    let put32 = c.put32 in
    let put162 = c.put16-2 in
    let put16 = c.put16 in
    let a = c.args in
    rw (put642.ensures, put64.ensures, put323.ensures, put322.ensures, put32.ensures, put162.ensures, put16.ensures)
    (sym (header_at a.table.now a.at a.kind a.count a.fresh.birth a.fresh.c a.fresh.c a.fresh.low a.fresh.high))
