-- `way::spot_at`: a guess confirmed among the leaf's keys.
-- Assumes nothing.
use Rattle.rules.proofs.Bytes.Tables.{length-page_at}
use native.Mathlib.Omega.{arith}
use Rattle.way.proofs.spot_at.Goals as goal

pub confirm-requires : goal.confirm-requires
confirm-requires c =
    let args = c.args in
    let pre = c.requires in
    let l = length-page_at args.table.now args.i (omega arith) in
    rw (c.page_at-page.ensures.bytes, c.certs.ensures) (omega (arith, l, pre.1), pre.2)

pub returns : goal.returns
returns c = rw (c.page_at-page.ensures.bytes, c.certs.ensures) at c.confirm.ensures
