-- `fill::copy`: so far each list is as it came, with the first j certificates pasted in behind those found.
-- Assumes nothing.
use Prim.Native.Nat.{◌+◌}
use mathlib.Core.Path.{refl, ◌∙◌}
use lib.ListN.{length-set}
use lib.Seq.{paste-zero}
use Rattle.rules.specs.Entry as entry
use Rattle.rules.specs.List.{records_of}
use Rattle.fill.specs.Fills.{certs_from}
use Rattle.fill.proofs.Copies.{key-turn, record_turn, copied}
use native.Mathlib.Omega.{arith}
use Rattle.fill.proofs.copy.Goals as goal

pub loop-j-init : goal.loop-j-init
loop-j-init c =
    let args = c.args in
    let certs = certs_from args.page.now args.first args.many in (
      omega arith,
      refl,
      refl,
      paste-zero args.keys.now args.filled (entry.keys certs),
      paste-zero args.records.now args.filled (records_of certs),
    )

pub loop-j-preserved : goal.loop-j-preserved
loop-j-preserved c =
    let loop-test = c.loop-j-test in
    let args = c.args in
    let pre = c.requires in
    let loop = c.loop-j in
    let at = args.filled + loop.j in
    let key = c.cert_key in
    let value = c.cert_record in
    let long = length-set loop.keys at key.result ∙ loop.invariant.1 in
    let wide = length-set loop.records at value.result ∙ loop.invariant.2 in
    let keys = key-turn args.page.now args.first args.many args.keys.now loop.keys args.filled
    loop.j key.result loop-test.true pre.2 loop.invariant.3 key.ensures in
    let records = record_turn args.page.now args.first args.many args.records.now loop.records
    args.filled loop.j value.result loop-test.true pre.3 loop.invariant.4 value.ensures in
    (omega (arith, loop-test.true), long, wide, keys, records)

pub returns : goal.returns
returns c =
    let args = c.args in
    let loop = c.loop-j in
    copied args.page.now args.first args.many args.filled args.keys.now args.records.now
    loop.keys loop.records loop.j (omega (arith, loop.invariant.0, c.loop-j-test.false)) loop.invariant.3
    loop.invariant.4
