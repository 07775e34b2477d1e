-- `dry::tally::tally_each`: at each turn the count and the certificates left come to what all come to. Assumes nothing.
use mathlib.Core.Path.{refl, sym, ◌∙◌}
use Rattle.dry.proofs.Tallies.{tally-turn, tally-end, tally-start}
use native.Mathlib.Omega.{arith}
use Rattle.dry.proofs.tally.tally_each.Goals as goal

pub loop-j-init : goal.loop-j-init
loop-j-init c = refl

pub cert_key-requires : goal.cert_key-requires
cert_key-requires c = omega (arith, c.loop-j-test.true, c.requires)

pub loop-j-preserved : goal.loop-j-preserved
loop-j-preserved c =
    let args = c.args in
    let loop = c.loop-j in
    tally-turn args.range.low args.range.high args.room args.page.now args.entries loop.j c.cert_key.result loop.found c.tally_key-found.result
    c.loop-j-test.true c.cert_key.ensures c.tally_key-found.ensures
    ∙ loop.invariant

pub returns : goal.returns
returns c =
    let args = c.args in
    let loop = c.loop-j in
    sym (tally-end args.range.low args.range.high args.room args.page.now args.entries loop.j loop.found c.loop-j-test.false)
    ∙ (loop.invariant ∙ tally-start args.range.low args.range.high args.room args.page.now args.entries args.count)
