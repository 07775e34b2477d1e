-- `counts::count_leaf`: at each turn the tally and the certificates left come to what all come to. Assumes nothing.
use Prim.Native.Nat.{◌+◌, ◌≤◌}
use mathlib.Core.Path.{refl, sym, subst, ◌∙◌}
use Rattle.counts.specs.Tally.{Few}
use Rattle.counts.specs.declared.Tally.{Tally}
use Rattle.counts.proofs.Tallies.{in_few, in_most, counts-turn, counts_end, counts_start}
use native.Mathlib.Omega.{arith}
use Rattle.counts.proofs.count_leaf.Goals as goal

pub loop-j-init : goal.loop-j-init
loop-j-init c = record { few = c.requires.2; most = omega arith; same = refl }

pub cert_key-requires : goal.cert_key-requires
cert_key-requires c = omega (arith, c.loop-j-test.true, c.requires.0)

pub counted_in-tally-requires : goal.counted_in-tally-requires
counted_in-tally-requires c = (c.loop-j.invariant.few, omega (arith, c.loop-j.invariant.most, c.loop-j-test.true, c.requires.1, c.requires.3))

pub loop-j-preserved : goal.loop-j-preserved
loop-j-preserved c =
    let args = c.args in
    let loop = c.loop-j in
    let counted-in = c.counted_in-tally in
    let key = c.cert_key in
    record {
      few = subst Few (sym counted-in.ensures) (in_few args.range.low args.range.high loop.tally key.result loop.invariant.few);
      most = subst (λ (d : Tally). d.certs ≤ args.c.certs + (loop.j + 1)) (sym counted-in.ensures) (omega (arith, loop.invariant.most, in_most args.range.low args.range.high loop.tally key.result));
      same = counts-turn args.range.low args.range.high args.page.now args.entries loop.j key.result loop.tally counted-in.result c.loop-j-test.true key.ensures counted-in.ensures ∙ loop.invariant.same;
    }

pub returns : goal.returns
returns c =
    let args = c.args in
    let loop = c.loop-j in
    sym (counts_end args.range.low args.range.high args.page.now args.entries loop.j loop.tally c.loop-j-test.false)
    ∙ (loop.invariant.same ∙ counts_start args.range.low args.range.high args.page.now args.entries args.c)
