-- `sections::put_leaf`: at each turn, what was put and the certificates left come to what all come to. Assumes nothing.
use mathlib.Core.Path.{refl, sym, subst, ◌∙◌}
use lib.ListN.{length}
use Rattle.counts.specs.Tally.{Few}
use Rattle.counts.specs.declared.Tally.{Tally}
use Rattle.counts.proofs.Tallies.{counts-turn, counts_start, in_few}
use Rattle.sections.specs.Puts.{Lies}
use Rattle.sections.proofs.Puts.{puts-turn, puts-end, puts-start, turn-lies, turn-tally, left-lies}
use native.Mathlib.Omega.{arith}
use Rattle.sections.proofs.put_leaf.Goals as goal

pub loop-j-init : goal.loop-j-init
loop-j-init c = record {
  long = refl;
  few = c.requires.1;
  lies = subst (λ (d : Tally). Lies c.args.s d (length c.args.out.now)) (sym (counts_start c.args.range.low c.args.range.high c.args.page.now c.args.entries c.args.c)) c.requires.2;
  same = refl;
}

pub cert_key-key-requires : goal.cert_key-key-requires
cert_key-key-requires c = omega (arith, c.loop-j-test.true, c.requires.0)

pub cert_record-record-requires : goal.cert_record-record-requires
cert_record-record-requires c = omega (arith, c.loop-j-test.true, c.requires.0)

pub put_from-tally-requires : goal.put_from-tally-requires
put_from-tally-requires c =
    let args = c.args in
    let loop = c.loop-j in
    let b = args.page.now in (
      loop.invariant.few,
      (left-lies args.s args.range.low args.range.high b args.entries loop.j loop.tally loop.invariant.lies).counts,
      subst (Lies args.s _) (sym loop.invariant.long) (turn-lies args.s args.range.low args.range.high b args.entries loop.j c.cert_key-key.result loop.tally (length args.out.now) c.loop-j-test.true c.cert_key-key.ensures loop.invariant.lies),
    )

pub loop-j-preserved : goal.loop-j-preserved
loop-j-preserved c =
    let args = c.args in
    let loop = c.loop-j in
    let b = args.page.now in
    let put-from = c.put_from-tally in
    let key = c.cert_key-key in
    let value = c.cert_record-record in
    let tally = turn-tally args.s args.range.low args.range.high loop.tally put-from.result (record { key = key.result; value = value.result }) loop.out put-from.new.out put-from.ensures in
    record {
      long = omega (arith, put-from.auto.out, loop.invariant.long);
      few = subst Few (sym tally) (in_few args.range.low args.range.high loop.tally key.result loop.invariant.few);
      lies = subst (λ (d : Tally). Lies args.s d (length args.out.now)) (sym (counts-turn args.range.low args.range.high b args.entries loop.j key.result loop.tally put-from.result c.loop-j-test.true key.ensures tally)) loop.invariant.lies;
      same = puts-turn args.s args.range.low args.range.high b args.entries loop.j key.result value.result loop.tally put-from.result loop.out put-from.new.out c.loop-j-test.true key.ensures value.ensures put-from.ensures ∙ loop.invariant.same;
    }

pub shape_of-out : goal.shape_of-out
shape_of-out c = c.loop-j.invariant.long

pub returns : goal.returns
returns c =
    let args = c.args in
    let loop = c.loop-j in
    sym (puts-end args.s args.range.low args.range.high args.page.now args.entries loop.j loop.tally loop.out c.loop-j-test.false)
    ∙ (loop.invariant.same ∙ puts-start args.s args.range.low args.range.high args.page.now args.entries args.c args.out.now)
