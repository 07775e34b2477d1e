-- `batch::batch`: a turn takes the item at its index (Turns); behind the last one the turns are the rules' batch.
use Rattle.std.proofs.Common.{arith, ◌<◌, ◌≡◌, ◌∙◌, sym, ap, length, length-set}
use Rattle.batch.specs.Turns.{Running, running, turning, goes, fills}
use Rattle.batch.proofs.Turns.{stands_next, filled_next, stands_all, filled_all, turns-batch}
use Rattle.batch.proofs.batch.Goals as goal

pub loop-i-preserved : goal.loop-i-preserved
loop-i-preserved c =
    let l = c.loop-i in
    let t = c.args.stable.now in
    let below : l.i < length l.items = omega (arith, c.loop-i-test.true, l.invariant.long) in
    let m = running l.made l.working in
    let r = turning c.turn-turned.result c.turn-turned.new.working in
    let e = c.turn-turned.ensures in
    record {
      within = simp length-set (omega arith);
      long = length-set l.items l.i r.item ∙ l.invariant.long;
      stands = l.invariant.stands ∙ stands_next t l.items l.i _ below m r e;
      filled = l.invariant.filled ∙ filled_next t l.items l.i _ below m r e;
    }

pub returns : goal.returns
returns c =
    let l = c.loop-i in
    let end : l.i ≡ length l.items = omega arith in
    let t = c.args.stable.now in
    let m = running l.made l.working in
    turns-batch c.args.working.now t c.args.session c.args.items.now m l.items
    (ap (λ (b : Running). goes t b c.args.items.now) (sym c.begin-made.ensures) ∙ (l.invariant.stands ∙ stands_all t l.items l.i end m))
    (ap (λ (b : Running). fills t b c.args.items.now) (sym c.begin-made.ensures) ∙ (l.invariant.filled ∙ filled_all t l.items l.i end m))
