-- `read::enter_all`: at each turn the certificates left make, of what stands, what all of them make. Assumes nothing.
use Prim.Native.Nat.{◌+◌}
use mathlib.Core.Path.{sym, ap, ◌∙◌}
use lib.ListN.{drop}
use Rattle.rules.specs.declared.Report.{Report}
use Rattle.exchange.specs.Told.{certs_in}
use Rattle.exchange.specs.ReadFile.{as_item, as_items}
use Rattle.exchange.specs.declared.Certificate.{Certificate}
use Rattle.read.specs.Readings.{Running, running, one_more, goes}
use Rattle.read.proofs.Turns.{there, one_at_most, turn_at, turns-end}
use native.Mathlib.Omega.{arith}
use Rattle.read.proofs.enter_all.Goals as goal

pub cert_at-requires : goal.cert_at-requires
cert_at-requires c = there c.args.file.now c.args.count c.requires c.loop-place.place c.loop-place-test.true

pub loop-place-preserved : goal.loop-place-preserved
loop-place-preserved c =
    let e = c.enter-made.ensures ∙ ap (λ (x : Certificate). one_more c.args.stable.now (running c.loop-place.made c.loop-place.working) (as_item x)) c.cert_at.ensures in (
      omega (arith, c.loop-place.invariant.0, ap (λ (x : Running). x.done) c.enter-made.ensures, one_at_most c.args.stable.now (running c.loop-place.made c.loop-place.working) (as_item c.cert_at.result)),
      c.enter-made.auto.working ∙ c.loop-place.invariant.1,
      ap (λ (x : Running). goes c.args.stable.now x (drop (c.loop-place.place + 1) (as_items (certs_in c.args.file.now)))) e
          ∙ (sym (turn_at c.args.file.now c.args.count c.requires c.args.stable.now c.loop-place.place c.loop-place-test.true (running c.loop-place.made c.loop-place.working)) ∙ c.loop-place.invariant.2),
    )

pub returns : goal.returns
returns c =
    sym (turns-end c.args.file.now c.args.count c.requires c.args.stable.now c.loop-place.place (omega (arith, c.loop-place-test.false)) (running c.loop-place.made c.loop-place.working))
    ∙ (c.loop-place.invariant.2
    ∙ ap (λ (x : Report). goes c.args.stable.now (running (record { done = 0; report = x; session = c.args.session }) c.args.working.now) (as_items (certs_in c.args.file.now))) c.nothing.ensures)
