-- `sections::put_meter`: a meter that is there already is not written. Assumes nothing.
use mathlib.Core.Path.{sym, ap, ◌∙◌}
use Prim.Native.Nat.{ℕ, ◌+◌, ◌*◌, ◌/◌, ◌%◌}
use Rattle.exchange.specs.Item.{item_for, put_item}
use Rattle.exchange.specs.declared.Section.{Section}
use Rattle.sections.proofs.Puts.{meter-same, meter-new}
use Rattle.sections.proofs.put_meter.Goals as goal

pub returns-then-d-c : goal.returns-then-d-c
returns-then-d-c c = sym (meter-same c.args.c c.args.d c.args.key c.args.out.now c.args.s c.if-d-c.true)

pub returns : goal.returns
returns c = c.put_meter.ensures ∙ ap (λ (p : ℕ). put_item Section.Meters c.args.out.now (c.args.s.meters + 6 * c.args.c.meters) (item_for p (c.args.key / 65536 % 4294967296) 0)) c.saturating_sub-place.ensures ∙ sym (meter-new c.args.c c.args.d c.args.key c.args.out.now c.args.s c.if-d-c.false)
