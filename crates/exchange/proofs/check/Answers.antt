-- `exchange::check`: section by section, each behind the one before it, and nothing behind the last one.
-- Assumes nothing.
use Prim.Native.Nat.{ℕ}
use mathlib.Core.Path.{◌≡◌, sym, ap, ◌∙◌}
use Rattle.std.specs.Prelude.{Ok, Err}
use Rattle.std.proofs.Common.{rules}
use Rattle.fields.specs.Field.{le_at}
use Rattle.exchange.specs.Judged.{end_at}
use Rattle.exchange.specs.declared.Section.{Section}
use Rattle.exchange.proofs.Parts.{fine_after, end-surplus, end_fine, counted_bad, counted_fine, meters_at_by, certs_at_by, end_at_by, check_as, past_models, stops_models, past_meters, stops_meters, past_certs, stops_certs}
use Rattle.exchange.proofs.Steps.{after_is}
use native.Mathlib.Omega.{arith}
use Rattle.exchange.proofs.check.Goals as goal

pub returns-in_err-section_judged : goal.returns-in_err-section_judged
returns-in_err-section_judged c =
    let f = c.args.f.now in
    let e : c.from_residual.result ≡ Err c.in_err-section_judged.field-0.0 = search rules in
    e ∙ sym (stops_models f _ c.in_err-section_judged.ensures)

pub get32-models-requires : goal.get32-models-requires
get32-models-requires c =
    let f = c.args.f.now in
    let s = fine_after Section.Models f 1 1 0 (sym c.in_ok-section_judged.ensures) in
    omega (arith, s, after_is Section.Models f 0)

pub after-before-requires : goal.after-before-requires
after-before-requires c = fine_after Section.Models c.args.f.now 1 1 0 (sym c.in_ok-section_judged.ensures)

pub section_judged-requires-2 : goal.section_judged-requires-2
section_judged-requires-2 c =
    omega (
      arith,
      c.after-before.ensures,
      fine_after Section.Models c.args.f.now 1 1 0 (sym c.in_ok-section_judged.ensures),
    )

pub returns-in_err-section_judged-2 : goal.returns-in_err-section_judged-2
returns-in_err-section_judged-2 c =
    let f = c.args.f.now in
    let e : c.from_residual-in_err-section_judged-2.result ≡ Err c.in_err-section_judged-2.field-0.0 = search rules in
    e ∙ sym
    (stops_meters f _ _ c.get32-models.ensures (meters_at_by f c.after-before.ensures) (past_models f c.in_ok-section_judged.ensures)
    _ c.in_err-section_judged-2.ensures)

pub get32-meters-requires : goal.get32-meters-requires
get32-meters-requires c =
    let f = c.args.f.now in
    let at = c.after-before.result in
    let s = fine_after Section.Meters f c.get32-models.result 0 at (sym c.in_ok-section_judged-2.ensures) in
    omega (arith, s, after_is Section.Meters f at)

pub after-at-requires : goal.after-at-requires
after-at-requires c =
    fine_after Section.Meters c.args.f.now c.get32-models.result 0 c.after-before.result
    (sym c.in_ok-section_judged-2.ensures)

pub section_judged-requires-3 : goal.section_judged-requires-3
section_judged-requires-3 c =
    omega (
      arith,
      c.after-at.ensures,
      fine_after Section.Meters c.args.f.now c.get32-models.result 0 c.after-before.result (sym c.in_ok-section_judged-2.ensures),
    )

pub returns-in_err-section_judged-3 : goal.returns-in_err-section_judged-3
returns-in_err-section_judged-3 c =
    let f = c.args.f.now in
    let e : c.from_residual-in_err-section_judged-3.result ≡ Err c.in_err-section_judged-3.field-0.0 = search rules in
    let b = meters_at_by f c.after-before.ensures in
    let m = past_meters f _ _ c.get32-models.ensures b (past_models f c.in_ok-section_judged.ensures)
    c.in_ok-section_judged-2.ensures in
    e ∙ sym
    (stops_certs f _ _ (c.get32-meters.ensures ∙ ap (λ (n : ℕ). le_at f n 4) b) (certs_at_by f b c.after-at.ensures) m
    _ c.in_err-section_judged-3.ensures)

pub after-end-requires : goal.after-end-requires
after-end-requires c =
    fine_after Section.Certificates c.args.f.now c.get32-meters.result 0 c.after-at.result
    (sym c.in_ok-section_judged-3.ensures)

pub returns-then-end-f : goal.returns-then-end-f
returns-then-end-f c =
    let f = c.args.f.now in
    let b = meters_at_by f c.after-before.ensures in
    let a = certs_at_by f b c.after-at.ensures in
    let m = past_meters f _ _ c.get32-models.ensures b (past_models f c.in_ok-section_judged.ensures)
    c.in_ok-section_judged-2.ensures in
    let j = past_certs f _ _ (c.get32-meters.ensures ∙ ap (λ (n : ℕ). le_at f n 4) b) a m
    c.in_ok-section_judged-3.ensures in
    let e = end_at_by f a c.after-end.ensures in
    ap (λ (n : ℕ). Err n) e
    ∙ sym (check_as f (j ∙ end-surplus f (λ g. c.if-end-f.true (e ∙ g))) ∙ counted_bad f (end_at f))

pub get32-requires : goal.get32-requires
get32-requires c =
    let f = c.args.f.now in
    let at = c.after-at.result in
    let s = fine_after Section.Certificates f c.get32-meters.result 0 at (sym c.in_ok-section_judged-3.ensures) in
    omega (arith, s, after_is Section.Certificates f at)

pub returns : goal.returns
returns c =
    let f = c.args.f.now in
    let b = meters_at_by f c.after-before.ensures in
    let a = certs_at_by f b c.after-at.ensures in
    let m = past_meters f _ _ c.get32-models.ensures b (past_models f c.in_ok-section_judged.ensures)
    c.in_ok-section_judged-2.ensures in
    let j = past_certs f _ _ (c.get32-meters.ensures ∙ ap (λ (n : ℕ). le_at f n 4) b) a m
    c.in_ok-section_judged-3.ensures in
    let e = end_at_by f a c.after-end.ensures in
    ap (λ (n : ℕ). Ok n) (c.get32.ensures ∙ ap (λ (n : ℕ). le_at f n 4) a)
    ∙ sym (check_as f (j ∙ end_fine f (sym e ∙ c.if-end-f.false)) ∙ counted_fine f)
