-- `exchange::cert_at`: the certificate by its place, its meter and its model by the places that are read there.
-- Assumes nothing.
use Prim.Native.Nat.{ℕ, ◌+◌, ◌≤◌}
use mathlib.Core.Path.{refl, ap, ◌∙◌}
use lib.ListN.{length}
use Rattle.fields.specs.Field.{le_at}
use Rattle.exchange.specs.Judged.{after}
use Rattle.exchange.specs.declared.Section.{Section}
use Rattle.exchange.proofs.Parts.{meters_at_by}
use Rattle.exchange.proofs.Places.{models-end, meters-end, cert_made, cert_spot, cert_room, meter_room, model_room, meter_made}
use native.Mathlib.Omega.{arith}
use Rattle.exchange.proofs.cert_at.Goals as goal
use Rattle.exchange.proofs.cert_at.Goals.{After-item_from-cert, After-item_from-meter}

pub after-meters-requires : goal.after-meters-requires
after-meters-requires c = models-end c.args.f.now c.requires.0

pub after-certs-requires : goal.after-certs-requires
after-certs-requires c =
    let a = c.args in
    omega (
      arith,
      meters-end a.f.now c.requires.0,
      ap (after Section.Meters a.f.now) (meters_at_by a.f.now c.after-meters.ensures),
    )

pub item_from-cert-requires : goal.item_from-cert-requires
item_from-cert-requires c =
    let a = c.args in
    omega (
      arith,
      cert_room a.f.now c.requires.0 a.place c.requires.1 c.after-meters.ensures c.after-certs.ensures refl,
      c.well_formed.0.0,
    )

-- the certificate's ten bytes lie within the file, as do the meter's six and the model's two
cert_lies : (c : After-item_from-cert) → c.item_from-cert.result + 10 ≤ length c.args.f.now
cert_lies c =
    let a = c.args in
    cert_room a.f.now c.requires.0 a.place c.requires.1 c.after-meters.ensures c.after-certs.ensures c.item_from-cert.ensures

meter_lies : (c : After-item_from-meter) → c.item_from-meter.result + 6 ≤ length c.args.f.now
meter_lies c =
    let a = c.args in
    meter_room a.f.now c.requires.0 a.place c.requires.1 c.after-meters.ensures c.after-certs.ensures c.item_from-cert.ensures
    c.get32.result c.get32.ensures c.item_from-meter.result c.item_from-meter.ensures

pub get32-requires : goal.get32-requires
get32-requires c = omega (arith, cert_lies (goal.at.get32-requires c).After-item_from-cert)

pub item_from-meter-requires : goal.item_from-meter-requires
item_from-meter-requires c =
    let a = c.args in
    omega (
      arith,
      meter_room a.f.now c.requires.0 a.place c.requires.1 c.after-meters.ensures c.after-certs.ensures c.item_from-cert.ensures c.get32.result c.get32.ensures _ refl,
      c.well_formed.0.0,
    )

pub get16-requires : goal.get16-requires
get16-requires c = omega (arith, meter_lies (goal.at.get16-requires c).After-item_from-meter)

pub item_from-model-requires : goal.item_from-model-requires
item_from-model-requires c =
    let a = c.args in
    omega (
      arith,
      model_room a.f.now c.requires.0 a.place c.requires.1 c.after-meters.ensures c.after-certs.ensures c.item_from-cert.ensures c.get32.result c.get32.ensures _ c.item_from-meter.ensures c.from.result (c.from.ensures ∙ c.get16.ensures),
      c.well_formed.0.0,
    )

pub get16-requires-2 : goal.get16-requires-2
get16-requires-2 c =
    let a = c.args in
    omega (
      arith,
      c.item_from-model.ensures,
      model_room a.f.now c.requires.0 a.place c.requires.1 c.after-meters.ensures c.after-certs.ensures c.item_from-cert.ensures c.get32.result c.get32.ensures _ c.item_from-meter.ensures c.from.result (c.from.ensures ∙ c.get16.ensures),
    )

pub overflow_add-meter : goal.overflow_add-meter
overflow_add-meter c =
    omega (arith, meter_lies (goal.at.overflow_add-meter c).After-item_from-meter, c.well_formed.0.0)

pub get32-requires-2 : goal.get32-requires-2
get32-requires-2 c = omega (arith, meter_lies (goal.at.get32-requires-2 c).After-item_from-meter)

pub overflow_add-cert : goal.overflow_add-cert
overflow_add-cert c =
    omega (arith, cert_lies (goal.at.overflow_add-cert c).After-item_from-cert, c.well_formed.0.0)

pub get16-requires-3 : goal.get16-requires-3
get16-requires-3 c = omega (arith, cert_lies (goal.at.get16-requires-3 c).After-item_from-cert)

pub overflow_add-cert-2 : goal.overflow_add-cert-2
overflow_add-cert-2 c =
    omega (arith, cert_lies (goal.at.overflow_add-cert-2 c).After-item_from-cert, c.well_formed.0.0)

pub get32-requires-3 : goal.get32-requires-3
get32-requires-3 c = omega (arith, cert_lies (goal.at.get32-requires-3 c).After-item_from-cert)

pub returns : goal.returns
returns c =
    let a = c.args in
    let f = a.f.now in
    let model = c.get16-2.ensures ∙ ap (λ (n : ℕ). le_at f n 2) c.item_from-model.ensures in
    cert_made f a.place c.item_from-cert.result c.requires.1
    (cert_spot f c.requires.0 a.place c.requires.1 c.after-meters.ensures c.after-certs.ensures c.item_from-cert.ensures)
    c.get16-2.result c.get32-2.result c.get16-3.result c.get32-3.result
    (meter_made f c.requires.0 a.place c.requires.1 c.after-meters.ensures c.after-certs.ensures c.item_from-cert.ensures
    c.get32.result c.get32.ensures _ c.item_from-meter.ensures c.from.result (c.from.ensures ∙ c.get16.ensures) _ _ model c.get32-2.ensures)
    c.get16-3.ensures c.get32-3.ensures (omega (arith, c.get32-2.type_inv)) (omega (arith, c.get16-3.type_inv))
