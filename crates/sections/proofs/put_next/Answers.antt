-- `sections::put_next`: model, meter, certificate. Assumes nothing.
use Rattle.sections.specs.Puts.{put_next}
use Rattle.sections.proofs.Puts.{next-room}
use native.Mathlib.Omega.{arith}
use Rattle.sections.proofs.put_next.Goals as goal

pub put_model-requires : goal.put_model-requires
put_model-requires c =
    let r = next-room c.args.c c.args.key c.requires.0 c.requires.2 c.counted-d.result c.counted-d.ensures in
    (r.models, r.models_lie)

pub put_meter-requires : goal.put_meter-requires
put_meter-requires c =
    let r = next-room c.args.c c.args.key c.requires.0 c.requires.2 c.counted-d.result c.counted-d.ensures in
    (r.meters, r.names, omega (arith, r.meters_lie, c.put_model.auto.out))

pub put_cert-requires : goal.put_cert-requires
put_cert-requires c =
    let r = next-room c.args.c c.args.key c.requires.0 c.requires.2 c.counted-d.result c.counted-d.ensures in
    (r.certs, r.meters_few, omega (arith, r.certs_lie, c.put_model.auto.out, c.put_meter.auto.out))

pub returns : goal.returns
unfolding put_next
returns c = rw (c.put_cert.ensures, c.put_meter.ensures, c.put_model.ensures, c.counted-d.ensures)
