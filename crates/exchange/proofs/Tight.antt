-- No second outcome satisfies a contract of this crate. Assumes nothing.
use mathlib.Core.Path.{refl, sym, ◌∙◌}
use Rattle.tight.specs.Tight.{Tight}
use Rattle.exchange.proofs as this

pub check_tight : Tight this.check.Kinds.ps this.check.Kinds.r this.check.Reads.Pre this.check.Reads.Post
check_tight κs a pre z z' l l' p q = (p ∙ sym q, refl)

pub cert_at_tight : Tight this.cert_at.Kinds.ps this.cert_at.Kinds.r this.cert_at.Reads.Pre this.cert_at.Reads.Post
cert_at_tight κs a pre z z' l l' p q = (p ∙ sym q, refl)

pub put_model_tight : Tight this.put_model.Kinds.ps this.put_model.Kinds.r this.put_model.Reads.Pre this.put_model.Reads.Post
put_model_tight κs a pre z z' l l' p q = (refl, λ i. ((p ∙ sym q) i, l.1))

pub put_meter_tight : Tight this.put_meter.Kinds.ps this.put_meter.Kinds.r this.put_meter.Reads.Pre this.put_meter.Reads.Post
put_meter_tight κs a pre z z' l l' p q = (refl, λ i. ((p ∙ sym q) i, l.1))

pub put_cert_tight : Tight this.put_cert.Kinds.ps this.put_cert.Kinds.r this.put_cert.Reads.Pre this.put_cert.Reads.Post
put_cert_tight κs a pre z z' l l' p q = (refl, λ i. ((p ∙ sym q) i, l.1))

pub read_error-number_tight : Tight this.ReadErrorRefusal.number.Kinds.ps this.ReadErrorRefusal.number.Kinds.r this.ReadErrorRefusal.number.Reads.Pre this.ReadErrorRefusal.number.Reads.Post
read_error-number_tight κs a pre z z' l l' p q = (p ∙ sym q, refl)
