-- No second outcome satisfies a contract of this crate. Assumes nothing.
use mathlib.Core.Path.{refl, sym, ◌∙◌}
use Rattle.tight.specs.Tight.{Tight}
use Rattle.edit.proofs as this

pub put_cert_tight : Tight this.put_cert.Kinds.ps this.put_cert.Kinds.r this.put_cert.Reads.Pre this.put_cert.Reads.Post
put_cert_tight κs a pre z z' l l' p q = (refl, λ i. ((p ∙ sym q) i, l.1))

pub remove_cert_tight : Tight this.remove_cert.Kinds.ps this.remove_cert.Kinds.r this.remove_cert.Reads.Pre this.remove_cert.Reads.Post
remove_cert_tight κs a pre z z' l l' p q = (refl, λ i. ((p ∙ sym q) i, l.1))

pub put_twins_tight : Tight this.put_twins.Kinds.ps this.put_twins.Kinds.r this.put_twins.Reads.Pre this.put_twins.Reads.Post
put_twins_tight κs a pre z z' l l' p q = (refl, λ i. ((p ∙ sym q) i, l.1))
