-- No second outcome satisfies a contract of this crate. Assumes nothing.
use mathlib.Core.Path.{refl, sym, ◌∙◌}
use Rattle.tight.specs.Tight.{Tight}
use Rattle.fields.proofs as this

pub get16_tight : Tight this.get16.Kinds.ps this.get16.Kinds.r this.get16.Reads.Pre this.get16.Reads.Post
get16_tight κs a pre z z' l l' p q = (p ∙ sym q, refl)

pub get32_tight : Tight this.get32.Kinds.ps this.get32.Kinds.r this.get32.Reads.Pre this.get32.Reads.Post
get32_tight κs a pre z z' l l' p q = (p ∙ sym q, refl)

pub get64_tight : Tight this.get64.Kinds.ps this.get64.Kinds.r this.get64.Reads.Pre this.get64.Reads.Post
get64_tight κs a pre z z' l l' p q = (p ∙ sym q, refl)

pub put16_tight : Tight this.put16.Kinds.ps this.put16.Kinds.r this.put16.Reads.Pre this.put16.Reads.Post
put16_tight κs a pre z z' l l' p q = (refl, λ i. ((p ∙ sym q) i, l.1))

pub put32_tight : Tight this.put32.Kinds.ps this.put32.Kinds.r this.put32.Reads.Pre this.put32.Reads.Post
put32_tight κs a pre z z' l l' p q = (refl, λ i. ((p ∙ sym q) i, l.1))

pub put64_tight : Tight this.put64.Kinds.ps this.put64.Kinds.r this.put64.Reads.Pre this.put64.Reads.Post
put64_tight κs a pre z z' l l' p q = (refl, λ i. ((p ∙ sym q) i, l.1))
