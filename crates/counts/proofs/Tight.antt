-- No second outcome satisfies a contract of this crate. Assumes nothing.
use mathlib.Core.Path.{refl, sym, ◌∙◌}
use Rattle.tight.specs.Tight.{Tight}
use Rattle.counts.proofs as this

pub everything_tight : Tight this.everything.Kinds.ps this.everything.Kinds.r this.everything.Reads.Pre this.everything.Reads.Post
everything_tight κs a pre z z' l l' p q = (p ∙ sym q, refl)

pub counted_tight : Tight this.counted.Kinds.ps this.counted.Kinds.r this.counted.Reads.Pre this.counted.Reads.Post
counted_tight κs a pre z z' l l' p q = (p ∙ sym q, refl)

pub count_of_tight : Tight this.count_of.Kinds.ps this.count_of.Kinds.r this.count_of.Reads.Pre this.count_of.Reads.Post
count_of_tight κs a pre z z' l l' p q = (p ∙ sym q, refl)
