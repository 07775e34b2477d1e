-- No second outcome satisfies a contract of this crate. Assumes nothing.
use mathlib.Core.Path.{refl, sym, ◌∙◌}
use Rattle.tight.specs.Tight.{Tight}
use Rattle.keys.proofs as this

pub good_parts_tight : Tight this.good_parts.Kinds.ps this.good_parts.Kinds.r this.good_parts.Reads.Pre this.good_parts.Reads.Post
good_parts_tight κs a pre z z' l l' p q = (p ∙ sym q, refl)

pub key_of_tight : Tight this.key_of.Kinds.ps this.key_of.Kinds.r this.key_of.Reads.Pre this.key_of.Reads.Post
key_of_tight κs a pre z z' l l' p q = (p ∙ sym q, refl)
