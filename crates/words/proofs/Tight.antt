-- No second outcome satisfies a contract of this crate. Assumes nothing.
use mathlib.Core.Path.{refl, sym, ◌∙◌}
use Rattle.tight.specs.Tight.{Tight}
use Rattle.words.proofs as this

pub spell_tight : Tight this.spell.Kinds.ps this.spell.Kinds.r this.spell.Reads.Pre this.spell.Reads.Post
spell_tight κs a pre z z' l l' p q = (p ∙ sym q, refl)
