-- No second outcome satisfies a contract of this crate. Assumes nothing.
use mathlib.Core.Path.{refl, sym, ◌∙◌}
use Rattle.tight.specs.Tight.{Tight}
use Rattle.seek.proofs as this

pub guess_tight : Tight this.guess.Kinds.ps this.guess.Kinds.r this.guess.Reads.Pre this.guess.Reads.Post
guess_tight κs a pre z z' l l' p q = (p ∙ sym q, refl)

pub seek_tight : Tight this.seek.Kinds.ps this.seek.Kinds.r this.seek.Reads.Pre this.seek.Reads.Post
seek_tight κs a pre z z' l l' p q = (p ∙ sym q, refl)

pub confirm_tight : Tight this.confirm.Kinds.ps this.confirm.Kinds.r this.confirm.Reads.Pre this.confirm.Reads.Post
confirm_tight κs a pre z z' l l' p q = (p ∙ sym q, refl)
