-- No second outcome satisfies a contract of this crate. Assumes nothing.
use Rattle.std.proofs.Common.{sym, refl, ◌∙◌}
use Rattle.tight.specs.Tight.{Tight}
use Rattle.sound.proofs as this

pub sound_tight : Tight this.sound.Kinds.ps this.sound.Kinds.r this.sound.Reads.Pre this.sound.Reads.Post
sound_tight κs a pre z z' l l' p q = (p ∙ sym q, refl)

pub unfit_tight : Tight this.unfit.Kinds.ps this.unfit.Kinds.r this.unfit.Reads.Pre this.unfit.Reads.Post
unfit_tight κs a pre z z' l l' p q = (p ∙ sym q, refl)

pub unfit_at_tight : Tight this.unfit_at.Kinds.ps this.unfit_at.Kinds.r this.unfit_at.Reads.Pre this.unfit_at.Reads.Post
unfit_at_tight κs a pre z z' l l' p q = (p ∙ sym q, refl)

pub fits_at_tight : Tight this.fits_at.Kinds.ps this.fits_at.Kinds.r this.fits_at.Reads.Pre this.fits_at.Reads.Post
fits_at_tight κs a pre z z' l l' p q = (p ∙ sym q, refl)

pub mendable_at_tight : Tight this.mendable_at.Kinds.ps this.mendable_at.Kinds.r this.mendable_at.Reads.Pre this.mendable_at.Reads.Post
mendable_at_tight κs a pre z z' l l' p q = (p ∙ sym q, refl)
