-- No second outcome satisfies a contract of this crate. Assumes nothing.
use mathlib.Core.Path.{refl, sym, ◌∙◌}
use Rattle.tight.specs.Tight.{Tight}
use Rattle.build.proofs as this

pub build_mended_tight : Tight this.build_mended.Kinds.ps this.build_mended.Kinds.r this.build_mended.Reads.Pre this.build_mended.Reads.Post
build_mended_tight κs a pre z z' l l' p q = (refl, λ i. ((p ∙ sym q) i, l.1))

pub middle_at_tight : Tight this.middle_at.Kinds.ps this.middle_at.Kinds.r this.middle_at.Reads.Pre this.middle_at.Reads.Post
middle_at_tight κs a pre z z' l l' p q = (p ∙ sym q, refl)

pub build_lower_tight : Tight this.build_lower.Kinds.ps this.build_lower.Kinds.r this.build_lower.Reads.Pre this.build_lower.Reads.Post
build_lower_tight κs a pre z z' l l' p q = (refl, λ i. ((p ∙ sym q) i, l.1))

pub build_upper_tight : Tight this.build_upper.Kinds.ps this.build_upper.Kinds.r this.build_upper.Reads.Pre this.build_upper.Reads.Post
build_upper_tight κs a pre z z' l l' p q = (refl, λ i. ((p ∙ sym q) i, l.1))

pub build_root_tight : Tight this.build_root.Kinds.ps this.build_root.Kinds.r this.build_root.Reads.Pre this.build_root.Reads.Post
build_root_tight κs a pre z z' l l' p q = (refl, λ i. ((p ∙ sym q) i, l.1))
