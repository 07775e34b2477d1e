-- No second outcome satisfies a contract of this crate. Assumes nothing.
use mathlib.Core.Path.{refl, sym, ◌∙◌}
use Rattle.tight.specs.Tight.{Tight}
use Rattle.plan.proofs as this

pub is_full_tight : Tight this.is_full.Kinds.ps this.is_full.Kinds.r this.is_full.Reads.Pre this.is_full.Reads.Post
is_full_tight κs a pre z z' l l' p q = (p ∙ sym q, refl)

pub splits_tight : Tight this.splits.Kinds.ps this.splits.Kinds.r this.splits.Reads.Pre this.splits.Reads.Post
splits_tight κs a pre z z' l l' p q = (p ∙ sym q, refl)

pub choose_tight : Tight this.choose.Kinds.ps this.choose.Kinds.r this.choose.Reads.Pre this.choose.Reads.Post
choose_tight κs a pre z z' l l' p q = (p ∙ sym q, refl)

pub plan_tight : Tight this.plan.Kinds.ps this.plan.Kinds.r this.plan.Reads.Pre this.plan.Reads.Post
plan_tight κs a pre z z' l l' p q = (p pre ∙ sym (q pre), refl)
