-- No second outcome satisfies a contract of this crate. Assumes nothing.
use mathlib.Core.Path.{refl, sym, ◌∙◌}
use Rattle.tight.specs.Tight.{Tight}
use Rattle.marks.proofs as this

pub turn_tight : Tight this.turn.Kinds.ps this.turn.Kinds.r this.turn.Reads.Pre this.turn.Reads.Post
turn_tight κs a pre z z' l l' p q = (p ∙ sym q, refl)

pub nobody_tight : Tight this.nobody.Kinds.ps this.nobody.Kinds.r this.nobody.Reads.Pre this.nobody.Reads.Post
nobody_tight κs a pre z z' l l' p q = (p ∙ sym q, refl)

pub opened_tight : Tight this.opened.Kinds.ps this.opened.Kinds.r this.opened.Reads.Pre this.opened.Reads.Post
opened_tight κs a pre z z' l l' p q = (p ∙ sym q, refl)

pub first_free_tight : Tight this.first_free.Kinds.ps this.first_free.Kinds.r this.first_free.Reads.Pre this.first_free.Reads.Post
first_free_tight κs a pre z z' l l' p q = (p ∙ sym q, refl)

pub lowest_tight : Tight this.lowest.Kinds.ps this.lowest.Kinds.r this.lowest.Reads.Pre this.lowest.Reads.Post
lowest_tight κs a pre z z' l l' p q = (p ∙ sym q, refl)
