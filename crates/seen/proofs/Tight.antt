-- No second outcome satisfies a contract of this crate. Assumes nothing.
use Rattle.std.proofs.Common.{sym, refl, ◌∙◌}
use Rattle.tight.specs.Tight.{Tight}
use Rattle.seen.proofs as this

pub walk_tight : Tight this.walk.Kinds.ps this.walk.Kinds.r this.walk.Reads.Pre this.walk.Reads.Post
walk_tight κs a pre z z' l l' p q = (p ∙ sym q, refl)

pub good_tight : Tight this.good.Kinds.ps this.good.Kinds.r this.good.Reads.Pre this.good.Reads.Post
good_tight κs a pre z z' l l' p q = (p ∙ sym q, refl)

pub run_in_tight : Tight this.run_in.Kinds.ps this.run_in.Kinds.r this.run_in.Reads.Pre this.run_in.Reads.Post
run_in_tight κs a pre z z' l l' p q = (p ∙ sym q, refl)

pub marked_tight : Tight this.marked.Kinds.ps this.marked.Kinds.r this.marked.Reads.Pre this.marked.Reads.Post
marked_tight κs a pre z z' l l' p q = (p ∙ sym q, refl)

pub mark_tight : Tight this.mark.Kinds.ps this.mark.Kinds.r this.mark.Reads.Pre this.mark.Reads.Post
mark_tight κs a pre z z' l l' p q = (refl, λ i. ((p ∙ sym q) i, l.1))

pub place_in_tight : Tight this.place_in.Kinds.ps this.place_in.Kinds.r this.place_in.Reads.Pre this.place_in.Reads.Post
place_in_tight κs a pre z z' l l' p q = (p ∙ sym q, refl)

pub rest_of_tight : Tight this.rest_of.Kinds.ps this.rest_of.Kinds.r this.rest_of.Reads.Pre this.rest_of.Reads.Post
rest_of_tight κs a pre z z' l l' p q = (p ∙ sym q, refl)
