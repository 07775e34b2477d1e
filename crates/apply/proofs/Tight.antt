-- No second outcome satisfies a contract of this crate. Assumes nothing.
use mathlib.Core.Path.{refl, sym, ◌∙◌}
use mathlib.Core.List.{[]}
use Rattle.tight.specs.Tight.{Tight}
use Rattle.apply.proofs as this

pub apply_tight : Tight this.apply.Kinds.ps this.apply.Kinds.r this.apply.Reads.Pre this.apply.Reads.Post
apply_tight κs a pre z z' l l' p q =
    let e = p pre [] ∙ sym (q pre []) in
    (refl, λ i. ((e i).working, l.1))

pub marked_tight : Tight this.marked.Kinds.ps this.marked.Kinds.r this.marked.Reads.Pre this.marked.Reads.Post
marked_tight κs a pre z z' l l' p q = (p ∙ sym q, refl)
