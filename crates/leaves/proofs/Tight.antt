-- No second outcome satisfies a contract of this crate. Assumes nothing.
use mathlib.Core.Path.{refl, sym, ◌∙◌}
use Rattle.tight.specs.Tight.{Tight}
use Rattle.leaves.proofs as this

pub start_tight : Tight this.start.Kinds.ps this.start.Kinds.r this.start.Reads.Pre this.start.Reads.Post
start_tight κs a pre z z' l l' p q = (p ∙ sym q, refl)

pub next_tight : Tight this.next.Kinds.ps this.next.Kinds.r this.next.Reads.Pre this.next.Reads.Post
next_tight κs a pre z z' l l' p q =
    let e = p ∙ sym q in
    ((λ i. (e i).next), (λ i. ((e i).table, l.1)))

pub leaves-over_tight : Tight this.Leaves.over.Kinds.ps this.Leaves.over.Kinds.r this.Leaves.over.Reads.Pre this.Leaves.over.Reads.Post
leaves-over_tight κs a pre z z' l l' p q = (p ∙ sym q, refl)

pub leaves-next_tight : Tight this.Leaves.next.Kinds.ps this.Leaves.next.Kinds.r this.Leaves.next.Reads.Pre this.Leaves.next.Reads.Post
leaves-next_tight κs a pre z z' l l' p q =
    let e = p ∙ sym q in
    ((λ i. (e i).step), (λ i. ((e i).walk, ((e i).table, l.1.1))))
