-- No second outcome satisfies a contract of this crate. Assumes nothing.
use mathlib.Core.Path.{refl, sym, ◌∙◌}
use Rattle.tight.specs.Tight.{Tight}
use Rattle.sections.proofs as this

pub starts_of_tight : Tight this.starts_of.Kinds.ps this.starts_of.Kinds.r this.starts_of.Reads.Pre this.starts_of.Reads.Post
starts_of_tight κs a pre z z' l l' p q = (p ∙ sym q, refl)

pub put_counts_tight : Tight this.put_counts.Kinds.ps this.put_counts.Kinds.r this.put_counts.Reads.Pre this.put_counts.Reads.Post
put_counts_tight κs a pre z z' l l' p q = (refl, λ i. ((p ∙ sym q) i, l.1))

pub put_leaf_tight : Tight this.put_leaf.Kinds.ps this.put_leaf.Kinds.r this.put_leaf.Reads.Pre this.put_leaf.Reads.Post
put_leaf_tight κs a pre z z' l l' p q =
    let e = p ∙ sym q in
    ((λ i. (e i).tally), (λ i. (l.0, (l.1.0, (l.1.1.0, (l.1.1.1.0, (l.1.1.1.1.0, ((e i).out, l.1.1.1.1.1.1))))))))
