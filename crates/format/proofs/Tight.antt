-- No second outcome satisfies a contract of this crate. Assumes nothing.
use mathlib.Core.Path.{sym, ◌∙◌}
use Rattle.tight.specs.Tight.{Tight}
use Rattle.format.proofs as this

pub format_tight : Tight this.format.Kinds.ps this.format.Kinds.r this.format.Reads.Pre this.format.Reads.Post
format_tight κs a pre z z' l l' p q =
    let e = p ∙ sym q in
    ((λ i. (e i).answer), (λ i. (l.0, ((e i).stable, l.1.1))))
