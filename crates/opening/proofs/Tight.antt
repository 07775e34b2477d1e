-- No second outcome satisfies a contract of this crate. Assumes nothing.
use mathlib.Core.Path.{sym, ◌∙◌}
use Rattle.tight.specs.Tight.{Tight}
use Rattle.opening.proofs as this

pub open_tight : Tight this.open.Kinds.ps this.open.Kinds.r this.open.Reads.Pre this.open.Reads.Post
open_tight κs a pre z z' l l' p q =
    let e = p ∙ sym q in
    ((λ i. record { answer = (e i).answer; session = (e i).session }), (λ i. ((e i).working, ((e i).stable, l.1.1))))
