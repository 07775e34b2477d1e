-- No second outcome satisfies a contract of this crate. Assumes nothing.
use mathlib.Core.Path.{sym, ◌∙◌}
use Rattle.tight.specs.Tight.{Tight}
use Rattle.sync.proofs as this

pub sync_tight : Tight this.sync.Kinds.ps this.sync.Kinds.r this.sync.Reads.Pre this.sync.Reads.Post
sync_tight κs a pre z z' l l' p q =
    let e = p ∙ sym q in
    ((λ i. record { answer = (e i).answer; session = (e i).session }), (λ i. ((e i).working, ((e i).stable, l.1.1))))
