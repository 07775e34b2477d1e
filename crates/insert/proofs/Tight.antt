-- No second outcome satisfies a contract of this crate. Assumes nothing.
use mathlib.Core.Path.{sym, ◌∙◌}
use Rattle.tight.specs.Tight.{Tight}
use Rattle.insert.proofs as this

pub insert_tight : Tight this.insert.Kinds.ps this.insert.Kinds.r this.insert.Reads.Pre this.insert.Reads.Post
insert_tight κs a pre z z' l l' p q =
    let e = p ∙ sym q in
    ((λ i. record { answer = (e i).left.answer; report = (e i).report; session = (e i).left.session }), (λ i. ((e i).left.working, l.1)))
