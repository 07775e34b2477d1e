-- No second outcome satisfies a contract of this crate. Assumes nothing.
use mathlib.Core.Path.{sym, ◌∙◌}
use Rattle.tight.specs.Tight.{Tight}
use Rattle.withdraw.proofs as this

pub withdraw_tight : Tight this.withdraw.Kinds.ps this.withdraw.Kinds.r this.withdraw.Reads.Pre this.withdraw.Reads.Post
withdraw_tight κs a pre z z' l l' p q =
    let e = p ∙ sym q in
    ((λ i. record { answer = (e i).left.answer; report = (e i).report; session = (e i).left.session }), (λ i. ((e i).left.working, l.1)))
