-- No second outcome satisfies a contract of this crate. Assumes nothing.
use mathlib.Core.Path.{sym, ◌∙◌}
use Rattle.tight.specs.Tight.{Tight}
use Rattle.enter.proofs as this

pub enter_tight : Tight this.enter.Kinds.ps this.enter.Kinds.r this.enter.Reads.Pre this.enter.Reads.Post
enter_tight κs a pre z z' l l' p q =
    let e = p ∙ sym q in
    ((λ i. (e i).answer), (λ i. ((e i).table, l.1)))
