-- No second outcome satisfies a contract of this crate. Assumes nothing.
use mathlib.Core.Path.{refl, sym, ◌∙◌}
use Rattle.rules.specs.Marks.{nobody}
use Rattle.tight.specs.Tight.{Tight}
use Rattle.split.proofs as this

pub mark_tight : Tight this.mark.Kinds.ps this.mark.Kinds.r this.mark.Reads.Pre this.mark.Reads.Post
mark_tight κs a pre z z' l l' p q = (p ∙ sym q, refl)

-- of any session
pub halve_tight : Tight this.halve.Kinds.ps this.halve.Kinds.r this.halve.Reads.Pre this.halve.Reads.Post
halve_tight κs a pre z z' l l' p q =
    let e = p nobody ∙ sym (q nobody) in
    ((λ i. (e i).at), (λ i. ((e i).table, l.1)))

pub grow_tight : Tight this.grow.Kinds.ps this.grow.Kinds.r this.grow.Reads.Pre this.grow.Reads.Post
grow_tight κs a pre z z' l l' p q =
    let e = p nobody ∙ sym (q nobody) in
    (refl, λ i. ((e i).table, l.1))
