-- No second outcome satisfies a contract of this crate. Assumes nothing.
use mathlib.Core.Path.{sym, ◌∙◌}
use Rattle.tight.specs.Tight.{Tight}
use Rattle.fill.proofs as this

pub fill_tight : Tight this.fill.Kinds.ps this.fill.Kinds.r this.fill.Reads.Pre this.fill.Reads.Post
fill_tight κs a pre z z' l l' p q =
    let e = p ∙ sym q in
    ((λ i. record { count = (e i).lists.filled; report = (e i).report }), (λ i. ((e i).table, (tt, (tt, (tt, ((e i).lists.keys, ((e i).lists.records, tt))))))))

pub fill_known_tight : Tight this.fill_known.Kinds.ps this.fill_known.Kinds.r this.fill_known.Reads.Pre this.fill_known.Reads.Post
fill_known_tight κs a pre z z' l l' p q =
    let e = p ∙ sym q in
    ((λ i. (e i).filled), (λ i. (tt, (tt, ((e i).keys, ((e i).records, tt))))))

pub mend_tight : Tight this.mend.Kinds.ps this.mend.Kinds.r this.mend.Reads.Pre this.mend.Reads.Post
mend_tight κs a pre z z' l l' p q =
    let e = p ∙ sym q in
    ((λ i. (e i).report), (λ i. ((e i).left, l.1)))
