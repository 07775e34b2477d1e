-- No second outcome satisfies a contract of this crate. Assumes nothing.
use mathlib.Core.Path.{refl, sym, ◌∙◌}
use Rattle.tight.specs.Tight.{Tight}
use Rattle.read.proofs as this

pub read_file_tight : Tight this.read_file.Kinds.ps this.read_file.Kinds.r this.read_file.Reads.Pre this.read_file.Reads.Post
read_file_tight κs a pre z z' l l' p q =
    let e = p ∙ sym q in
    ((λ i. record { answer = (e i).left.answer; report = (e i).report; session = (e i).left.session }), (λ i. ((e i).left.working, l.1)))

pub done_tight : Tight this.done.Kinds.ps this.done.Kinds.r this.done.Reads.Pre this.done.Reads.Post
done_tight κs a pre z z' l l' p q = (p ∙ sym q, refl)

pub place_tight : Tight this.place.Kinds.ps this.place.Kinds.r this.place.Reads.Pre this.place.Reads.Post
place_tight κs a pre z z' l l' p q = (p ∙ sym q, refl)
