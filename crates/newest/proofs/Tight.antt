-- No second outcome satisfies a contract of this crate. Assumes nothing.
use mathlib.Core.Path.{refl, sym, ◌∙◌}
use mathlib.Core.List.{[]}
use Rattle.rules.specs.Marks.{begun}
use Rattle.rules.specs.declared.Session.{Session}
use Rattle.tight.specs.Tight.{Tight}
use Rattle.newest.proofs as this

pub newest_tight : Tight this.newest.Kinds.ps this.newest.Kinds.r this.newest.Reads.Pre this.newest.Reads.Post
newest_tight κs a pre z z' l l' p q =
    let e = p ∙ sym q in
    ((λ i. record { answer = (e i).left.answer; report = (e i).report; session = (e i).left.session }), (λ i. ((e i).left.working, l.1)))

pub lean_tight : Tight this.lean.Kinds.ps this.lean.Kinds.r this.lean.Reads.Pre this.lean.Reads.Post
lean_tight κs a pre z z' l l' p q =
    let s : Session = begun a.1.1.0 a.1.1.1.0 0 [] [] in
    let e = p s refl refl ∙ sym (q s refl refl) in
    ((λ i. record { answer = (e i).left.answer; report = (e i).report }), (λ i. ((e i).left.working, l.1)))
