-- No second outcome satisfies a contract of this crate. Assumes nothing.
use mathlib.Core.Path.{refl, sym, ◌∙◌}
use mathlib.Core.List.{[]}
use Rattle.rules.specs.Marks.{begun}
use Rattle.rules.specs.declared.Session.{Session}
use Rattle.tight.specs.Tight.{Tight}
use Rattle.lookup.proofs as this

pub lookup_tight : Tight this.lookup.Kinds.ps this.lookup.Kinds.r this.lookup.Reads.Pre this.lookup.Reads.Post
lookup_tight κs a pre z z' l l' p q =
    let e = p ∙ sym q in
    ((λ i. record { answer = (e i).left.answer; report = (e i).report; session = (e i).left.session }), (λ i. ((e i).left.working, l.1)))

pub lean_tight : Tight this.lean.Kinds.ps this.lean.Kinds.r this.lean.Reads.Pre this.lean.Reads.Post
lean_tight κs a pre z z' l l' p q =
    let s : Session = begun a.1.1.0 a.1.1.1.0 0 [] [] in
    let e = p s refl refl ∙ sym (q s refl refl) in
    ((λ i. record { answer = (e i).left.answer; report = (e i).report }), (λ i. ((e i).left.working, l.1)))

pub find_at_tight : Tight this.find_at.Kinds.ps this.find_at.Kinds.r this.find_at.Reads.Pre this.find_at.Reads.Post
find_at_tight κs a pre z z' l l' p q = (p ∙ sym q, refl)

pub find_on_tight : Tight this.find_on.Kinds.ps this.find_on.Kinds.r this.find_on.Reads.Pre this.find_on.Reads.Post
find_on_tight κs a pre z z' l l' p q = (p ∙ sym q, refl)
