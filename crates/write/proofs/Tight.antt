-- No second outcome satisfies a contract of this crate. Assumes nothing.
use mathlib.Core.Path.{refl, sym, ◌∙◌}
use mathlib.Core.List.{[]}
use Rattle.rules.specs.Marks.{begun}
use Rattle.rules.specs.declared.Session.{Session}
use Rattle.tight.specs.Tight.{Tight}
use Rattle.write.proofs as this

pub length_of_tight : Tight this.length_of.Kinds.ps this.length_of.Kinds.r this.length_of.Reads.Pre this.length_of.Reads.Post
length_of_tight κs a pre z z' l l' p q = (p ∙ sym q, refl)

pub write_file_tight : Tight this.write_file.Kinds.ps this.write_file.Kinds.r this.write_file.Reads.Pre this.write_file.Reads.Post
write_file_tight κs a pre z z' l l' p q =
    let e = p ∙ sym q in (
      (λ i. record { answer = (e i).left.answer; report = (e i).report; session = (e i).left.session }),
      (λ i. ((e i).left.working, (tt, (tt, ((e i).left.out, tt))))),
    )

pub lean_tight : Tight this.lean.Kinds.ps this.lean.Kinds.r this.lean.Reads.Pre this.lean.Reads.Post
lean_tight κs a pre z z' l l' p q =
    let s : Session = begun a.1.1.0 a.1.1.1.0 0 [] [] in
    let e = p s refl refl ∙ sym (q s refl refl) in
    let rest = l.1.1.1.1.1 in (
      (λ i. record { answer = (e i).left.answer; report = (e i).report }),
      (λ i. ((e i).left.working, (l.1.0, (l.1.1.0, (l.1.1.1.0, ((e i).left.out, rest)))))),
    )

pub write_error-number_tight : Tight this.WriteErrorRefusal.number.Kinds.ps this.WriteErrorRefusal.number.Kinds.r this.WriteErrorRefusal.number.Reads.Pre this.WriteErrorRefusal.number.Reads.Post
write_error-number_tight κs a pre z z' l l' p q = (p ∙ sym q, refl)
