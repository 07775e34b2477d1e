-- No second outcome satisfies a contract of this crate. That of `batch` is also read as the crate `batch` writes it out:
-- `batch_ensures_is`. Assumes nothing.
use mathlib.Core.Path.{◌≡◌, refl, sym, ◌∙◌}
use mathlib.Core.List.{[]}
use Rattle.rules.specs.Marks.{begun}
use Rattle.rules.specs.declared.Session.{Session}
use seplogic.Ra.Ura.{Ura}
use base.Logic.{SProp}
use prog.Memory.{Memory}
use prog.Routine.{Routine}
use types.Logic.{Logic}
use contract.Lifetimes.{Lfts}
use contract.Monad.{Fun, fact}
use denote.Triple.Entry.{Args}
use denote.Triple.Clauses.{Lasts, at_exit}
use Rattle.rules.specs.Handing.{Batching}
use Rattle.tight.specs.Tight.{Tight}
use Rattle.batch.proofs.Tight as below
use Rattle.store.specs.contracts.batch as stated
use Rattle.store.proofs as this

pub format_tight : Tight this.format.Kinds.ps this.format.Kinds.r this.format.Reads.Pre this.format.Reads.Post
format_tight κs a pre z z' l l' p q =
    let e = p ∙ sym q in
    ((λ i. (e i).answer), (λ i. (l.0, ((e i).stable, l.1.1))))

pub open_tight : Tight this.open.Kinds.ps this.open.Kinds.r this.open.Reads.Pre this.open.Reads.Post
open_tight κs a pre z z' l l' p q =
    let e = p ∙ sym q in
    ((λ i. record { answer = (e i).answer; session = (e i).session }), (λ i. ((e i).working, ((e i).stable, l.1.1))))

pub insert_tight : Tight this.insert.Kinds.ps this.insert.Kinds.r this.insert.Reads.Pre this.insert.Reads.Post
insert_tight κs a pre z z' l l' p q =
    let e = p ∙ sym q in
    ((λ i. record { answer = (e i).left.answer; report = (e i).report; session = (e i).left.session }), (λ i. ((e i).left.working, l.1)))

pub withdraw_tight : Tight this.withdraw.Kinds.ps this.withdraw.Kinds.r this.withdraw.Reads.Pre this.withdraw.Reads.Post
withdraw_tight κs a pre z z' l l' p q =
    let e = p ∙ sym q in
    ((λ i. record { answer = (e i).left.answer; report = (e i).report; session = (e i).left.session }), (λ i. ((e i).left.working, l.1)))

pub batch_ensures_is : {M : Type 1} {𝓤 : Ura M} (𝓛 : Logic 𝓤) (mem : Memory → SProp 𝓤) (run : Routine → Fun 𝓤)
    (κs : Lfts 3) (a : Args stated.signature κs) (z : Batching) (l : Lasts stated.ended κs a)
    → (stated.clauses 𝓛 mem run κs a).ensures tt z (at_exit stated.ended κs a l) ≡ fact 𝓤 (below.Post κs a z l)
batch_ensures_is 𝓛 mem run κs a z l = refl

pub batch_tight : Tight this.batch.Kinds.ps this.batch.Kinds.r this.batch.Reads.Pre this.batch.Reads.Post
batch_tight κs a pre z z' l l' p q =
    let e = p ∙ sym q in (
      (λ i. record { answer = (e i).left.answer; report = (e i).report; session = (e i).left.session }),
      (λ i. ((e i).left.working, (tt, (tt, ((e i).left.items, tt))))),
    )

pub read_file_tight : Tight this.read_file.Kinds.ps this.read_file.Kinds.r this.read_file.Reads.Pre this.read_file.Reads.Post
read_file_tight κs a pre z z' l l' p q =
    let e = p ∙ sym q in
    ((λ i. record { answer = (e i).left.answer; report = (e i).report; session = (e i).left.session }), (λ i. ((e i).left.working, l.1)))

pub lookup_tight : Tight this.lookup.Kinds.ps this.lookup.Kinds.r this.lookup.Reads.Pre this.lookup.Reads.Post
lookup_tight κs a pre z z' l l' p q =
    let e = p ∙ sym q in
    ((λ i. record { answer = (e i).left.answer; report = (e i).report; session = (e i).left.session }), (λ i. ((e i).left.working, l.1)))

pub newest_tight : Tight this.newest.Kinds.ps this.newest.Kinds.r this.newest.Reads.Pre this.newest.Reads.Post
newest_tight κs a pre z z' l l' p q =
    let e = p ∙ sym q in
    ((λ i. record { answer = (e i).left.answer; report = (e i).report; session = (e i).left.session }), (λ i. ((e i).left.working, l.1)))

pub has_any_tight : Tight this.has_any.Kinds.ps this.has_any.Kinds.r this.has_any.Reads.Pre this.has_any.Reads.Post
has_any_tight κs a pre z z' l l' p q =
    let e = p ∙ sym q in
    ((λ i. record { answer = (e i).left.answer; report = (e i).report; session = (e i).left.session }), (λ i. ((e i).left.working, l.1)))

pub list_tight : Tight this.list.Kinds.ps this.list.Kinds.r this.list.Reads.Pre this.list.Reads.Post
list_tight κs a pre z z' l l' p q =
    let e = p ∙ sym q in
    let rest = l.1.1.1.1.1.1 in (
      (λ i. record { answer = (e i).left.answer; report = (e i).report; session = (e i).left.session }),
      (λ i. ((e i).left.working, (l.1.0, (l.1.1.0, (l.1.1.1.0, ((e i).left.keys, ((e i).left.records, rest))))))),
    )

pub write_file_tight : Tight this.write_file.Kinds.ps this.write_file.Kinds.r this.write_file.Reads.Pre this.write_file.Reads.Post
write_file_tight κs a pre z z' l l' p q =
    let e = p ∙ sym q in (
      (λ i. record { answer = (e i).left.answer; report = (e i).report; session = (e i).left.session }),
      (λ i. ((e i).left.working, (l.1.0, (l.1.1.0, ((e i).left.out, l.1.1.1.1))))),
    )

pub sync_tight : Tight this.sync.Kinds.ps this.sync.Kinds.r this.sync.Reads.Pre this.sync.Reads.Post
sync_tight κs a pre z z' l l' p q =
    let e = p ∙ sym q in
    ((λ i. record { answer = (e i).answer; session = (e i).session }), (λ i. ((e i).working, ((e i).stable, l.1.1))))

pub lean_lookup_tight : Tight this.lean_lookup.Kinds.ps this.lean_lookup.Kinds.r this.lean_lookup.Reads.Pre this.lean_lookup.Reads.Post
lean_lookup_tight κs a pre z z' l l' p q =
    let s : Session = begun a.1.1.0 a.1.1.1.0 0 [] [] in
    let e = p s refl refl ∙ sym (q s refl refl) in
    ((λ i. record { answer = (e i).left.answer; report = (e i).report }), (λ i. ((e i).left.working, l.1)))

pub lean_newest_tight : Tight this.lean_newest.Kinds.ps this.lean_newest.Kinds.r this.lean_newest.Reads.Pre this.lean_newest.Reads.Post
lean_newest_tight κs a pre z z' l l' p q =
    let s : Session = begun a.1.1.0 a.1.1.1.0 0 [] [] in
    let e = p s refl refl ∙ sym (q s refl refl) in
    ((λ i. record { answer = (e i).left.answer; report = (e i).report }), (λ i. ((e i).left.working, l.1)))

pub lean_has_any_tight : Tight this.lean_has_any.Kinds.ps this.lean_has_any.Kinds.r this.lean_has_any.Reads.Pre this.lean_has_any.Reads.Post
lean_has_any_tight κs a pre z z' l l' p q =
    let s : Session = begun a.1.1.0 a.1.1.1.0 0 [] [] in
    let e = p s refl refl ∙ sym (q s refl refl) in
    ((λ i. record { answer = (e i).left.answer; report = (e i).report }), (λ i. ((e i).left.working, l.1)))

pub lean_list_tight : Tight this.lean_list.Kinds.ps this.lean_list.Kinds.r this.lean_list.Reads.Pre this.lean_list.Reads.Post
lean_list_tight κs a pre z z' l l' p q =
    let s : Session = begun a.1.1.0 a.1.1.1.0 0 [] [] in
    let e = p s refl refl ∙ sym (q s refl refl) in
    let rest = l.1.1.1.1.1.1.1 in (
      (λ i. record { answer = (e i).left.answer; report = (e i).report }),
      (λ i. ((e i).left.working, (l.1.0, (l.1.1.0, (l.1.1.1.0, (l.1.1.1.1.0, ((e i).left.keys, ((e i).left.records, rest)))))))),
    )

pub lean_write_file_tight : Tight this.lean_write_file.Kinds.ps this.lean_write_file.Kinds.r this.lean_write_file.Reads.Pre this.lean_write_file.Reads.Post
lean_write_file_tight κs a pre z z' l l' p q =
    let s : Session = begun a.1.1.0 a.1.1.1.0 0 [] [] in
    let e = p s refl refl ∙ sym (q s refl refl) in
    let rest = l.1.1.1.1.1 in (
      (λ i. record { answer = (e i).left.answer; report = (e i).report }),
      (λ i. ((e i).left.working, (l.1.0, (l.1.1.0, (l.1.1.1.0, ((e i).left.out, rest)))))),
    )
