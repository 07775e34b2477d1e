-- No second outcome satisfies a contract of this crate. What that of `kh_batch` says of an outcome is written out here too, and
-- `kh_batch_ensures_is` says that it is the contract's. Assumes nothing.
use mathlib.Core.Path.{◌≡◌, refl, sym, ◌∙◌}
use mathlib.Core.List.{[]}
use Rattle.rules.specs.Marks.{begun}
use Rattle.rules.specs.declared.Session.{Session}
use seplogic.Ra.Ura.{Ura}
use base.Logic.{SProp}
use prog.Memory.{Memory}
use prog.Routine.{Routine}
use types.Logic.{Logic}
use contract.Lifetimes.{Lfts}
use contract.Monad.{Fun, fact}
use denote.Triple.Entry.{Args}
use denote.Triple.Clauses.{Lasts, at_exit}
use Rattle.rules.specs.Batch as rules
use Rattle.tight.specs.Tight.{Tight}
use Rattle.exports.specs.Leaves as C
use Rattle.exports.specs.declared.KhChanged.{KhChanged}
use Rattle.exports.specs.contracts.kh_batch as stated
use Rattle.exports.proofs as this

pub kh_format_tight : Tight this.kh_format.Kinds.ps this.kh_format.Kinds.r this.kh_format.Reads.Pre this.kh_format.Reads.Post
kh_format_tight κs a pre z z' l l' p q =
    let e = p ∙ sym q in
    ((λ i. (e i).answer), (λ i. (l.0, ((e i).stable, l.1.1))))

pub kh_open_tight : Tight this.kh_open.Kinds.ps this.kh_open.Kinds.r this.kh_open.Reads.Pre this.kh_open.Reads.Post
kh_open_tight κs a pre z z' l l' p q =
    let e = p ∙ sym q in
    ((λ i. (e i).back), (λ i. ((e i).working, ((e i).stable, l.1.1))))

pub kh_insert_tight : Tight this.kh_insert.Kinds.ps this.kh_insert.Kinds.r this.kh_insert.Reads.Pre this.kh_insert.Reads.Post
kh_insert_tight κs a pre z z' l l' p q =
    let e = p ∙ sym q in
    ((λ i. (e i).back), (λ i. ((e i).working, l.1)))

pub kh_withdraw_tight : Tight this.kh_withdraw.Kinds.ps this.kh_withdraw.Kinds.r this.kh_withdraw.Reads.Pre this.kh_withdraw.Reads.Post
kh_withdraw_tight κs a pre z z' l l' p q =
    let e = p ∙ sym q in
    ((λ i. (e i).back), (λ i. ((e i).working, l.1)))

-- of an outcome: what is handed back, and what is left behind working and items
abbrev pub BatchPost : (κs : Lfts 3) (a : Args stated.signature κs) → KhChanged → Lasts stated.ended κs a → Type 0
BatchPost κs a z l =
    C.batching z l.0 a.1.0.now l.1.1.1.0
    ≡ C.batched (rules.batch a.0.now a.1.0.now a.1.1.0 a.1.1.1.0.now)

pub kh_batch_ensures_is : {M : Type 1} {𝓤 : Ura M} (𝓛 : Logic 𝓤) (mem : Memory → SProp 𝓤) (run : Routine → Fun 𝓤)
    (κs : Lfts 3) (a : Args stated.signature κs) (z : KhChanged) (l : Lasts stated.ended κs a)
    → (stated.clauses 𝓛 mem run κs a).ensures tt z (at_exit stated.ended κs a l) ≡ fact 𝓤 (BatchPost κs a z l)
kh_batch_ensures_is 𝓛 mem run κs a z l = refl

pub kh_batch_tight : Tight this.kh_batch.Kinds.ps this.kh_batch.Kinds.r this.kh_batch.Reads.Pre this.kh_batch.Reads.Post
kh_batch_tight κs a pre z z' l l' p q =
    let e = p ∙ sym q in
    ((λ i. (e i).back), (λ i. ((e i).working, (tt, (tt, ((e i).items, tt))))))

pub kh_read_file_tight : Tight this.kh_read_file.Kinds.ps this.kh_read_file.Kinds.r this.kh_read_file.Reads.Pre this.kh_read_file.Reads.Post
kh_read_file_tight κs a pre z z' l l' p q =
    let e = p ∙ sym q in
    ((λ i. (e i).back), (λ i. ((e i).working, l.1)))

pub kh_lookup_tight : Tight this.kh_lookup.Kinds.ps this.kh_lookup.Kinds.r this.kh_lookup.Reads.Pre this.kh_lookup.Reads.Post
kh_lookup_tight κs a pre z z' l l' p q =
    let e = p ∙ sym q in
    ((λ i. (e i).back), (λ i. ((e i).working, l.1)))

pub kh_newest_tight : Tight this.kh_newest.Kinds.ps this.kh_newest.Kinds.r this.kh_newest.Reads.Pre this.kh_newest.Reads.Post
kh_newest_tight κs a pre z z' l l' p q =
    let e = p ∙ sym q in
    ((λ i. (e i).back), (λ i. ((e i).working, l.1)))

pub kh_has_any_tight : Tight this.kh_has_any.Kinds.ps this.kh_has_any.Kinds.r this.kh_has_any.Reads.Pre this.kh_has_any.Reads.Post
kh_has_any_tight κs a pre z z' l l' p q =
    let e = p ∙ sym q in
    ((λ i. (e i).back), (λ i. ((e i).working, l.1)))

pub kh_list_tight : Tight this.kh_list.Kinds.ps this.kh_list.Kinds.r this.kh_list.Reads.Pre this.kh_list.Reads.Post
kh_list_tight κs a pre z z' l l' p q =
    let e = p ∙ sym q in
    let rest = l.1.1.1.1.1.1 in (
      (λ i. (e i).back),
      (λ i. ((e i).working, (l.1.0, (l.1.1.0, (l.1.1.1.0, ((e i).keys, ((e i).records, rest))))))),
    )

pub kh_write_file_tight : Tight this.kh_write_file.Kinds.ps this.kh_write_file.Kinds.r this.kh_write_file.Reads.Pre this.kh_write_file.Reads.Post
kh_write_file_tight κs a pre z z' l l' p q =
    let e = p ∙ sym q in
    ((λ i. (e i).back), (λ i. ((e i).working, (l.1.0, (l.1.1.0, ((e i).out, l.1.1.1.1))))))

pub kh_sync_tight : Tight this.kh_sync.Kinds.ps this.kh_sync.Kinds.r this.kh_sync.Reads.Pre this.kh_sync.Reads.Post
kh_sync_tight κs a pre z z' l l' p q =
    let e = p ∙ sym q in
    ((λ i. (e i).back), (λ i. ((e i).working, ((e i).stable, l.1.1))))

pub kh_lean_lookup_tight : Tight this.lean.kh_lean_lookup.Kinds.ps this.lean.kh_lean_lookup.Kinds.r this.lean.kh_lean_lookup.Reads.Pre this.lean.kh_lean_lookup.Reads.Post
kh_lean_lookup_tight κs a pre z z' l l' p q =
    let s : Session = begun a.1.1.0 a.1.1.1.0 0 [] [] in
    let e = p s refl refl ∙ sym (q s refl refl) in
    ((λ i. record { answer = (e i).back.answer; «record» = (e i).back.«record»; mended = (e i).back.mended; reason = (e i).back.reason }), (λ i. ((e i).working, l.1)))

pub kh_lean_newest_tight : Tight this.lean.kh_lean_newest.Kinds.ps this.lean.kh_lean_newest.Kinds.r this.lean.kh_lean_newest.Reads.Pre this.lean.kh_lean_newest.Reads.Post
kh_lean_newest_tight κs a pre z z' l l' p q =
    let s : Session = begun a.1.1.0 a.1.1.1.0 0 [] [] in
    let e = p s refl refl ∙ sym (q s refl refl) in
    ((λ i. record { answer = (e i).back.answer; issue = (e i).back.issue; «record» = (e i).back.«record»; mended = (e i).back.mended; reason = (e i).back.reason }), (λ i. ((e i).working, l.1)))

pub kh_lean_has_any_tight : Tight this.lean.kh_lean_has_any.Kinds.ps this.lean.kh_lean_has_any.Kinds.r this.lean.kh_lean_has_any.Reads.Pre this.lean.kh_lean_has_any.Reads.Post
kh_lean_has_any_tight κs a pre z z' l l' p q =
    let s : Session = begun a.1.1.0 a.1.1.1.0 0 [] [] in
    let e = p s refl refl ∙ sym (q s refl refl) in
    ((λ i. record { answer = (e i).back.answer; any = (e i).back.any; mended = (e i).back.mended; reason = (e i).back.reason }), (λ i. ((e i).working, l.1)))

pub kh_lean_list_tight : Tight this.lean.kh_lean_list.Kinds.ps this.lean.kh_lean_list.Kinds.r this.lean.kh_lean_list.Reads.Pre this.lean.kh_lean_list.Reads.Post
kh_lean_list_tight κs a pre z z' l l' p q =
    let s : Session = begun a.1.1.0 a.1.1.1.0 0 [] [] in
    let e = p s refl refl ∙ sym (q s refl refl) in
    let rest = l.1.1.1.1.1.1.1 in (
      (λ i. record { answer = (e i).back.answer; count = (e i).back.count; mended = (e i).back.mended; reason = (e i).back.reason }),
      (λ i. ((e i).working, (l.1.0, (l.1.1.0, (l.1.1.1.0, (l.1.1.1.1.0, ((e i).keys, ((e i).records, rest)))))))),
    )

pub kh_lean_write_file_tight : Tight this.lean.kh_lean_write_file.Kinds.ps this.lean.kh_lean_write_file.Kinds.r this.lean.kh_lean_write_file.Reads.Pre this.lean.kh_lean_write_file.Reads.Post
kh_lean_write_file_tight κs a pre z z' l l' p q =
    let s : Session = begun a.1.1.0 a.1.1.1.0 0 [] [] in
    let e = p s refl refl ∙ sym (q s refl refl) in
    let rest = l.1.1.1.1.1 in (
      (λ i. record { answer = (e i).back.answer; length = (e i).back.length; mended = (e i).back.mended; reason = (e i).back.reason }),
      (λ i. ((e i).working, (l.1.0, (l.1.1.0, (l.1.1.1.0, ((e i).out, rest)))))),
    )
