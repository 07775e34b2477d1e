-- No second outcome satisfies the contract of `batch`, items included. What the contract says of an outcome is written out here too,
-- and `ensures_is` says that it is the contract's. Assumes nothing.
use mathlib.Core.Path.{◌≡◌, refl, sym, ◌∙◌}
use seplogic.Ra.Ura.{Ura}
use base.Logic.{SProp}
use prog.Memory.{Memory}
use prog.Routine.{Routine}
use types.Logic.{Logic}
use contract.Lifetimes.{Lfts}
use contract.Monad.{Fun, fact}
use denote.Triple.Entry.{Args}
use denote.Triple.Clauses.{Lasts, at_exit}
use Rattle.rules.specs.Batch as rules
use Rattle.rules.specs.Handing.{Batching}
use Rattle.tight.specs.Tight.{Tight}
use Rattle.batch.specs.Turns.{leaving}
use Rattle.batch.specs.contracts.batch as stated
use Rattle.batch.proofs as this

-- of an outcome: what is handed back, and what is left behind working and items
abbrev pub Post : (κs : Lfts 3) (a : Args stated.signature κs) → Batching → Lasts stated.ended κs a → Type 0
Post κs a z l =
    leaving z l.0 a.1.0.now l.1.1.1.0 ≡ rules.batch a.0.now a.1.0.now a.1.1.0 a.1.1.1.0.now

pub ensures_is : {M : Type 1} {𝓤 : Ura M} (𝓛 : Logic 𝓤) (mem : Memory → SProp 𝓤) (run : Routine → Fun 𝓤)
    (κs : Lfts 3) (a : Args stated.signature κs) (z : Batching) (l : Lasts stated.ended κs a)
    → (stated.clauses 𝓛 mem run κs a).ensures tt z (at_exit stated.ended κs a l) ≡ fact 𝓤 (Post κs a z l)
ensures_is 𝓛 mem run κs a z l = refl

pub batch_tight : Tight this.batch.Kinds.ps this.batch.Kinds.r this.batch.Reads.Pre this.batch.Reads.Post
batch_tight κs a pre z z' l l' p q =
    let e = p ∙ sym q in (
      (λ i. record { answer = (e i).left.answer; report = (e i).report; session = (e i).left.session }),
      (λ i. ((e i).left.working, (tt, (tt, ((e i).left.items, tt))))),
    )
