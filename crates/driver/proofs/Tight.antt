-- No second outcome satisfies a contract of this crate. Assumes nothing.
use mathlib.Core.Path.{refl, sym, ◌∙◌}
use Rattle.tight.specs.Tight.{Tight}
use Rattle.driver.proofs as this

pub act_tight : Tight this.act.Kinds.ps this.act.Kinds.r this.act.Reads.Pre this.act.Reads.Post
act_tight κs a pre z z' l l' p q =
    let e = p ∙ sym q in
    ((λ i. record { reply = (e i).answer; session = (e i).session }), (λ i. ((e i).working, ((e i).stable, l.1.1))))

pub bench-new_tight : Tight this.Bench.new.Kinds.ps this.Bench.new.Kinds.r this.Bench.new.Reads.Pre this.Bench.new.Reads.Post
bench-new_tight κs a pre z z' l l' p q = (p ∙ sym q, refl)

pub bench-step_tight : Tight this.Bench.step.Kinds.ps this.Bench.step.Kinds.r this.Bench.step.Reads.Pre this.Bench.step.Reads.Post
bench-step_tight κs a pre z z' l l' p q =
    let e = p ∙ sym q in
    ((λ i. record { reply = (e i).reply; bench = (e i).bench }), (λ i. (l.0, ((e i).working, ((e i).stable, l.1.1.1)))))

pub bench-finish_tight : Tight this.Bench.finish.Kinds.ps this.Bench.finish.Kinds.r this.Bench.finish.Reads.Pre this.Bench.finish.Reads.Post
bench-finish_tight κs a pre z z' l l' p q =
    let e = p ∙ sym q in
    ((λ i. record { reply = (e i).reply; bench = (e i).bench }), (λ i. (l.0, ((e i).working, ((e i).stable, l.1.1.1)))))
