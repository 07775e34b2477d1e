-- No second outcome satisfies a contract of this crate. Assumes nothing.
use mathlib.Core.Path.{refl, sym, ◌∙◌}
use mathlib.Core.Option.{some-injective}
use Rattle.tight.specs.Tight.{Tight}
use Rattle.way.proofs as this

pub way_of_tight : Tight this.way_of.Kinds.ps this.way_of.Kinds.r this.way_of.Reads.Pre this.way_of.Reads.Post
way_of_tight κs a pre z z' l l' p q =
    let e = p ∙ sym q in
    ((λ i. record { way = (e i).left.way; report = (e i).report }), (λ i. ((e i).left.table, l.1)))

pub leaf_of_tight : Tight this.leaf_of.Kinds.ps this.leaf_of.Kinds.r this.leaf_of.Reads.Pre this.leaf_of.Reads.Post
leaf_of_tight κs a pre z z' l l' p q =
    let e = p ∙ sym q in
    ((λ i. record { end = (e i).left.end; report = (e i).report }), (λ i. ((e i).left.table, l.1)))

pub look_ahead_tight : Tight this.look_ahead.Kinds.ps this.look_ahead.Kinds.r this.look_ahead.Reads.Pre this.look_ahead.Reads.Post
look_ahead_tight κs a pre z z' l l' p q = (p ∙ sym q, refl)

pub place_below_tight : Tight this.place_below.Kinds.ps this.place_below.Kinds.r this.place_below.Reads.Pre this.place_below.Reads.Post
place_below_tight κs a pre z z' l l' p q = (some-injective z z' (sym p ∙ q), refl)

pub spot_at_tight : Tight this.spot_at.Kinds.ps this.spot_at.Kinds.r this.spot_at.Reads.Pre this.spot_at.Reads.Post
spot_at_tight κs a pre z z' l l' p q = (p ∙ sym q, refl)

pub step-spare_tight : Tight this.StepSpare.spare.Kinds.ps this.StepSpare.spare.Kinds.r this.StepSpare.spare.Reads.Pre this.StepSpare.spare.Reads.Post
step-spare_tight κs a pre z z' l l' p q = (p ∙ sym q, refl)
