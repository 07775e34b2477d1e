-- No second outcome satisfies a contract of this crate. Assumes nothing.
use mathlib.Core.Path.{refl, sym, ◌∙◌}
use mathlib.Core.List.{[]}
use Rattle.rules.specs.Marks.{begun}
use Rattle.rules.specs.declared.Session.{Session}
use Rattle.tight.specs.Tight.{Tight}
use Rattle.tables.proofs as this

pub good_lengths_tight : Tight this.good_lengths.Kinds.ps this.good_lengths.Kinds.r this.good_lengths.Reads.Pre this.good_lengths.Reads.Post
good_lengths_tight κs a pre z z' l l' p q = (p ∙ sym q, refl)

pub lengths_for_tight : Tight this.lengths_for.Kinds.ps this.lengths_for.Kinds.r this.lengths_for.Reads.Pre this.lengths_for.Reads.Post
lengths_for_tight κs a pre z z' l l' p q =
    let s : Session = begun a.0 0 0 [] [] in
    (p s refl ∙ sym (q s refl), refl)

pub copy_tight : Tight this.copy.Kinds.ps this.copy.Kinds.r this.copy.Reads.Pre this.copy.Reads.Post
copy_tight κs a pre z z' l l' p q = (refl, λ i. ((p ∙ sym q) i, l.1))

pub clear_tight : Tight this.clear.Kinds.ps this.clear.Kinds.r this.clear.Reads.Pre this.clear.Reads.Post
clear_tight κs a pre z z' l l' p q = (refl, λ i. ((p ∙ sym q) i, l.1))
