-- `dry::Dry::mends_nothing`: at each mark, whether one of those before it is true. Assumes nothing.
use mathlib.Core.Path.{◌≡◌, refl, subst}
use mathlib.Core.Bool.{not}
use borrow.Author.Rules.{rules}
use Rattle.std.proofs.lemmas.Fn.{fold_over, slice_gives, fronts}
use Rattle.dry.specs.Walk.{none_marked}
use Rattle.dry.proofs.Marks.{none_marked-more}
use Rattle.dry.proofs.Dry.mends_nothing.Goals as goal

pub returns : goal.returns
unfolding none_marked
returns c =
    subst (λ ms. not c.fold.result ≡ none_marked ms) c.iter.ensures.rest
    (fold_over fronts (λ m. m.now) _ (λ ms some. not some ≡ none_marked ms) _
    (λ ms some m b f' j k. let more = none_marked-more some ms m.now j in search rules) _ _ _ _ (slice_gives c.iter.result) refl c.fold.ensures.ran)
