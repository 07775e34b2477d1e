-- `exchange::Section::rank_at`: a model's place takes no bytes; the check finds the rest.
-- Assumes nothing.
use mathlib.Core.Path.{ap, sym, ◌∙◌}
use Rattle.exchange.specs.Item.{item_at}
use Rattle.exchange.specs.declared.Section.{Section}
use Rattle.exchange.proofs.Sizes.{place-models}
use Rattle.exchange.proofs.Section.rank_at.Goals as goal

pub returns-in-Models-clause-place : goal.returns-in-Models-clause-place
returns-in-Models-clause-place c =
    let a = c.args in
    sym
    (ap (λ (s : Section). (item_at s a.f.now a.at).place) c.in-Models.is
    ∙ place-models a.f.now a.at)
