-- `plan::too_soon`: what the chain asks is what the rules ask.
use mathlib.Core.Path.{◌∙◌}
use borrow.Author.Rules.{rules}
use borrow.Author.Tests.{tests}
use Rattle.std.proofs.lemmas.Iterator.{YieldsList-from_slice}
use Rattle.std.proofs.lemmas.Iterator.Search.{any_from_yields_List}
use Rattle.way.specs.declared.Step.{Step}
use Rattle.plan.specs.Plan.{late_by}
use Rattle.plan.proofs.Heads.{soon-any}
use Rattle.plan.proofs.too_soon.Goals as goal

pub returns : goal.returns
returns c =
    let splitting = c.args.splitting.now in
    any_from_yields_List (λ (x : Step). late_by c.args.c x.head) _ _ c.any.result c.any.ensures.ran (YieldsList-from_slice splitting (cc)) (λ x b q k. search (rules, tests))
    ∙ soon-any c.args.c splitting
