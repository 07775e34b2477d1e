-- `plan::splits`: what the chain counts is what the rules count.
use mathlib.Core.Path.{◌∙◌}
use borrow.Author.Rules.{rules}
use borrow.Author.Tests.{tests}
use Rattle.std.proofs.lemmas.Iterator.{YieldsList-from_slice}
use Rattle.std.proofs.lemmas.Iterator.Consumers.{count_from_yields_List}
use Rattle.std.proofs.lemmas.Iterator.Search.{YieldsList-from_take_while}
use Rattle.way.specs.declared.Step.{Step}
use Rattle.plan.specs.Plan.{full_by}
use Rattle.plan.proofs.Heads.{splits-counted}
use Rattle.plan.proofs.splits.Goals as goal

pub returns : goal.returns
returns c =
    let way = c.args.way.now in
    count_from_yields_List c.take_while.result c.count.result c.count.ensures.ran
    (YieldsList-from_take_while _ (λ (x : Step). full_by x.head) (YieldsList-from_slice way (cc)) c.take_while.ensures.closure c.take_while.ensures.done (λ x b q k. search (rules, tests)))
    ∙ splits-counted way
