-- `exchange::section_judged`: the count, then the items.
-- Assumes nothing.
use mathlib.Core.Path.{sym, ◌∙◌}
use Rattle.exchange.proofs.Steps.{section_cut, section_on}
use native.Mathlib.Omega.{arith}
use Rattle.exchange.proofs.section_judged.Goals as goal

pub returns-then-f-at-lt-COUNT : goal.returns-then-f-at-lt-COUNT
returns-then-f-at-lt-COUNT c =
    let a = c.args in
    sym
    (section_cut a.s a.f.now a.over a.used a.at (omega (arith, c.if-f-at-lt-COUNT.true, c.requires)))

pub returns : goal.returns
returns c =
    let a = c.args in
    rw c.get32.ensures at c.items_judged.ensures
    ∙ sym
    (section_on a.s a.f.now a.over a.used a.at
    (omega (arith, c.if-f-at-lt-COUNT.false, c.requires)))
