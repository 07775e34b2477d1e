-- `opening::open`: each return is one of the five ways.
-- Assumes nothing.
use mathlib.Core.Path.{ap, sym, ◌∙◌}
use Rattle.rules.specs.Table.{pages}
use Rattle.rules.specs.Handing.{Opening}
use Rattle.rules.specs.Handing.{left}
use Rattle.opening.proofs.Ways.{wrong-length, same, whole, few, some, unfit, damaged, spent, done}
use native.Mathlib.Omega.{arith}
use Rattle.opening.proofs.open.Goals as goal

pub returns-then-not-good_lengths : goal.returns-then-not-good_lengths
returns-then-not-good_lengths c =
    let args = c.args in
    let good_lengths_lem = c.good_lengths in
    ap (λ (r : Opening). left r args.working.now args.stable.now) c.refused.ensures
    ∙ wrong-length args.working.now args.stable.now
    (sym good_lengths_lem.ensures ∙ c.if-not-good_lengths.true)

pub fit0-requires : goal.fit0-requires
fit0-requires c =
    let args = c.args in
    let good_lengths_lem = c.good_lengths in
    let if1 = c.if-not-good_lengths in
    omega
    (arith, whole args.working.now args.stable.now (sym good_lengths_lem.ensures ∙ if1.false), some args.working.now args.stable.now (sym good_lengths_lem.ensures ∙ if1.false))

pub returns-then-not-fit0 : goal.returns-then-not-fit0
unfolding pages
returns-then-not-fit0 c =
    let args = c.args in
    let good_lengths_lem = c.good_lengths in
    let if1 = c.if-not-good_lengths in
    let fit0 = c.fit0 in
    ap (λ (r : Opening). left r args.working.now args.stable.now) c.refused-then-not-fit0.ensures
    ∙ unfit args.working.now args.stable.now
    (sym good_lengths_lem.ensures ∙ if1.false)
    (sym fit0.ensures ∙ c.if-not-fit0.true)

pub invariant_of-table : goal.invariant_of-table
unfolding pages
invariant_of-table c =
    let args = c.args in
    record { whole = whole args.working.now args.stable.now (sym c.good_lengths.ensures ∙ c.if-not-good_lengths.false) }

pub walk-notes-requires : goal.walk-notes-requires
unfolding pages
walk-notes-requires c =
    let args = c.args in
    omega
    (arith, some args.working.now args.stable.now (sym c.good_lengths.ensures ∙ c.if-not-good_lengths.false))

pub returns-then-not-good : goal.returns-then-not-good
unfolding pages
returns-then-not-good c =
    let args = c.args in
    let good_lengths_lem = c.good_lengths in
    let if1 = c.if-not-good_lengths in
    let fit0 = c.fit0 in
    let if2 = c.if-not-fit0 in
    let walk = c.walk-notes in
    let good = c.good in
    ap (λ (r : Opening). left r args.working.now args.stable.now) c.refused-then-not-good.ensures
    ∙ damaged args.working.now args.stable.now
    (sym good_lengths_lem.ensures ∙ if1.false)
    (sym fit0.ensures ∙ if2.false) walk.result walk.ensures
    (sym good.ensures ∙ c.if-not-good.true)

pub number-number-requires : goal.number-number-requires
number-number-requires c =
    let args = c.args in
    let good_lengths_lem = c.good_lengths in
    let if1 = c.if-not-good_lengths in
    omega
    (arith, whole args.working.now args.stable.now (sym good_lengths_lem.ensures ∙ if1.false), some args.working.now args.stable.now (sym good_lengths_lem.ensures ∙ if1.false))

pub returns-then-number-gt-LAST_NUMBER : goal.returns-then-number-gt-LAST_NUMBER
unfolding pages
returns-then-number-gt-LAST_NUMBER c =
    let args = c.args in
    let good_lengths_lem = c.good_lengths in
    let if1 = c.if-not-good_lengths in
    let fit0 = c.fit0 in
    let if2 = c.if-not-fit0 in
    let walk = c.walk-notes in
    let good = c.good in
    let if3 = c.if-not-good in
    ap (λ (r : Opening). left r args.working.now args.stable.now) c.refused-then-number-gt-LAST_NUMBER.ensures
    ∙ spent args.working.now args.stable.now
    (sym good_lengths_lem.ensures ∙ if1.false)
    (sym fit0.ensures ∙ if2.false) walk.result walk.ensures
    (sym good.ensures ∙ if3.false)
    (omega (arith, c.if-number-gt-LAST_NUMBER.true, c.number-number.ensures))

pub set_number-requires : goal.set_number-requires
set_number-requires c =
    let args = c.args in
    let good_lengths_lem = c.good_lengths in
    let if1 = c.if-not-good_lengths in
    omega
    (arith, whole args.working.now args.stable.now (sym good_lengths_lem.ensures ∙ if1.false), some args.working.now args.stable.now (sym good_lengths_lem.ensures ∙ if1.false))

pub copy-requires : goal.copy-requires
copy-requires c =
    let args = c.args in
    let good_lengths_lem = c.good_lengths in
    let if1 = c.if-not-good_lengths in
    let set-number = c.set_number in
    set-number.auto.table ∙ sym
    (same args.working.now args.stable.now (sym good_lengths_lem.ensures ∙ if1.false))

pub session_of-requires : goal.session_of-requires
unfolding pages
session_of-requires c =
    let args = c.args in
    let good_lengths_lem = c.good_lengths in
    let if1 = c.if-not-good_lengths in
    few args.working.now args.stable.now
    (sym good_lengths_lem.ensures ∙ if1.false)

pub returns : goal.returns
unfolding pages
returns c =
    let args = c.args in
    let good_lengths_lem = c.good_lengths in
    let if1 = c.if-not-good_lengths in
    let fit0 = c.fit0 in
    let if2 = c.if-not-fit0 in
    let walk = c.walk-notes in
    let good = c.good in
    let if3 = c.if-not-good in
    let number = c.number-number in
    let if4 = c.if-number-gt-LAST_NUMBER in
    let set-number = c.set_number in
    rw (c.session_of.ensures, c.copy.ensures, set-number.ensures, number.ensures)
    (done args.working.now args.stable.now (sym good_lengths_lem.ensures ∙ if1.false) (sym fit0.ensures ∙ if2.false) walk.result walk.ensures (sym good.ensures ∙ if3.false) (omega (arith, if4.false, number.ensures)))
