-- `write::lean`: the rule's tests, one after the other, and then the walks, for every session with these numbers.
-- Assumes nothing.
use mathlib.Core.Path.{sym, ◌∙◌}
use Rattle.tables.proofs.Sizes.{sized}
use Rattle.write.proofs.Calls.{bad_length_lem, bad_zero, answers}
use native.Mathlib.Omega.{arith}
use Rattle.write.proofs.lean.Goals as goal

pub returns-then-not-lengths_for : goal.returns-then-not-lengths_for
returns-then-not-lengths_for c =
    let args = c.args in
    let lengths_for_lem = c.lengths_for in
    λ s same-n same-c. bad_length_lem args.working.now args.stable.now s same-n same-c args.out.now
    c.nothing.result c.nothing.ensures
    (sym (lengths_for_lem.ensures s same-n) ∙ c.if-not-lengths_for.true)

pub fit0-requires : goal.fit0-requires
fit0-requires c =
    let args = c.args in
    let lengths_for_lem = c.lengths_for in
    let sizes = sized args.n args.working.now args.stable.now lengths_for_lem.result lengths_for_lem.ensures
    c.if-not-lengths_for.false in
    omega (arith, sizes.working, sizes.least)

pub returns-then-not-fit0 : goal.returns-then-not-fit0
returns-then-not-fit0 c =
    let args = c.args in
    let lengths_for_lem = c.lengths_for in
    let if1 = c.if-not-lengths_for in
    let fit0 = c.fit0 in
    λ s same-n same-c. bad_zero args.working.now args.stable.now s same-n same-c args.out.now
    (sym (lengths_for_lem.ensures s same-n) ∙ if1.false)
    c.nothing-then-not-fit0.result c.nothing-then-not-fit0.ensures (sym fit0.ensures ∙ c.if-not-fit0.true)

pub look-requires : goal.look-requires
look-requires c =
    let args = c.args in
    let lengths_for_lem = c.lengths_for in
    let if1 = c.if-not-lengths_for in
    let fit0 = c.fit0 in
    let if2 = c.if-not-fit0 in
    let sizes = sized args.n args.working.now args.stable.now lengths_for_lem.result lengths_for_lem.ensures
    if1.false in
    (sizes.working, sizes.most, sym fit0.ensures ∙ if2.false)

pub returns : goal.returns
returns c =
    let args = c.args in
    let lengths_for_lem = c.lengths_for in
    let if1 = c.if-not-lengths_for in
    let fit0 = c.fit0 in
    let if2 = c.if-not-fit0 in
    let look = c.look in
    λ s same-n same-c. answers args.working.now args.stable.now s same-n same-c args.out.now
    (sym (lengths_for_lem.ensures s same-n) ∙ if1.false)
    (sym fit0.ensures ∙ if2.false) look.new.t look.new.out look.result look.ensures
