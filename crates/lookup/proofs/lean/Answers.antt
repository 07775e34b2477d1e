-- `lookup::lean`: test after test, in document 01's order, for every session with these numbers.
-- Assumes nothing.
use mathlib.Core.Path.{sym, ◌∙◌}
use Rattle.tables.proofs.Sizes.{sized}
use Rattle.lookup.proofs.Call.{bad_length_lem, bad_key, bad_zero, looked-up}
use native.Mathlib.Omega.{arith}
use Rattle.lookup.proofs.lean.Goals as goal

pub returns-then-not-lengths_for : goal.returns-then-not-lengths_for
returns-then-not-lengths_for c =
    let args = c.args in
    let lengths_for_lem = c.lengths_for in
    λ s same-n same-c. bad_length_lem args.working.now args.stable.now s same-n same-c args.model args.serial args.issue
    (sym (lengths_for_lem.ensures s same-n) ∙ c.if-not-lengths_for.true) c.nothing.ensures

pub returns-then-not-good_parts : goal.returns-then-not-good_parts
returns-then-not-good_parts c =
    let args = c.args in
    let lengths_for_lem = c.lengths_for in
    let good_parts_lem = c.good_parts in
    let if1 = c.if-not-lengths_for in
    λ s same-n same-c. bad_key args.working.now args.stable.now s same-n same-c args.model args.serial args.issue
    (sym (lengths_for_lem.ensures s same-n) ∙ if1.false)
    (sym good_parts_lem.ensures ∙ c.if-not-good_parts.true) c.nothing-then-not-good_parts.ensures

pub fit0-requires : goal.fit0-requires
fit0-requires c =
    let args = c.args in
    let lengths_for_lem = c.lengths_for in
    let sizes = sized args.n args.working.now args.stable.now lengths_for_lem.result lengths_for_lem.ensures
    c.if-not-lengths_for.false in
    omega (arith, sizes.working, sizes.least)

pub returns-then-not-fit0 : goal.returns-then-not-fit0
returns-then-not-fit0 c =
    let args = c.args in
    let lengths_for_lem = c.lengths_for in
    let if1 = c.if-not-lengths_for in
    let good_parts_lem = c.good_parts in
    let if2 = c.if-not-good_parts in
    let fit0 = c.fit0 in
    λ s same-n same-c. bad_zero args.working.now args.stable.now s same-n same-c args.model args.serial args.issue
    (sym (lengths_for_lem.ensures s same-n) ∙ if1.false)
    (sym good_parts_lem.ensures ∙ if2.false)
    (sym fit0.ensures ∙ c.if-not-fit0.true) c.nothing-then-not-fit0.ensures

pub look-requires : goal.look-requires
look-requires c =
    let args = c.args in
    let lengths_for_lem = c.lengths_for in
    let if1 = c.if-not-lengths_for in
    let fit0 = c.fit0 in (
      (sized args.n args.working.now args.stable.now lengths_for_lem.result lengths_for_lem.ensures
          if1.false).working,
      sym fit0.ensures ∙ c.if-not-fit0.false,
    )

pub returns : goal.returns
returns c =
    let args = c.args in
    let lengths_for_lem = c.lengths_for in
    let if1 = c.if-not-lengths_for in
    let good_parts_lem = c.good_parts in
    let if2 = c.if-not-good_parts in
    let fit0 = c.fit0 in
    let if3 = c.if-not-fit0 in
    let key_of_lem = c.key_of in
    let look = c.look in
    λ s same-n same-c. looked-up args.working.now args.stable.now s same-n same-c args.model args.serial args.issue
    (sym (lengths_for_lem.ensures s same-n) ∙ if1.false)
    (sym good_parts_lem.ensures ∙ if2.false)
    (sym fit0.ensures ∙ if3.false) look.new.t look.result key_of_lem.result
    key_of_lem.ensures look.ensures
