-- `newest::lean`: each return is one of the ways that the rules name, for every session with these numbers.
-- Assumes nothing.
use mathlib.Core.Path.{sym, ◌∙◌}
use Rattle.tables.proofs.Sizes.{sized}
use Rattle.newest.specs.Newests.{range}
use Rattle.newest.proofs.Calls.{meter-range, meter-rises, meter-few, bad_length_lem, bad_model, bad_serial, bad_zero, answers}
use native.Mathlib.Omega.{arith}
use Rattle.newest.proofs.lean.Goals as goal

pub returns-then-not-lengths_for : goal.returns-then-not-lengths_for
returns-then-not-lengths_for c =
    let args = c.args in
    let lengths_for_lem = c.lengths_for in
    λ s same-n same-c. bad_length_lem args.working.now args.stable.now s same-n same-c args.model args.serial
    (sym (lengths_for_lem.ensures s same-n) ∙ c.if-not-lengths_for.true) c.nothing.ensures

pub returns-then-model-eq0 : goal.returns-then-model-eq0
returns-then-model-eq0 c =
    let args = c.args in
    let lengths_for_lem = c.lengths_for in
    let if1 = c.if-not-lengths_for in
    λ s same-n same-c. bad_model args.working.now args.stable.now s same-n same-c args.model args.serial
    (sym (lengths_for_lem.ensures s same-n) ∙ if1.false)
    c.if-model-eq0.true c.nothing-then-model-eq0.ensures

pub returns-then-serial-eq0 : goal.returns-then-serial-eq0
returns-then-serial-eq0 c =
    let args = c.args in
    let lengths_for_lem = c.lengths_for in
    let if1 = c.if-not-lengths_for in
    let if2 = c.if-model-eq0 in
    λ s same-n same-c. bad_serial args.working.now args.stable.now s same-n same-c args.model args.serial
    (sym (lengths_for_lem.ensures s same-n) ∙ if1.false)
    if2.false c.if-serial-eq0.true c.nothing-then-serial-eq0.ensures

pub fit0-requires : goal.fit0-requires
fit0-requires c =
    let args = c.args in
    let lengths_for_lem = c.lengths_for in
    let sizes = sized args.n args.working.now args.stable.now lengths_for_lem.result lengths_for_lem.ensures
    c.if-not-lengths_for.false in
    omega (arith, sizes.working, sizes.least)

pub returns-then-not-fit0 : goal.returns-then-not-fit0
returns-then-not-fit0 c =
    let args = c.args in
    let lengths_for_lem = c.lengths_for in
    let if1 = c.if-not-lengths_for in
    let if2 = c.if-model-eq0 in
    let if3 = c.if-serial-eq0 in
    let fit0 = c.fit0 in
    λ s same-n same-c. bad_zero args.working.now args.stable.now s same-n same-c args.model args.serial
    (sym (lengths_for_lem.ensures s same-n) ∙ if1.false) if2.false
    if3.false (sym fit0.ensures ∙ c.if-not-fit0.true) c.nothing-then-not-fit0.ensures

pub look-requires : goal.look-requires
look-requires c =
    let args = c.args in
    let lengths_for_lem = c.lengths_for in
    let if1 = c.if-not-lengths_for in
    let fit0 = c.fit0 in
    let if4 = c.if-not-fit0 in
    let key_of_lem = c.key_of-low in
    let key-of2 = c.key_of-high in (
      (sized args.n args.working.now args.stable.now lengths_for_lem.result lengths_for_lem.ensures
          if1.false).working,
      sym fit0.ensures ∙ if4.false,
      meter-rises args.model args.serial key_of_lem.result key-of2.result key_of_lem.ensures key-of2.ensures,
      meter-few args.model args.serial key_of_lem.result key-of2.result key_of_lem.ensures key-of2.ensures,
    )

pub returns : goal.returns
returns c =
    let args = c.args in
    let lengths_for_lem = c.lengths_for in
    let if1 = c.if-not-lengths_for in
    let if2 = c.if-model-eq0 in
    let if3 = c.if-serial-eq0 in
    let fit0 = c.fit0 in
    let if4 = c.if-not-fit0 in
    let key_of_lem = c.key_of-low in
    let key-of2 = c.key_of-high in
    let look = c.look in
    λ s same-n same-c. answers args.working.now args.stable.now s same-n same-c args.model args.serial
    (sym (lengths_for_lem.ensures s same-n) ∙ if1.false) if2.false
    if3.false (sym fit0.ensures ∙ if4.false)
    (range key_of_lem.result key-of2.result)
    (meter-range args.model args.serial key_of_lem.result key-of2.result key_of_lem.ensures key-of2.ensures)
    look.new.t look.result look.ensures
