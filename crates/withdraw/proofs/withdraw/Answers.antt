-- `withdraw::withdraw`: test after test, in document 01's order.
-- Assumes nothing.
use mathlib.Core.Path.{refl, sym, ◌∙◌}
use Rattle.rules.proofs.Bytes.Lengths.{lengths_for_true}
use Rattle.withdraw.proofs.Call.{bad_length_lem, bad_key, bad_zero, by_key}
use native.Mathlib.Omega.{arith}
use Rattle.withdraw.proofs.withdraw.Goals as goal

pub returns-then-not-lengths_for : goal.returns-then-not-lengths_for
returns-then-not-lengths_for c = bad_length_lem c.args.working.now c.args.stable.now c.args.session c.args.model c.args.serial c.args.issue (sym (c.lengths_for.ensures c.args.session refl) ∙ c.if-not-lengths_for.true) c.nothing.ensures

pub returns-then-not-good_parts : goal.returns-then-not-good_parts
returns-then-not-good_parts c = bad_key c.args.working.now c.args.stable.now c.args.session c.args.model c.args.serial c.args.issue (sym (c.lengths_for.ensures c.args.session refl) ∙ c.if-not-lengths_for.false) (sym c.good_parts.ensures ∙ c.if-not-good_parts.true) c.nothing-then-not-good_parts.ensures

pub fit0-requires : goal.fit0-requires
fit0-requires c =
    let l = lengths_for_true c.args.session c.args.working.now c.args.stable.now (sym (c.lengths_for.ensures c.args.session refl) ∙ c.if-not-lengths_for.false) in
    omega (arith, l.working, l.least)

pub returns-then-not-fit0 : goal.returns-then-not-fit0
returns-then-not-fit0 c = bad_zero c.args.working.now c.args.stable.now c.args.session c.args.model c.args.serial c.args.issue (sym (c.lengths_for.ensures c.args.session refl) ∙ c.if-not-lengths_for.false) (sym c.good_parts.ensures ∙ c.if-not-good_parts.false) (sym c.fit0.ensures ∙ c.if-not-fit0.true) c.nothing-then-not-fit0.ensures

pub take_out-requires : goal.take_out-requires
take_out-requires c = ((lengths_for_true c.args.session c.args.working.now c.args.stable.now (sym (c.lengths_for.ensures c.args.session refl) ∙ c.if-not-lengths_for.false)).working, sym c.fit0.ensures ∙ c.if-not-fit0.false)

pub returns : goal.returns
returns c = by_key c.args.working.now c.args.stable.now c.args.session c.args.model c.args.serial c.args.issue (sym (c.lengths_for.ensures c.args.session refl) ∙ c.if-not-lengths_for.false) (sym c.good_parts.ensures ∙ c.if-not-good_parts.false) (sym c.fit0.ensures ∙ c.if-not-fit0.false) c.take_out.new.t c.take_out.result c.key_of.result c.key_of.ensures (c.take_out.ensures c.args.stable.now)
