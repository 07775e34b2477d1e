-- `insert::tested`: test after test, in document 01's order.
-- Assumes nothing.
use Prim.Native.Nat.{ℕ}
use mathlib.Core.Path.{sym, ap, ◌∙◌}
use Rattle.rules.specs.Table.{fit0}
use Rattle.insert.proofs.Call.{has-page, length-tested, key-tested, zero-tested, all_tested}
use Rattle.insert.proofs.tested.Goals as goal

pub returns-then-not-lengths_for : goal.returns-then-not-lengths_for
returns-then-not-lengths_for c =
    let args = c.args in
    let lengths_for_lem = c.lengths_for in
    λ s e. length-tested args.working.now args.stable.now s args.model args.serial args.issue (sym (lengths_for_lem.ensures s e) ∙ c.if-not-lengths_for.true)

pub returns-then-not-good_parts : goal.returns-then-not-good_parts
returns-then-not-good_parts c =
    let args = c.args in
    let lengths_for_lem = c.lengths_for in
    let good_parts_lem = c.good_parts in
    λ s e. key-tested args.working.now args.stable.now s args.model args.serial args.issue (sym (lengths_for_lem.ensures s e) ∙ c.if-not-lengths_for.false) (sym good_parts_lem.ensures ∙ c.if-not-good_parts.true)

pub fit0-requires : goal.fit0-requires
fit0-requires c =
    let args = c.args in
    let lengths_for_lem = c.lengths_for in
    has-page args.n args.working.now args.stable.now lengths_for_lem.result lengths_for_lem.ensures
    c.if-not-lengths_for.false

pub returns-then-not-fit0 : goal.returns-then-not-fit0
returns-then-not-fit0 c =
    let args = c.args in
    let lengths_for_lem = c.lengths_for in
    let if1 = c.if-not-lengths_for in
    let good_parts_lem = c.good_parts in
    let fit0' = c.fit0 in
    λ s e. zero-tested args.working.now args.stable.now s args.model args.serial args.issue (sym (lengths_for_lem.ensures s e) ∙ if1.false) (sym good_parts_lem.ensures ∙ c.if-not-good_parts.false) (ap (λ (m : ℕ). fit0 m args.working.now) e ∙ (sym fit0'.ensures ∙ c.if-not-fit0.true))

pub returns : goal.returns
returns c =
    let args = c.args in
    let lengths_for_lem = c.lengths_for in
    let if1 = c.if-not-lengths_for in
    let good_parts_lem = c.good_parts in
    let fit0' = c.fit0 in
    λ s e. all_tested args.working.now args.stable.now s args.model args.serial args.issue (sym (lengths_for_lem.ensures s e) ∙ if1.false) (sym good_parts_lem.ensures ∙ c.if-not-good_parts.false) (ap (λ (m : ℕ). fit0 m args.working.now) e ∙ (sym fit0'.ensures ∙ c.if-not-fit0.false))
