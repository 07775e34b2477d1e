-- `sync::sync`: each return is one of the three ways.
-- Assumes nothing.
-- past the first test the lengths are good
use mathlib.Core.Path.{refl, sym, ◌∙◌}
use Rattle.rules.specs.Table.{set_number}
use Rattle.sync.proofs.Ways.{refused, spent, done, same, long}
use native.Mathlib.Omega.{arith}
use Rattle.sync.proofs.sync.Goals as goal

pub returns-then-not-lengths_for : goal.returns-then-not-lengths_for
returns-then-not-lengths_for c =
    let lengths_for_lem = c.lengths_for in
    let a = c.args in
    let failed = sym (lengths_for_lem.ensures a.session refl) ∙ c.if-not-lengths_for.true in
    refused a.working.now a.stable.now a.session failed

pub returns-then-c-gt-LAST_NUMBER : goal.returns-then-c-gt-LAST_NUMBER
returns-then-c-gt-LAST_NUMBER c =
    let a = c.args in
    spent a.working.now a.stable.now a.session (sym (c.lengths_for.ensures c.args.session refl)
    ∙ c.if-not-lengths_for.false) c.if-c-gt-LAST_NUMBER.true

pub put32-requires : goal.put32-requires
put32-requires c =
    let a = c.args in
    omega (
      arith,
      long a.working.now a.stable.now a.session (sym (c.lengths_for.ensures c.args.session refl)
          ∙ c.if-not-lengths_for.false),
    )

pub copy-requires : goal.copy-requires
copy-requires c =
    let put32 = c.put32 in
    let a = c.args in
    omega (
      arith,
      put32.auto.b,
      same a.working.now a.stable.now a.session (sym (c.lengths_for.ensures c.args.session refl)
          ∙ c.if-not-lengths_for.false),
    )

pub returns : goal.returns
unfolding set_number
returns c =
    let if2 = c.if-c-gt-LAST_NUMBER in
    let put32 = c.put32 in
    let a = c.args in
    rw (c.turn.ensures, c.copy.ensures, put32.ensures)
    (done a.working.now a.stable.now a.session (sym (c.lengths_for.ensures c.args.session refl)
    ∙ c.if-not-lengths_for.false) if2.false)
