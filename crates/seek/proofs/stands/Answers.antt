-- `seek::stands`: the spot is not before the number, and not after it.
-- Assumes nothing.
use mathlib.Core.Path.{sym, ◌∙◌}
use Rattle.entries.specs.Layout.{keys_on}
use Rattle.entries.proofs.KeysIn.{length-keys_in}
use Rattle.seek.proofs.Spots.{beyond_all, not_reached, reached-all, reached-next}
use native.Mathlib.Omega.{arith}
use Rattle.seek.proofs.stands.Goals as goal

pub returns-then-number-entries : goal.returns-then-number-entries
returns-then-number-entries c =
    let a = c.args in
    let e = a.entries in
    beyond_all a.key a.number (keys_on e a.page.now) (omega (arith, length-keys_in e.header e.size e.count a.page.now))

pub returns-then-not-reached : goal.returns-then-not-reached
returns-then-not-reached c =
    let a = c.args in
    not_reached a.key a.number (keys_on a.entries a.page.now) (sym c.reached.ensures ∙ c.if-not-reached.true)

pub returns-then-number-entries-2 : goal.returns-then-number-entries-2
returns-then-number-entries-2 c =
    let a = c.args in
    let e = a.entries in
    reached-all a.key a.number (keys_on e a.page.now) (sym c.reached.ensures ∙ c.if-not-reached.false)
    (omega (arith, length-keys_in e.header e.size e.count a.page.now))

pub returns : goal.returns
returns c =
    let a = c.args in
    let e = a.entries in
    rw c.key.ensures
    (reached-next a.key a.number (keys_on e a.page.now) (sym c.reached.ensures ∙ c.if-not-reached.false) c.requires.1 (omega (arith, length-keys_in e.header e.size e.count a.page.now)))
