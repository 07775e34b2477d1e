-- `seek::reached`: one comparison, with the last of so many entries.
-- Assumes nothing.
use Rattle.entries.specs.Layout.{keys_on}
use Rattle.entries.proofs.KeysIn.{length-keys_in}
use Rattle.seek.proofs.Spots.{reached-none, reached-last}
use native.Mathlib.Omega.{arith}
use Rattle.seek.proofs.reached.Goals as goal

pub returns-then-number-eq0 : goal.returns-then-number-eq0
returns-then-number-eq0 c = let a = c.args in reached-none a.key a.number (keys_on a.entries a.page.now) c.if-number-eq0.true

pub returns : goal.returns
returns c =
    let a = c.args in
    let e = a.entries in
    rw c.key.ensures
    (reached-last a.key a.number (keys_on e a.page.now) c.requires.1 (omega (arith, c.requires.2, length-keys_in e.header e.size e.count a.page.now)) c.if-number-eq0.false)
