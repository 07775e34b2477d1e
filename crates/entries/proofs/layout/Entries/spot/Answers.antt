-- `Entries::spot`: one entry passed, the first that is not, or none left.
-- Assumes nothing.
use native.Mathlib.Omega.{arith}
use Rattle.entries.specs.Layout.{keys_on}
use Rattle.entries.proofs.KeysIn.{length-keys_in}
use Rattle.entries.proofs.Passed.{spot_pass, spot_stop, spot-end}
use Rattle.entries.proofs.layout.Entries.spot.Goals as goal

pub returns-then-key : goal.returns-then-key
returns-then-key c =
    let a = c.args in
    let long = length-keys_in a.self.header a.self.size a.self.count a.page.now in
    omega (arith, c.loop-j.invariant, spot_stop a.key c.loop-j.j (keys_on a.self a.page.now) (omega arith) (omega arith))

pub loop-j-preserved : goal.loop-j-preserved
loop-j-preserved c =
    let a = c.args in
    let long = length-keys_in a.self.header a.self.size a.self.count a.page.now in
    omega (arith, c.loop-j.invariant, spot_pass a.key c.loop-j.j (keys_on a.self a.page.now) (omega arith) (omega arith))

pub returns : goal.returns
returns c =
    let a = c.args in
    let long = length-keys_in a.self.header a.self.size a.self.count a.page.now in
    omega (arith, c.loop-j.invariant, spot-end a.key c.loop-j.j (keys_on a.self a.page.now) (omega arith))
