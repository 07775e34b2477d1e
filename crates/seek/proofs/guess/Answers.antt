-- `seek::guess`: each turn is one of the definition's.
-- Assumes nothing.
use Prim.Native.Nat.{◌-◌, ◌/◌, ◌≤◌, ◌^◌}
use lib.ListN.{length}
use Rattle.entries.specs.Layout.{keys_on}
use Rattle.entries.proofs.KeysIn.{length-keys_in}
use Rattle.seek.proofs.Halving.{passed-most, shifted, few, halving_all, halving_end, half_inside, halving_step}
use native.Mathlib.Omega.{arith}
use Rattle.seek.proofs.guess.Goals as goal

pub loop-left-init : goal.loop-left-init
loop-left-init c =
    let a = c.args in
    let e = a.entries in
    rw (length-keys_in e.header e.size e.count a.page.now) at (halving_all a.key (keys_on e a.page.now))

pub overflow_add-low : goal.overflow_add-low
overflow_add-low c =
    let a = c.args in
    let e = a.entries in
    let loop = c.loop-left in
    omega (arith, half_inside a.key (keys_on e a.page.now) loop.low loop.left loop.invariant c.loop-left-test.true, length-keys_in e.header e.size e.count a.page.now)

pub key-requires-clause-among : goal.key-requires-clause-among
key-requires-clause-among c =
    let a = c.args in
    let e = a.entries in
    let loop = c.loop-left in
    rw length-keys_in at (half_inside a.key (keys_on e a.page.now) loop.low loop.left loop.invariant c.loop-left-test.true)

pub overflow_sub-low-in-loop-left : goal.overflow_sub-low-in-loop-left
overflow_sub-low-in-loop-left c =
    let a = c.args in
    let e = a.entries in
    let ks = keys_on e a.page.now in
    let loop = c.loop-left in
    let half : loop.left - loop.left / 2 ≤ 2 ^ 60
    = omega (arith, few e.header e.size e.count (length a.page.now) e.keyed c.requires (omega arith), loop.invariant.inside, length-keys_in e.header e.size e.count a.page.now) in
    let step = shifted a.key c.key.result (loop.left - loop.left / 2) half in
    step.0

pub overflow_add-low-in-loop-left : goal.overflow_add-low-in-loop-left
overflow_add-low-in-loop-left c =
    let a = c.args in
    let e = a.entries in
    let ks = keys_on e a.page.now in
    let loop = c.loop-left in
    let half : loop.left - loop.left / 2 ≤ 2 ^ 60
    = omega (arith, few e.header e.size e.count (length a.page.now) e.keyed c.requires (omega arith), loop.invariant.inside, length-keys_in e.header e.size e.count a.page.now) in
    let step = shifted a.key c.key.result (loop.left - loop.left / 2) half in
    rw step.1 (omega (arith, passed-most a.key c.key.result (loop.left - loop.left / 2), loop.invariant.inside, length-keys_in e.header e.size e.count a.page.now))

pub loop-left-preserved : goal.loop-left-preserved
loop-left-preserved c =
    let a = c.args in
    let e = a.entries in
    let ks = keys_on e a.page.now in
    let loop = c.loop-left in
    let half : loop.left - loop.left / 2 ≤ 2 ^ 60
    = omega (arith, few e.header e.size e.count (length a.page.now) e.keyed c.requires (omega arith), loop.invariant.inside, length-keys_in e.header e.size e.count a.page.now) in
    let step = shifted a.key c.key.result (loop.left - loop.left / 2) half in
    rw step.1 (halving_step a.key ks loop.low loop.left loop.invariant c.loop-left-test.true c.key.result c.key.ensures)

pub returns : goal.returns
returns c =
    let a = c.args in
    let loop = c.loop-left in
    halving_end a.key (keys_on a.entries a.page.now) loop.low loop.left loop.invariant (omega arith)
