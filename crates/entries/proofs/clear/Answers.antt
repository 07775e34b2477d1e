-- `entries::clear`: what is written over the part is a run of stores.
-- Assumes nothing.
use mathlib.Core.Path.{◌∙◌}
use Prim.Native.Nat.{◌+◌, ◌-◌, ◌≤◌}
use lib.ListN.{length}
use native.Mathlib.Omega.{arith}
use Rattle.fields.proofs.Run.{length_part, put_mid-sets}
use Rattle.entries.proofs.clear.Goals as goal

pub returns : goal.returns
returns c =
    let a = c.args in
    let pre = c.requires in
    let w = a.end - a.at in
    let bound : a.at + w ≤ length a.bytes.now = omega arith in
    let part = length_part w a.at a.bytes.now bound in
    rw (put_mid-sets a.bytes.now c.fill.new.self a.at w (c.fill.ensures.len ∙ part) bound, c.fill.ensures.after (λ y e. e), part)
