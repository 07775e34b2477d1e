-- `format::empty_leaf`: the five puts over zeros compute to the first leaf.
-- Assumes nothing.
use mathlib.Core.Path.{ap}
use lib.ListN.{length}
use Rattle.format.proofs.Leaf.{length-blank, leaf-bytes}
use native.Mathlib.Omega.{arith}
use Rattle.format.proofs.empty_leaf.Goals as goal

pub put16-requires : goal.put16-requires
put16-requires c = omega (arith, ap length c.requires, length-blank)

pub put32-requires : goal.put32-requires
put32-requires c = omega (arith, ap length c.requires, length-blank)

pub put32-requires-2 : goal.put32-requires-2
put32-requires-2 c =
    let pre = c.requires in
    omega (arith, ap length pre, length-blank)

pub put32-requires-3 : goal.put32-requires-3
put32-requires-3 c =
    let pre = c.requires in
    omega (arith, ap length pre, length-blank)

pub put64-requires : goal.put64-requires
put64-requires c =
    let pre = c.requires in
    omega (arith, ap length pre, length-blank)

pub returns : goal.returns
returns c =
    let pre = c.requires in
    let put16 = c.put16 in
    let put32 = c.put32 in
    let put322 = c.put32-2 in
    let put323 = c.put32-3 in
    let kind = put16.ensures in
    let birth = put32.ensures in
    let built = put322.ensures in
    let touched = put323.ensures in
    rw (c.put64.ensures, touched, built, birth, kind, pre) leaf-bytes
