-- `split::halve`: what is built first leaves the split page and the page above as they were, so each step finds what it asks for.
-- Assumes nothing.
use Rattle.split.proofs.Halved.{divides-still, takes-still, halved}
use native.Mathlib.Omega.{arith}
use Rattle.split.proofs.halve.Goals as goal

pub build_upper-requires : goal.build_upper-requires
build_upper-requires c =
    let args = c.args in
    let pre = c.requires in
    let build-lower = c.build_lower in record { page_size_in_bounds = (omega (arith, pre.upper_in, build-lower.auto.table), omega (arith, pre.child_in_lem, build-lower.auto.table)); divides = divides-still pre args.c build-lower.new.table build-lower.ensures }

pub put_twins-requires : goal.put_twins-requires
put_twins-requires c =
    let args = c.args in
    let pre = c.requires in
    let middle-at = c.middle_at-middle in
    let build-lower = c.build_lower in
    let build-upper = c.build_upper in record {
      page_size_in_bounds = omega (arith, pre.above_in_lem, build-lower.auto.table, build-upper.auto.table);
      takes_twins = takes-still pre args.c build-lower.new.table build-lower.ensures (omega (arith, build-lower.auto.table))
          build-upper.new.table build-upper.ensures middle-at.result middle-at.ensures;
    }

pub returns : goal.returns
returns c =
    let args = c.args in
    let pre = c.requires in
    let middle-at = c.middle_at-middle in
    let build-lower = c.build_lower in
    let build-upper = c.build_upper in
    let previous-of = c.previous_of in
    let put-twins = c.put_twins in
    let side = c.side in
    λ s. halved pre args.c build-lower.new.table build-lower.ensures (omega (arith, build-lower.auto.table))
    build-upper.new.table build-upper.ensures args.key s middle-at.result
    previous-of.result put-twins.new.table side.result middle-at.ensures
    previous-of.ensures put-twins.ensures side.ensures
