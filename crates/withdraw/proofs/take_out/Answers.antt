-- `withdraw::take_out`: the step to the key's leaf met damage, or it has the leaf, and the certificate is in it or not
-- (Along). Assumes nothing.
use Prim.Native.Nat.{◌≤◌}
use Rattle.rules.specs.Layout.{last_key}
use Rattle.climbs.specs.Ground.{Ground}
use Rattle.leaves.proofs.Loops.{kept-start}
use Rattle.withdraw.proofs.Along.{from_nothing, damaged, reached, spot-within, found_as, none_found, one_found, missing, has, taken_out}
use native.Mathlib.Omega.{arith}
use Rattle.withdraw.proofs.take_out.Goals as goal

pub next-requires : goal.next-requires
next-requires c =
    (c.requires.0, c.requires.1, kept-start c.args.session.n c.args.t.now c.start-first.result c.start-first.ensures)

pub returns-in-Err : goal.returns-in-Err
returns-in-Err c =
    let s = c.args.session in
    let k = c.args.key in
    let t = c.args.t.now in
    let u = c.next.new.t in
    let g : Ground s.n s.c t = record { long = c.requires.0; bytes = c.slice_known-1.given; fit = c.requires.1; counter = omega (arith, c.well_formed) } in
    let h : k ≤ last_key = omega (arith, c.ranges.key) in
    let f = from_nothing s.n s.c k t u c.next.result c.nothing.result c.nothing.ensures c.next.ensures in
    damaged s k t u g h f c.in-Err.is

pub find_on-requires : goal.find_on-requires
find_on-requires c =
    let s = c.args.session in
    let k = c.args.key in
    let t = c.args.t.now in
    let u = c.next.new.t in
    let g : Ground s.n s.c t = record { long = c.requires.0; bytes = c.slice_known-1.given; fit = c.requires.1; counter = omega (arith, c.well_formed) } in
    let h : k ≤ last_key = omega (arith, c.ranges.key) in
    let f = from_nothing s.n s.c k t u c.next.result c.nothing.result c.nothing.ensures c.next.ensures in
    let e = c.in-Ok.is in
    let r = reached s k t u g h f e in
    (omega (arith, c.next.auto.t, c.requires.0, r.child_below), spot-within s k t u g h f e)

pub returns-in_default : goal.returns-in_default
returns-in_default c =
    let s = c.args.session in
    let k = c.args.key in
    let t = c.args.t.now in
    let u = c.next.new.t in
    let g : Ground s.n s.c t = record { long = c.requires.0; bytes = c.slice_known-1.given; fit = c.requires.1; counter = omega (arith, c.well_formed) } in
    let h : k ≤ last_key = omega (arith, c.ranges.key) in
    let f = from_nothing s.n s.c k t u c.next.result c.nothing.result c.nothing.ensures c.next.ensures in
    let e = c.in-Ok.is in
    let x = found_as s k t u g h f e c.find_on.ensures in
    missing s k t u g h f e (none_found _ c.find_on.result x c.in_default.not-Ok)

pub remove_cert-requires : goal.remove_cert-requires
remove_cert-requires c =
    let s = c.args.session in
    let k = c.args.key in
    let t = c.args.t.now in
    let u = c.next.new.t in
    let g : Ground s.n s.c t = record { long = c.requires.0; bytes = c.slice_known-1.given; fit = c.requires.1; counter = omega (arith, c.well_formed) } in
    let h : k ≤ last_key = omega (arith, c.ranges.key) in
    let f = from_nothing s.n s.c k t u c.next.result c.nothing.result c.nothing.ensures c.next.ensures in
    let e = c.in-Ok.is in
    let r = reached s k t u g h f e in
    let x = found_as s k t u g h f e c.find_on.ensures in
    let o = one_found _ c.find_on.result x _ c.in-Ok-find_on.is in
    record { page_size_in_bounds = omega (arith, c.next.auto.t, c.requires.0, r.child_below); has_cert = has s k t u g h f e o.0 o.1 }

pub returns-in-Ok : goal.returns-in-Ok
returns-in-Ok c =
    let s = c.args.session in
    let k = c.args.key in
    let t = c.args.t.now in
    let u = c.next.new.t in
    let g : Ground s.n s.c t = record { long = c.requires.0; bytes = c.slice_known-1.given; fit = c.requires.1; counter = omega (arith, c.well_formed) } in
    let h : k ≤ last_key = omega (arith, c.ranges.key) in
    let f = from_nothing s.n s.c k t u c.next.result c.nothing.result c.nothing.ensures c.next.ensures in
    let e = c.in-Ok.is in
    let x = found_as s k t u g h f e c.find_on.ensures in
    let o = one_found _ c.find_on.result x _ c.in-Ok-find_on.is in
    λ stable. taken_out s k t u g h f e o.0 o.1 stable c.remove_cert.new.table c.remove_cert.ensures c.uncount-lowered.result c.uncount-lowered.ensures
