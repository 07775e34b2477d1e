-- `sections::put_counts`: each count before its section. Assumes nothing.
use Rattle.sections.proofs.Puts.{starts_at_lem, starts-are, counts-are}
use native.Mathlib.Omega.{arith}
use Rattle.sections.proofs.put_counts.Goals as goal

pub put32-requires : goal.put32-requires
put32-requires c = omega (arith, (starts_at_lem c.args.c).end, c.requires.3)

pub overflow_sub-s : goal.overflow_sub-s
overflow_sub-s c = omega (arith, (starts-are c.requires.2).meters)

pub put32-requires-2 : goal.put32-requires-2
put32-requires-2 c = omega (arith, (starts_at_lem c.args.c).end, c.requires.3, (starts-are c.requires.2).meters, c.put32.auto.b)

pub overflow_sub-s-2 : goal.overflow_sub-s-2
overflow_sub-s-2 c = omega (arith, (starts-are c.requires.2).certs)

pub put32-requires-3 : goal.put32-requires-3
put32-requires-3 c = omega (arith, (starts_at_lem c.args.c).end, c.requires.3, (starts-are c.requires.2).certs, c.put32.auto.b, c.put32-2.auto.b)

pub returns : goal.returns
returns c = rw (c.put32-3.ensures, c.put32-2.ensures, c.put32.ensures) (counts-are c.args.s c.args.c c.args.out.now (starts-are c.requires.2))
