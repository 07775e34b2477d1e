-- `write::look`: the walk that counts tells which of the walks is right. Assumes nothing.
use Rattle.write.proofs.Tells.{asks-low, asks-high, asks-room, known_few, known_certs, known_room, known_lies, known_all, kept-lies, tell_damaged, tell_short, tell_written}
use native.Mathlib.Omega.{arith}
use Rattle.write.proofs.look.Goals as goal

pub mend-report-requires : goal.mend-report-requires
mend-report-requires c = (c.requires.0, c.requires.2, asks-low c.everything.ensures, asks-high c.everything.ensures, asks-room c.args.n c.args.c c.args.t.now c.everything.ensures)

pub returns-in_default : goal.returns-in_default
returns-in_default c = tell_damaged c.args.n c.args.c c.args.t.now c.requires.0 c.requires.1 c.requires.2 c.slice_known-1.given (omega (arith, c.ranges.c)) c.count_of.result c.count_of.ensures c.everything.ensures c.mend-report.new.t c.mend-report.result c.mend-report.ensures c.args.out.now c.in_default.field-0 c.in_default.is

pub starts_of-starts-requires : goal.starts_of-starts-requires
starts_of-starts-requires c = (known_few c.args.n c.args.c c.args.t.now c.requires.0 c.requires.1 c.requires.2 c.slice_known-1.given (omega (arith, c.ranges.c)) c.count_of.result c.count_of.ensures c.in-Ok.tally c.in-Ok.is, known_certs c.args.n c.args.c c.args.t.now c.requires.0 c.requires.1 c.requires.2 c.slice_known-1.given (omega (arith, c.ranges.c)) c.count_of.result c.count_of.ensures c.in-Ok.tally c.in-Ok.is)

pub mend-report-requires-then-starts-out : goal.mend-report-requires-then-starts-out
mend-report-requires-then-starts-out c = (c.requires.0, c.requires.2, asks-low c.everything-then-starts-out.ensures, asks-high c.everything-then-starts-out.ensures, asks-room c.args.n c.args.c c.args.t.now c.everything-then-starts-out.ensures)

pub returns-then-starts-out : goal.returns-then-starts-out
returns-then-starts-out c = tell_short c.args.n c.args.c c.args.t.now c.requires.0 c.requires.1 c.requires.2 c.slice_known-1.given (omega (arith, c.ranges.c)) c.count_of.result c.count_of.ensures c.in-Ok.tally c.in-Ok.is c.starts_of-starts.result c.starts_of-starts.ensures c.args.out.now c.everything-then-starts-out.ensures c.mend-report-then-starts-out.new.t c.mend-report-then-starts-out.result c.mend-report-then-starts-out.ensures c.if-starts-out.true

pub put_counts-requires : goal.put_counts-requires
put_counts-requires c = (known_few c.args.n c.args.c c.args.t.now c.requires.0 c.requires.1 c.requires.2 c.slice_known-1.given (omega (arith, c.ranges.c)) c.count_of.result c.count_of.ensures c.in-Ok.tally c.in-Ok.is, known_certs c.args.n c.args.c c.args.t.now c.requires.0 c.requires.1 c.requires.2 c.slice_known-1.given (omega (arith, c.ranges.c)) c.count_of.result c.count_of.ensures c.in-Ok.tally c.in-Ok.is, c.starts_of-starts.ensures, known_room c.args.n c.args.c c.args.t.now c.requires.0 c.requires.1 c.requires.2 c.slice_known-1.given (omega (arith, c.ranges.c)) c.count_of.result c.count_of.ensures c.in-Ok.tally c.in-Ok.is c.starts_of-starts.result c.starts_of-starts.ensures c.args.out.now (omega (arith, c.if-starts-out.false)))

pub fill-report-requires : goal.fill-report-requires
fill-report-requires c =
    let room = known_lies c.args.n c.args.c c.args.t.now c.requires.0 c.requires.1 c.requires.2 c.slice_known-1.given (omega (arith, c.ranges.c)) c.count_of.result c.count_of.ensures c.in-Ok.tally c.in-Ok.is c.starts_of-starts.result c.starts_of-starts.ensures c.args.out.now (omega (arith, c.if-starts-out.false)) c.everything-2.ensures in
    (c.requires.0, c.requires.2, asks-low c.everything-2.ensures, asks-high c.everything-2.ensures, known_all c.args.n c.args.c c.args.t.now c.requires.0 c.requires.1 c.requires.2 c.slice_known-1.given (omega (arith, c.ranges.c)) c.count_of.result c.count_of.ensures c.in-Ok.tally c.in-Ok.is c.starts_of-starts.result c.starts_of-starts.ensures c.args.out.now (omega (arith, c.if-starts-out.false)) c.everything-2.ensures, asks-room c.args.n c.args.c c.args.t.now c.everything-2.ensures, kept-lies c.put_counts.auto.out room)

pub returns : goal.returns
returns c = tell_written c.args.n c.args.c c.args.t.now c.requires.0 c.requires.1 c.requires.2 c.slice_known-1.given (omega (arith, c.ranges.c)) c.count_of.result c.count_of.ensures c.in-Ok.tally c.in-Ok.is c.starts_of-starts.result c.starts_of-starts.ensures c.args.out.now (omega (arith, c.if-starts-out.false)) c.everything-2.ensures c.put_counts.new.out c.put_counts.ensures c.fill-report.new.t c.fill-report.new.out c.fill-report.result c.fill-report.ensures
