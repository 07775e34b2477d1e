-- `list::look`: what lies ahead tells which of the three loops is right. Assumes nothing.
use mathlib.Core.Path.{sym, ◌∙◌}
use Rattle.rules.specs.Walk.{walk_of}
use Rattle.rules.proofs.Entries.Tests.{not_both}
use Rattle.list.proofs.Tells.{ahead_damaged, ahead_whole, calm-ahead, tell_calm, tell_damaged, tell_filled}
use native.Mathlib.Omega.{arith}
use Rattle.list.proofs.look.Goals as goal

pub mend-report-requires : goal.mend-report-requires
mend-report-requires c =
    let args = c.args in
    let pre = c.requires in
    let dry-of = c.dry_of in
    let damaged = ahead_damaged args.n args.a args.t.now pre.2 pre.0 pre.1 dry-of.result dry-of.ensures args.c c.slice_known-1.given (omega (arith, c.ranges.c)) c.in_default.field-0 c.in_default.is in
    (pre.0, pre.2, pre.3, pre.4, λ h. absurd (not_both h damaged))

pub returns-in_default : goal.returns-in_default
returns-in_default c =
    let args = c.args in
    let pre = c.requires in
    let dry-of = c.dry_of in
    let mend = c.mend-report in
    let damaged = ahead_damaged args.n args.a args.t.now pre.2 pre.0 pre.1 dry-of.result dry-of.ensures args.c c.slice_known-1.given (omega (arith, c.ranges.c)) c.in_default.field-0 c.in_default.is in
    tell_damaged args.keys.now args.records.now (walk_of args.n args.c args.a args.t.now) damaged mend.new.t mend.result mend.ensures

pub fill_known-known-requires : goal.fill_known-known-requires
fill_known-known-requires c =
    let args = c.args in
    let pre = c.requires in
    let dry-of = c.dry_of in
    (calm-ahead args.n args.a args.t.now pre.2 pre.0 pre.1 dry-of.result dry-of.ensures c.in-Ok.ahead c.in-Ok.is (sym c.mends_nothing.ensures ∙ c.if-mends_nothing.true), pre.5)

pub returns-then-mends_nothing : goal.returns-then-mends_nothing
returns-then-mends_nothing c =
    let args = c.args in
    let pre = c.requires in
    let dry-of = c.dry_of in
    let fill-Known = c.fill_known-known in
    tell_calm args.n args.a args.t.now pre.2 pre.0 pre.1 dry-of.result dry-of.ensures c.in-Ok.ahead c.in-Ok.is (sym c.mends_nothing.ensures ∙ c.if-mends_nothing.true) args.c c.slice_known-1.given (omega (arith, c.ranges.c)) args.keys.now args.records.now fill-Known.result fill-Known.new.keys fill-Known.new.records fill-Known.ensures c.nothing.result c.nothing.ensures

pub fill-filled-requires : goal.fill-filled-requires
fill-filled-requires c =
    let args = c.args in
    let pre = c.requires in
    let dry-of = c.dry_of in
    (pre.0, pre.2, pre.3, pre.4, pre.5, ahead_whole args.n args.a args.t.now pre.2 pre.0 pre.1 dry-of.result dry-of.ensures args.c c.slice_known-1.given (omega (arith, c.ranges.c)) c.in-Ok.ahead c.in-Ok.is)

pub returns : goal.returns
returns c =
    let args = c.args in
    let pre = c.requires in
    let dry-of = c.dry_of in
    let fill = c.fill-filled in
    tell_filled args.keys.now args.records.now (walk_of args.n args.c args.a args.t.now) (ahead_whole args.n args.a args.t.now pre.2 pre.0 pre.1 dry-of.result dry-of.ensures args.c c.slice_known-1.given (omega (arith, c.ranges.c)) c.in-Ok.ahead c.in-Ok.is) fill.new.t fill.result fill.new.keys fill.new.records fill.ensures
