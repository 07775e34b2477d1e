-- `sections::put_from`: a key out of the range is not written. Assumes nothing.
use mathlib.Core.Path.{sym, subst, ◌∙◌}
use lib.ListN.{length}
use Rattle.counts.specs.declared.Tally.{Tally}
use Rattle.counts.proofs.Tallies.{in_here}
use Rattle.sections.specs.Puts.{Lies}
use Rattle.sections.proofs.Puts.{from_not, from-here}
use Rattle.sections.proofs.put_from.Goals as goal

pub returns-then-not-holds : goal.returns-then-not-holds
returns-then-not-holds c = from_not c.args.s c.args.range.low c.args.range.high c.args.c (record { key = c.args.key; value = c.args.«record» }) c.args.out.now (sym c.holds.ensures ∙ c.if-not-holds.true)

pub put_next-requires : goal.put_next-requires
put_next-requires c =
    let there = in_here c.args.range.low c.args.range.high c.args.c c.args.key (sym c.holds.ensures ∙ c.if-not-holds.false) in
    (c.requires.0, c.requires.1, subst (λ (d : Tally). Lies c.args.s d (length c.args.out.now)) (sym there) c.requires.2)

pub returns : goal.returns
returns c = c.put_next.ensures ∙ from-here c.args.s c.args.range.low c.args.range.high c.args.c (record { key = c.args.key; value = c.args.«record» }) c.args.out.now (sym c.holds.ensures ∙ c.if-not-holds.false)
