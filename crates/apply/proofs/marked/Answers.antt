-- `apply::marked`: a new root's page is taken, or none grows; then the halves are marked. Assumes nothing.
use mathlib.Core.Path.{refl}
use Rattle.apply.proofs.Down.{way-starts}
use Rattle.apply.proofs.Marks.{numbered, root-numbered, marked-root, marked-none}
use Rattle.apply.proofs.marked.Goals as goal

pub bounds-chosen-many : goal.bounds-chosen-many
bounds-chosen-many c = (way-starts c.requires.ready c.splits-many.result c.splits-many.ensures).root c.if-many-way.true

pub take-rooted-requires : goal.take-rooted-requires
take-rooted-requires c = root-numbered c.requires c.splits-many.result c.splits-many.ensures c.if-many-way.true

pub mark_halves-requires : goal.mark_halves-requires
mark_halves-requires c = numbered c.requires c.splits-many.result c.splits-many.ensures

pub returns-then-many-way : goal.returns-then-many-way
returns-then-many-way c =
    let args = c.args in
    marked-root args.way.now args.chosen.now c.splits-many.result args.session c.splits-many.ensures c.mark_halves.result c.take-rooted.result c.mark_halves.ensures c.if-many-way.true c.take-rooted.ensures

pub mark_halves-requires-2 : goal.mark_halves-requires-2
mark_halves-requires-2 c = numbered c.requires c.splits-many.result c.splits-many.ensures

pub returns : goal.returns
returns c =
    let args = c.args in
    marked-none args.way.now args.chosen.now c.splits-many.result args.session c.splits-many.ensures c.mark_halves-2.result args.session c.mark_halves-2.ensures c.if-many-way.false refl
