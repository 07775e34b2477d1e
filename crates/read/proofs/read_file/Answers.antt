-- `read::read_file`: each return is one of the rule's cases. Assumes nothing.
use mathlib.Core.Path.{refl, sym, ◌∙◌}
use Rattle.read.proofs.Turns.{turns-read, refused-length, refused-file}
use Rattle.read.proofs.read_file.Goals as goal

pub returns-then-not-lengths_for : goal.returns-then-not-lengths_for
returns-then-not-lengths_for c =
    refused-length c.args.working.now c.args.stable.now c.args.session c.args.file.now c.nothing.result c.nothing.ensures
    (sym (c.lengths_for.ensures c.args.session refl) ∙ c.if-not-lengths_for.true)

pub returns-in-Err : goal.returns-in-Err
returns-in-Err c =
    refused-file c.args.working.now c.args.stable.now c.args.session c.args.file.now c.in-Err.place c.nothing-in-Err.result c.nothing-in-Err.ensures
    (sym (c.lengths_for.ensures c.args.session refl) ∙ c.if-not-lengths_for.false) (sym c.check.ensures ∙ c.in-Err.is)

pub returns-in-Ok : goal.returns-in-Ok
returns-in-Ok c =
    turns-read c.args.working.now c.args.stable.now c.args.session c.args.file.now c.in-Ok.count (sym c.check.ensures ∙ c.in-Ok.is)
    (sym (c.lengths_for.ensures c.args.session refl) ∙ c.if-not-lengths_for.false)
    c.enter_all-made.result c.enter_all-made.new.working c.enter_all-made.ensures
