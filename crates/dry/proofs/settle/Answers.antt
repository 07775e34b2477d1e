-- `dry::settle`: by what the place came to. Assumes nothing.
use mathlib.Core.Path.{ap, sym, ◌∙◌}
use Rattle.dry.specs.Cursor.{settle_of}
use Rattle.dry.proofs.settle.Goals as goal

pub returns-in-Passed : goal.returns-in-Passed
unfolding settle_of
returns-in-Passed c = sym (ap (settle_of c.args.s) c.in-Passed.is)

pub returns-in-Leaf : goal.returns-in-Leaf
unfolding settle_of
returns-in-Leaf c = sym (ap (settle_of c.args.s) c.in-Leaf.is)

pub returns-in-Entries : goal.returns-in-Entries
unfolding settle_of
returns-in-Entries c = c.under.ensures ∙ sym (ap (settle_of c.args.s) c.in-Entries.is)
