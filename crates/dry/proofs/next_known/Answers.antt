-- `dry::next_known`: no damaged place lies ahead. Assumes nothing.
use mathlib.Core.Path.{ap, sym, ◌∙◌}
use Rattle.std.specs.Prelude.{Option, Result}
use Rattle.dry.specs.Cursor.{reaching}
use Rattle.dry.specs.declared.Damaged.{Damaged}
use Rattle.dry.specs.declared.LeafAt.{LeafAt}
use Rattle.dry.proofs.Reaches.{sure_whole}
use Rattle.dry.proofs.next_known.Goals as goal

pub returns-in_default : goal.returns-in_default
returns-in_default c =
    let e = ap (λ (v : Result (Option LeafAt) Damaged). reaching v c.leaf_by.new.marks) (sym c.in_default.is) ∙ c.leaf_by.ensures in
    absurd (sure_whole c.args.table.pages c.args.a c.args.table.bytes.now c.args.table.whole c.args.c c.args.marks.now c.requires.0 c.requires.1 c.in_default.field-0 c.leaf_by.new.marks e)

pub returns : goal.returns
returns c =
    ap (λ (v : Result (Option LeafAt) Damaged). reaching v c.leaf_by.new.marks) (sym c.in-Ok.is) ∙ c.leaf_by.ensures
