-- `seen::walk`: the page walk from the root, with nothing noted. Assumes nothing.
use Rattle.std.proofs.Common.{ap, ◌∙◌}
use Rattle.rules.specs.Tree.{tree, tree_of}
use Rattle.rules.specs.declared.Place.{Place}
use Rattle.seen.specs.Note.{note, nothing}
use Rattle.seen.proofs.walk.Goals as goal

pub returns : goal.returns
unfolding tree_of nothing
returns c =
    let args = c.args in
    let root-place = c.root_place-root in
    c.walk_page-sum.ensures ∙ ap (λ (e : Place). note nothing (tree 3 args.table.pages args.table.bytes.now e))
    root-place.ensures
