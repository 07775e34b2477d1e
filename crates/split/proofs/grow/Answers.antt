-- `split::grow`: the root built, and named in page 0 are what the rules grow. Assumes nothing.
use Rattle.split.proofs.Grown.{grown}
use native.Mathlib.Omega.{arith}
use borrow.Author.Rules.{rules}
use Rattle.split.proofs.grow.Goals as goal

pub build_root-requires : goal.build_root-requires
build_root-requires c =
    let pre = c.requires in
    record { page_size_in_bounds = search rules; leaf_kind_lt_kind = omega (arith, pre.kind_from) }

pub returns : goal.returns
returns c =
    let args = c.args in
    let pre = c.requires in
    let build-root = c.build_root in
    let root_previous_lem = c.root_previous in
    let set-root = c.set_root in
    λ s. grown args.c args.table.now args.root.place args.root.head args.new root_previous_lem.result s
    build-root.new.table set-root.new.table pre.head build-root.ensures
    root_previous_lem.ensures set-root.ensures
