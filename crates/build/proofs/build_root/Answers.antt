-- `build::build_root`: one entry, zeros behind it, the header over it (Built).
-- Assumes nothing.
use Rattle.rules.specs.Insert.{new_child}
use Rattle.build.proofs.Built.{root-built}
use Rattle.build.proofs.build_root.Goals as goal

pub returns : goal.returns
returns c =
    let header = c.header in
    let clear = c.clear in
    let write-child = c.write_child in
    let a = c.args in
    let pre = c.requires in
    rw (header.ensures, clear.ensures, write-child.ensures) (root-built a.table.now a.to a.kind a.c (new_child a.old.birth a.old.low a.old.child a.old.previous) pre.page_size_in_bounds pre.leaf_kind_lt_kind)
