-- `edit::put_twins`: the page's part, changed.
-- Assumes nothing.
use native.Mathlib.Nat.{add-sub_cancel_left}
use Rattle.rules.specs.Page.{page_in}
use Rattle.rules.specs.Table.{set_page, read, change}
use Rattle.rules.specs.Insert.{changed}
use Rattle.rules.proofs.Bytes.Tables.{length-page_at}
use Rattle.entries.proofs.Part.{page_part}
use native.Mathlib.Omega.{arith}
use Rattle.edit.proofs.put_twins.Goals as goal

pub put_twins_in-requires : goal.put_twins_in-requires
unfolding read page_in
put_twins_in-requires c =
    let a = c.args in
    rw (page_part a.table.now a.i)
    record { page_len = length-page_at a.table.now a.i (omega arith); takes_twins = c.requires.takes_twins }

pub returns : goal.returns
unfolding changed change set_page read page_in
returns c =
    let put-twins-in = c.put_twins_in in
    let a = c.args in
    rw (put-twins-in.ensures, page_part a.table.now a.i, add-sub_cancel_left)
