-- `edit::put_cert`: the page's part, changed.
-- Assumes nothing.
use native.Mathlib.Nat.{add-sub_cancel_left}
use Rattle.rules.specs.Page.{page_in}
use Rattle.rules.specs.Table.{set_page, read, change}
use Rattle.rules.specs.Insert.{changed}
use Rattle.rules.proofs.Bytes.Tables.{length-page_at}
use Rattle.entries.proofs.Part.{page_part}
use native.Mathlib.Omega.{arith}
use Rattle.edit.proofs.put_cert.Goals as goal

pub put_cert_in-requires : goal.put_cert_in-requires
unfolding read page_in
put_cert_in-requires c =
    let a = c.args in
    rw (page_part a.table.now a.i)
    record { page_len = length-page_at a.table.now a.i (omega arith); takes_cert = c.requires.takes_cert }

pub returns : goal.returns
unfolding changed change set_page read page_in
returns c =
    let put-cert-in = c.put_cert_in in
    let a = c.args in
    rw (put-cert-in.ensures, page_part a.table.now a.i, add-sub_cancel_left)
