-- `edit::remove_cert`: the page's part, with one certificate less.
-- Assumes nothing.
use native.Mathlib.Nat.{add-sub_cancel_left}
use Rattle.rules.specs.Page.{page_in}
use Rattle.rules.specs.Table.{set_page, read, shrink}
use Rattle.rules.specs.Withdraw.{removed}
use Rattle.rules.proofs.Bytes.Tables.{length-page_at}
use Rattle.entries.proofs.Part.{page_part}
use native.Mathlib.Omega.{arith}
use Rattle.edit.proofs.remove_cert.Goals as goal

pub remove_cert_in-requires : goal.remove_cert_in-requires
unfolding read page_in
remove_cert_in-requires c =
    let a = c.args in
    rw (page_part a.table.now a.i)
    record { page_len = length-page_at a.table.now a.i (omega arith); has_cert = c.requires.has_cert }

pub returns : goal.returns
unfolding removed shrink set_page read page_in
returns c =
    let remove-cert-in = c.remove_cert_in in
    let a = c.args in
    rw (remove-cert-in.ensures, page_part a.table.now a.i, add-sub_cancel_left)
