-- `entries::write_cert`: the two fields of the entry, one after the other.
-- Assumes nothing.
use Rattle.entries.proofs.Header.{cert_puts}
use mathlib.Core.Path.{sym}
use Rattle.entries.proofs.write_cert.Goals as goal

pub returns : goal.returns
returns c =
    let put32 = c.put32 in
    let put64 = c.put64 in
    let a = c.args in
    rw (put32.ensures, put64.ensures) (sym (cert_puts a.page.now a.at a.key a.value))
