-- `build::middle_at`: the key behind the lower half.
-- Assumes nothing.
use mathlib.Core.Path.{sym}
use Rattle.rules.specs.Page.{page_in}
use Rattle.rules.specs.Table.{page_at, read}
use Rattle.rules.proofs.Bytes.Tables.{length-page_at}
use Rattle.entries.proofs.Layouts.{header-entries_of, size-entries_of, count-entries_of, keys-entries_of}
use Rattle.build.proofs.Built.{entries_fit}
use Rattle.build.proofs.Halves.{divide-key, half_below}
use native.Mathlib.Omega.{arith}
use Rattle.build.proofs.middle_at.Goals as goal

pub key-requires-clause-lies : goal.key-requires-clause-lies
unfolding read page_in
key-requires-clause-lies c =
    let a = c.args in
    let b = page_at a.table.now a.i in
    rw (c.of.ensures, header-entries_of, size-entries_of, count-entries_of, c.page_at-page.ensures.bytes)
    (omega (arith, length-page_at a.table.now a.i (omega arith), entries_fit b c.requires.divides.roomy))

pub key-requires-clause-among : goal.key-requires-clause-among
unfolding read page_in
key-requires-clause-among c =
    let b = page_at c.args.table.now c.args.i in
    rw (c.half_of-half.ensures, c.get16.ensures, c.of.ensures, count-entries_of, c.page_at-page.ensures.bytes) (half_below b c.requires.divides)

pub returns : goal.returns
unfolding read page_in
returns c =
    let b = page_at c.args.table.now c.args.i in
    rw (c.key.ensures, c.half_of-half.ensures, c.get16.ensures, c.of.ensures, keys-entries_of, c.page_at-page.ensures.bytes) (sym (divide-key b (half_below b c.requires.divides)))
