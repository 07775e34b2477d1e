-- `edit::remove_cert_in`: the entries behind the certificate moved down, zeros, count and touched are what the rules write (Removed).
-- Assumes nothing.
use mathlib.Core.Path.{sym}
use Rattle.rules.specs.Layout.{leaf_header}
use Rattle.edit.proofs.Edits.{spot-below}
use Rattle.edit.proofs.Removed.{has_room, has-spot, less_bytes}
use native.Mathlib.Omega.{arith}
use borrow.Author.Rules.{rules}
use Rattle.edit.proofs.remove_cert_in.Goals as goal

pub spot-spot-requires : goal.spot-spot-requires
spot-spot-requires c =
    let a = c.args in
    rw c.certs-certs.ensures (omega (arith, c.get16-count.ensures, c.requires.page_len, has_room a.page.now a.key c.requires.has_cert))

pub at-at-requires : goal.at-at-requires
at-at-requires c =
    let a = c.args in
    let spot = rw c.certs-certs.ensures at c.spot-spot.ensures in
    rw c.certs-certs.ensures (omega (arith, c.get16-count.ensures, spot-below leaf_header 12 c.get16-count.result a.key c.spot-spot.result a.page.now spot, has_room a.page.now a.key c.requires.has_cert))

pub at-end-requires : goal.at-end-requires
at-end-requires c =
    let a = c.args in
    rw c.certs-certs.ensures (omega (arith, c.get16-count.ensures, has_room a.page.now a.key c.requires.has_cert))

pub overflow_sub-at : goal.overflow_sub-at
overflow_sub-at c =
    let at = rw c.certs-certs.ensures at c.at-at.ensures in
    omega arith

pub overflow_sub-end : goal.overflow_sub-end
overflow_sub-end c =
    let a = c.args in
    let spot = rw c.certs-certs.ensures at c.spot-spot.ensures in
    let at = rw c.certs-certs.ensures at c.at-at.ensures in
    let end = rw c.certs-certs.ensures at c.at-end.ensures in
    omega (arith, spot-below leaf_header 12 c.get16-count.result a.key c.spot-spot.result a.page.now spot)

pub copy-requires : goal.copy-requires
copy-requires c =
    let a = c.args in
    let spot = rw c.certs-certs.ensures at c.spot-spot.ensures in
    let at = rw c.certs-certs.ensures at c.at-at.ensures in
    let end = rw c.certs-certs.ensures at c.at-end.ensures in
    let count = c.get16-count.ensures in
    let long = c.requires.page_len in
    let below = spot-below leaf_header 12 c.get16-count.result a.key c.spot-spot.result a.page.now spot in
    let room = has_room a.page.now a.key c.requires.has_cert in
    record { to_in_bounds = omega arith; from_in_bounds = omega arith }

pub overflow_sub-end-2 : goal.overflow_sub-end-2
overflow_sub-end-2 c =
    let end = rw c.certs-certs.ensures at c.at-end.ensures in
    omega arith

pub clear-requires : goal.clear-requires
clear-requires c =
    let a = c.args in
    let end = rw c.certs-certs.ensures at c.at-end.ensures in
    let room = has_room a.page.now a.key c.requires.has_cert in
    record { at_le_end = omega arith; end_in_bounds = omega (arith, c.get16-count.ensures, c.requires.page_len, c.copy.auto.bytes) }

pub overflow_sub-count : goal.overflow_sub-count
overflow_sub-count c =
    let a = c.args in
    let spot = rw (c.certs-certs.ensures, c.get16-count.ensures) at c.spot-spot.ensures in
    let read = rw c.certs-certs.ensures at c.spot-spot.ensures in
    omega (arith, c.get16-count.ensures, has-spot a.page.now a.key a.c c.spot-spot.result (search rules) c.requires.page_len c.requires.has_cert spot, spot-below leaf_header 12 c.get16-count.result a.key c.spot-spot.result a.page.now read)

pub returns : goal.returns
returns c =
    let a = c.args in
    let spot = rw (c.certs-certs.ensures, c.get16-count.ensures) at c.spot-spot.ensures in
    rw (c.stamp.ensures, c.clear.ensures, c.copy.ensures, c.at-at.ensures, c.at-end.ensures, c.certs-certs.ensures, c.get16-count.ensures)
    (sym (less_bytes a.page.now a.key a.c c.spot-spot.result (search rules) c.requires.page_len c.requires.has_cert spot))
