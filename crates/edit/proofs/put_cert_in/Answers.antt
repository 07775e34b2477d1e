-- `edit::put_cert_in`: the entries behind the spot moved up, the entry, count and touched are what the rules write (Edits).
-- Assumes nothing.
use mathlib.Core.Path.{sym}
use Rattle.rules.specs.Layout.{leaf_header}
use Rattle.entries.specs.Spot.{new_cert}
use Rattle.edit.proofs.Edits.{spot-below, leaf_room_lem, cert_bytes_lem}
use native.Mathlib.Omega.{arith}
use borrow.Author.Rules.{rules}
use Rattle.edit.proofs.put_cert_in.Goals as goal

pub spot-spot-requires : goal.spot-spot-requires
spot-spot-requires c =
    let a = c.args in
    rw c.certs-certs.ensures (omega (arith, c.get16-count.ensures, c.requires.page_len, leaf_room_lem a.page.now a.key c.requires.takes_cert))

pub make_room-at-requires : goal.make_room-at-requires
make_room-at-requires c =
    let a = c.args in
    let count = c.get16-count in
    let spot = rw c.certs-certs.ensures at c.spot-spot.ensures in
    rw c.certs-certs.ensures record {
      spot_in_bounds = spot-below leaf_header 12 count.result a.key c.spot-spot.result a.page.now spot;
      room = omega (arith, count.ensures, c.requires.page_len, leaf_room_lem a.page.now a.key c.requires.takes_cert);
    }

pub write_cert-requires : goal.write_cert-requires
write_cert-requires c =
    let a = c.args in
    let count = c.get16-count in
    let spot = rw c.certs-certs.ensures at c.spot-spot.ensures in
    let at = rw c.certs-certs.ensures at c.make_room-at.ensures.place in
    omega
    (arith, at, count.ensures, c.requires.page_len, c.make_room-at.auto.page, spot-below leaf_header 12 count.result a.key c.spot-spot.result a.page.now spot, leaf_room_lem a.page.now a.key c.requires.takes_cert)

pub overflow_add-count : goal.overflow_add-count
overflow_add-count c =
    let a = c.args in
    omega (arith, c.get16-count.ensures, leaf_room_lem a.page.now a.key c.requires.takes_cert)

pub returns : goal.returns
unfolding new_cert
returns c =
    let a = c.args in
    let room = c.make_room-at in
    let spot = rw (c.certs-certs.ensures, c.get16-count.ensures) at c.spot-spot.ensures in
    rw (c.stamp.ensures, c.write_cert.ensures, room.ensures.moved, room.ensures.place, c.certs-certs.ensures, c.get16-count.ensures)
    (sym (cert_bytes_lem a.page.now (new_cert a.key a.value) a.c c.spot-spot.result (search rules) c.requires.page_len c.requires.takes_cert spot))
