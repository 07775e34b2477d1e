-- The bytes that a leaf keeps when a certificate is taken out: what the code writes, against the page that the rules ask for.
-- Assumes nothing.
use mathlib.Core.Path.{◌≡◌, sym, ◌∙◌}
use mathlib.Core.List.{List, [], ◌++◌, append-nil}
use Prim.Native.Nat.{ℕ, ◌+◌, ◌-◌, ◌*◌, ◌≤◌, ◌<◌}
use native.Mathlib.Omega.{arith}
use lib.ListN.{length, take, drop, replicate, length-append, length-take, length-drop, length-replicate}
use lib.Seq.{sets}
use Rattle.fields.specs.Field.{Bytes, le_at, put_at}
use Rattle.rules.specs.Layout.{page_size, leaf_header, leaf_room, cert_size}
use Rattle.rules.specs.Entry.{Cert, keys, without}
use Rattle.rules.specs.Page.{View, is_leaf, view_in, page_in, count, touch, header_bytes, shrink_bytes, read_each, write_each, cert_in, cert_bytes, child_bytes}
use Rattle.rules.specs.Withdraw.{without_cert}
use Rattle.rules.proofs.Bytes.Each.{length-read_each}
use Rattle.rules.proofs.Bytes.EntryBytes.{cert_bytes-cert_in, length-cert_bytes, length_write_certs, bytes_write_certs}
use Rattle.rules.proofs.Bytes.Pages.{view_in-leaf, is_leaf-view_in, length-leaf_header}
use Rattle.entries.specs.Spot.{keys_in, spot_of}
use Rattle.entries.proofs.KeysIn.{keys-certs}
use Rattle.edit.proofs.Put.{spot-present, without-present}
use Rattle.edit.proofs.Changed.{shrink_bytes_lem, write_less}
use Rattle.edit.proofs.Edits.{spot-below}
use Rattle.edit.specs.Takes.{HasCert}

pub has_room : (b : List ℕ) (key : ℕ) → HasCert key (view_in b) → le_at b 2 2 ≤ leaf_room
has_room b key t = rw (view_in-leaf b (sym (is_leaf-view_in b) ∙ t.leaf), length-read_each) at t.room

module _ (b : List ℕ) (key c j : ℕ) (h : Bytes b) (l : length b ≡ page_size) (t : HasCert key (view_in b)) (e : j ≡ spot_of key (keys_in leaf_header cert_size (le_at b 2 2) b)) where
  abbrev old : List Cert
  old = read_each cert_in cert_size (le_at b 2 2) (drop leaf_header b)

  leaf-has : view_in b ≡ record { kind = le_at b 0 2; certs = old; children = [] }
  leaf-has = view_in-leaf b (sym (is_leaf-view_in b) ∙ t.leaf)

  long : length old ≡ le_at b 2 2
  long = length-read_each cert_in cert_size (le_at b 2 2) (drop leaf_header b)

  -- ── Where it stands ───────────────────────────────────────────────────────────────────────────────────────────

  pub has-spot : 0 < j
  has-spot = rw (keys-certs (le_at b 2 2) b, ← e) at (spot-present key (keys old) (rw leaf-has at t.present) (rw leaf-has at t.rises))

  pub has-below : j ≤ le_at b 2 2
  has-below = spot-below leaf_header cert_size (le_at b 2 2) key j b e

  less_at : without key old ≡ take (j - 1) old ++ drop (j - 1 + 1) old
  less_at =
      let up : j - 1 + 1 ≡ j = omega (arith, has-spot) in
      rw up (rw (keys-certs (le_at b 2 2) b, ← e) at (without-present key old (rw leaf-has at t.present) (rw leaf-has at t.rises)))

  length_less : length (without key old) ≡ le_at b 2 2 - 1
  length_less = rw less_at (simp (length-append, length-take, length-drop, long) (omega (arith, has-spot, has-below)))

  -- ── The bytes ─────────────────────────────────────────────────────────────────────────────────────────────────

  less_header : length (header_bytes (touch c (without_cert key (view_in b)) (page_in b))) ≡ leaf_header
  unfolding touch without_cert is_leaf
  less_header = length-leaf_header (touch c (without_cert key (view_in b)) (page_in b)) t.leaf

  less_run : (z : List ℕ) → sets b leaf_header (write_each cert_bytes (without key old) ++ z)
      ≡ sets (sets b (leaf_header + cert_size * j - cert_size) (take (leaf_header + cert_size * le_at b 2 2 - (leaf_header + cert_size * j)) (drop (leaf_header + cert_size * j) b))) (leaf_header + cert_size * le_at b 2 2 - cert_size) z
  less_run z =
      let k = le_at b 2 2 in
      let spot = has-spot in
      let below = has-below in
      let room = has_room b key t in
      let to : leaf_header + cert_size * (j - 1) ≡ leaf_header + cert_size * j - cert_size = omega arith in
      let at : leaf_header + cert_size * (j - 1 + 1) ≡ leaf_header + cert_size * j = omega arith in
      let many : cert_size * (k - (j - 1 + 1)) ≡ leaf_header + cert_size * k - (leaf_header + cert_size * j) = omega arith in
      let last : leaf_header + cert_size * j - cert_size + (leaf_header + cert_size * k - (leaf_header + cert_size * j)) ≡ leaf_header + cert_size * k - cert_size = omega arith in
      rw (less_at, write_less cert_in cert_bytes cert_size length-cert_bytes cert_bytes-cert_in b leaf_header k (j - 1) z h (omega arith) (omega arith), to, at, many, last)

  pub less_bytes : shrink_bytes (touch c (without_cert key (view_in b)) (page_in b)) b
      ≡ put_at (put_at (sets (sets b (leaf_header + cert_size * j - cert_size) (take (leaf_header + cert_size * le_at b 2 2 - (leaf_header + cert_size * j)) (drop (leaf_header + cert_size * j) b))) (leaf_header + cert_size * le_at b 2 2 - cert_size) (replicate (leaf_header + cert_size * le_at b 2 2 - (leaf_header + cert_size * le_at b 2 2 - cert_size)) 0)) 2 2 (le_at b 2 2 - 1)) 12 4 c
  unfolding without_cert count write_each
  less_bytes =
      let k = le_at b 2 2 in
      let xs = without key old in
      let zeros : List ℕ = replicate cert_size 0 in
      let v : View = without_cert key (view_in b) in
      let spot = has-spot in
      let below = has-below in
      let room = has_room b key t in
      let w : write_each cert_bytes v.certs ++ write_each child_bytes v.children ≡ write_each cert_bytes xs = rw (leaf-has, append-nil) in
      let counted : count v ≡ k - 1 = rw (leaf-has, length_less) (omega arith) in
      let place : leaf_header + cert_size * k - (leaf_header + cert_size * k - cert_size) ≡ cert_size = omega arith in
      let within : leaf_header + length (write_each cert_bytes xs ++ zeros) ≤ length b =
      rw (length-append (write_each cert_bytes xs) zeros, length_write_certs xs, length_less, length-replicate {A = ℕ} cert_size 0) (omega arith) in
      shrink_bytes_lem leaf_header b (write_each cert_bytes xs) v c (omega arith) less_header h (rw leaf-has) (bytes_write_certs xs) w within
      ∙ rw (counted, less_run zeros, place)
