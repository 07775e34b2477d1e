-- The bytes that each change in place leaves: what the code writes, against the page that the rules ask for.
-- Assumes nothing.
use mathlib.Core.Path.{◌≡◌, sym, ◌∙◌}
use mathlib.Core.Bool.{true, false}
use mathlib.Core.List.{List, [], ◌∷◌, ◌++◌, append-nil}
use Prim.Native.Nat.{ℕ, ◌+◌, ◌-◌, ◌*◌, ◌≤◌, ◌<◌}
use native.Mathlib.Omega.{arith}
use lib.ListN.{length, take, drop, length-append, length-take, length-drop}
use lib.Seq.{sets}
use Rattle.fields.specs.Field.{Bytes, le_at, put_at}
use Rattle.rules.specs.Layout.{page_size, leaf_header, inner_header, leaf_room, inner_room, cert_size, child_size}
use Rattle.rules.specs.Test.{mem}
use Rattle.rules.specs.Entry.{Entry, Cert, Child, keys, put, rising}
use Rattle.rules.specs.Page.{View, is_leaf, view_in, page_in, count, touch, header_bytes, change_bytes, read_each, write_each, cert_in, cert_bytes, child_in, child_bytes}
use Rattle.rules.specs.Insert.{put_cert, put_child}
use Rattle.rules.proofs.Bytes.Each.{length-read_each}
use Rattle.rules.proofs.Bytes.EntryBytes.{cert_bytes-cert_in, child_bytes-child_in, length-cert_bytes, length-child_bytes, length_write_certs, length_write_children, bytes_write_certs, bytes_write_children}
use Rattle.rules.proofs.Bytes.Pages.{view_in-leaf, view_in-inner, is_leaf-view_in, length-leaf_header, length-inner_header}
use Rattle.entries.specs.Spot.{keys_in, spot_of}
use Rattle.entries.proofs.KeysIn.{keys-certs, keys-children, length-keys_in, spot-bound}
use Rattle.edit.proofs.Put.{put-absent, put-present, spot-present}
use Rattle.edit.proofs.Changed.{change_bytes_lem, write_more, write_other}
use Rattle.edit.specs.Takes.{TakesCert, TakesChild, HasChild}

-- a spot among a page's keys is not past them
pub spot-below : (header size k key j : ℕ) (b : List ℕ) → j ≡ spot_of key (keys_in header size k b) → j ≤ k
spot-below header size k key j b e = omega (arith, spot-bound key (keys_in header size k b), length-keys_in header size k b)

-- ── Entries of either size ──────────────────────────────────────────────────────────────────────────────────────

module _ {B : Type 0} (read : List ℕ → Entry B) (write : Entry B → List ℕ) (header size : ℕ) (sized : (x : Entry B) → length (write x) ≡ size) (forth : (b : List ℕ) → Bytes b → size ≤ length b → write (read b) ≡ take size b) (keyed : (k : ℕ) (b : List ℕ) → keys (read_each read size k (drop header b)) ≡ keys_in header size k b) (b : List ℕ) (k : ℕ) (h : Bytes b) (x : Entry B) (j : ℕ) (e : j ≡ spot_of x.key (keys_in header size k b)) where
  abbrev old : List (Entry B)
  old = read_each read size k (drop header b)

  long : length old ≡ k
  long = length-read_each read size k (drop header b)

  module _ (absent : mem x.key (keys old) ≡ false) where
    more-at : put x old ≡ take j old ++ (x ∷ drop j old)
    more-at = rw (keyed k b, ← e) at (put-absent x old absent)

    length_more : length (put x old) ≡ k + 1
    length_more = rw more-at (simp (length-append, length-take, length-drop, long) (omega (arith, spot-below header size k x.key j b e)))

    bytes-more : header + size * k + size ≤ length b
        → sets b header (write_each write (put x old))
        ≡ sets (sets b (header + size * j + size) (take (size * (k - j)) (drop (header + size * j) b))) (header + size * j) (write x)
    bytes-more l = rw more-at (write_more read write size sized forth b header k j x h l (spot-below header size k x.key j b e))

  module _ (present : mem x.key (keys old) ≡ true) (rises : rising (keys old) ≡ true) where
    spot-other : 0 < j
    spot-other = rw (keyed k b, ← e) at (spot-present x.key (keys old) present rises)

    other_at : put x old ≡ take (j - 1) old ++ (x ∷ drop (j - 1 + 1) old)
    other_at =
        let up : j - 1 + 1 ≡ j = omega (arith, spot-other) in
        rw up (rw (keyed k b, ← e) at (put-present x old present rises))

    length-other : length (put x old) ≡ k
    length-other =
        rw other_at (simp (length-append, length-take, length-drop, long) (omega (arith, spot-other, spot-below header size k x.key j b e)))

    bytes-other : header + size * k ≤ length b
        → sets b header (write_each write (put x old)) ≡ sets b (header + size * (j - 1)) (write x)
    bytes-other l =
        rw other_at (write_other read write size sized forth b header k (j - 1) x h l (omega (arith, spot-other, spot-below header size k x.key j b e)))

-- ── A leaf ──────────────────────────────────────────────────────────────────────────────────────────────────────

pub leaf_room_lem : (b : List ℕ) (key : ℕ) → TakesCert key (view_in b) → le_at b 2 2 < leaf_room
leaf_room_lem b key t = rw (view_in-leaf b (sym (is_leaf-view_in b) ∙ t.leaf), length-read_each) at t.room

leaf_header_lem : (b : List ℕ) (x : Cert) (c : ℕ) → is_leaf (view_in b) ≡ true → length (header_bytes (touch c (put_cert x (view_in b)) (page_in b))) ≡ leaf_header
unfolding touch put_cert is_leaf
leaf_header_lem b x c e = length-leaf_header (touch c (put_cert x (view_in b)) (page_in b)) e

pub cert_bytes_lem : (b : List ℕ) (x : Cert) (c j : ℕ) → Bytes b → length b ≡ page_size → TakesCert x.key (view_in b)
    → j ≡ spot_of x.key (keys_in leaf_header cert_size (le_at b 2 2) b)
    → change_bytes (touch c (put_cert x (view_in b)) (page_in b)) b
    ≡ put_at (put_at (sets (sets b (leaf_header + cert_size * j + cert_size) (take (leaf_header + cert_size * le_at b 2 2 - (leaf_header + cert_size * j)) (drop (leaf_header + cert_size * j) b))) (leaf_header + cert_size * j) (cert_bytes x)) 2 2 (le_at b 2 2 + 1)) 12 4 c
unfolding put_cert count write_each
cert_bytes_lem b x c j h l t e =
    let k = le_at b 2 2 in
    let leaf = view_in-leaf b (sym (is_leaf-view_in b) ∙ t.leaf) in
    let xs = put x (read_each cert_in cert_size k (drop leaf_header b)) in
    let v : View = put_cert x (view_in b) in
    let room = leaf_room_lem b x.key t in
    let absent = rw leaf at t.absent in
    let n = length_more cert_in cert_bytes leaf_header cert_size length-cert_bytes cert_bytes-cert_in keys-certs b k h x j e absent in
    let w : write_each cert_bytes v.certs ++ write_each child_bytes v.children ≡ write_each cert_bytes xs = rw (leaf, append-nil) in
    let counted : count v ≡ k + 1 = rw (leaf, n) (omega arith) in
    let d : cert_size * (k - j) ≡ leaf_header + cert_size * k - (leaf_header + cert_size * j) = omega (arith, spot-below leaf_header cert_size k x.key j b e) in
    change_bytes_lem leaf_header b (write_each cert_bytes xs) v c (omega arith) (leaf_header_lem b x c t.leaf) h (rw leaf) (bytes_write_certs xs) w (rw (length_write_certs xs, n) (omega arith))
    ∙ rw (counted, bytes-more cert_in cert_bytes leaf_header cert_size length-cert_bytes cert_bytes-cert_in keys-certs b k h x j e absent (omega arith), d)

-- ── An inner page ───────────────────────────────────────────────────────────────────────────────────────────────

pub inner_room_lem : (b : List ℕ) → is_leaf (view_in b) ≡ false → length (view_in b).children < inner_room → le_at b 2 2 < inner_room
inner_room_lem b e h = rw (view_in-inner b (sym (is_leaf-view_in b) ∙ e), length-read_each) at h

inner_header_lem : (b : List ℕ) (x : Child) (c : ℕ) → is_leaf (view_in b) ≡ false → length (header_bytes (touch c (put_child x (view_in b)) (page_in b))) ≡ inner_header
unfolding touch put_child is_leaf
inner_header_lem b x c e = length-inner_header (touch c (put_child x (view_in b)) (page_in b)) e

module _ (b : List ℕ) (x : Child) (c j : ℕ) (h : Bytes b) (l : length b ≡ page_size) (e : j ≡ spot_of x.key (keys_in inner_header child_size (le_at b 2 2) b)) where
  pub child_bytes_lem : TakesChild x.key (view_in b)
      → change_bytes (touch c (put_child x (view_in b)) (page_in b)) b
      ≡ put_at (put_at (sets (sets b (inner_header + child_size * j + child_size) (take (inner_header + child_size * le_at b 2 2 - (inner_header + child_size * j)) (drop (inner_header + child_size * j) b))) (inner_header + child_size * j) (child_bytes x)) 2 2 (le_at b 2 2 + 1)) 12 4 c
  unfolding put_child count write_each
  child_bytes_lem t =
      let k = le_at b 2 2 in
      let inner = view_in-inner b (sym (is_leaf-view_in b) ∙ t.inner) in
      let xs = put x (read_each child_in child_size k (drop inner_header b)) in
      let v : View = put_child x (view_in b) in
      let room = inner_room_lem b t.inner t.room in
      let absent = rw inner at t.absent in
      let n = length_more child_in child_bytes inner_header child_size length-child_bytes child_bytes-child_in keys-children b k h x j e absent in
      let w : write_each cert_bytes v.certs ++ write_each child_bytes v.children ≡ write_each child_bytes xs = rw inner in
      let counted : count v ≡ k + 1 = rw (inner, n) (omega arith) in
      let d : child_size * (k - j) ≡ inner_header + child_size * k - (inner_header + child_size * j) = omega (arith, spot-below inner_header child_size k x.key j b e) in
      change_bytes_lem inner_header b (write_each child_bytes xs) v c (omega arith) (inner_header_lem b x c t.inner) h (rw inner) (bytes_write_children xs) w (rw (length_write_children xs, n) (omega arith))
      ∙ rw (counted, bytes-more child_in child_bytes inner_header child_size length-child_bytes child_bytes-child_in keys-children b k h x j e absent (omega arith), d)

  module _ (t : HasChild x.key (view_in b)) where
    inner-has : view_in b ≡ record { kind = le_at b 0 2; certs = []; children = read_each child_in child_size (le_at b 2 2) (drop inner_header b) }
    inner-has = view_in-inner b (sym (is_leaf-view_in b) ∙ t.inner)

    pub other-spot : 0 < j
    other-spot =
        spot-other child_in child_bytes inner_header child_size length-child_bytes child_bytes-child_in keys-children b (le_at b 2 2) h x j e (rw inner-has at t.present) (rw inner-has at t.rises)

    pub other-bytes : change_bytes (touch c (put_child x (view_in b)) (page_in b)) b
        ≡ put_at (put_at (sets b (inner_header + child_size * (j - 1)) (child_bytes x)) 2 2 (le_at b 2 2)) 12 4 c
    unfolding put_child count write_each
    other-bytes =
        let k = le_at b 2 2 in
        let xs = put x (read_each child_in child_size k (drop inner_header b)) in
        let v : View = put_child x (view_in b) in
        let room = inner_room_lem b t.inner t.room in
        let present = rw inner-has at t.present in
        let rises = rw inner-has at t.rises in
        let n = length-other child_in child_bytes inner_header child_size length-child_bytes child_bytes-child_in keys-children b k h x j e present rises in
        let w : write_each cert_bytes v.certs ++ write_each child_bytes v.children ≡ write_each child_bytes xs = rw inner-has in
        let counted : count v ≡ k = rw (inner-has, n) (omega arith) in
        change_bytes_lem inner_header b (write_each child_bytes xs) v c (omega arith) (inner_header_lem b x c t.inner) h (rw inner-has) (bytes_write_children xs) w (rw (length_write_children xs, n) (omega arith))
        ∙ rw (counted, bytes-other child_in child_bytes inner_header child_size length-child_bytes child_bytes-child_in keys-children b k h x j e present rises (omega arith))
