-- A page in its bytes: what is written is read back if every number fits its field, and a header that was read is written
-- as it stood. So a page that was built or changed shows itself. Assumes nothing.
use Rattle.std.proofs.Common.{◌≡◌, ℕ, zero, suc, ◌+◌, ◌*◌, ◌^◌, ◌<◌, ◌≤◌, Bool, true, false, eqb, List, [], ◌++◌, length, take, drop, replicate, sym, refl, ap, ◌∙◌, append_assoc, add-zero, zero-add, arith, length-append, drop-drop, take-add, drop_at, Fits-lit}
use lib.ListN.{length-replicate}
use Rattle.fields.specs.Field.{le, le_at, Bytes}
use Rattle.fields.proofs.Bytes.{bytes-nil, bytes-cons, bytes_le, bytes-append, bytes_drop}
use Rattle.fields.proofs.Number.{length-le}
use Rattle.fields.proofs.Field.{le_at-bound, le-le_at, in_pieces}
use Rattle.rules.specs.Layout.{page_size, common_header, leaf_header, inner_header, cert_size, child_size, leaf_room, inner_room, leaf_kind}
use Rattle.rules.specs.Entry.{Cert, Child}
use Rattle.rules.specs.Page.{View, Page, is_leaf, count, read_each, write_each, cert_in, cert_bytes, child_in, child_bytes, view_in, page_in, header_bytes, page_bytes, over, blank, build_bytes, change_bytes, shrink_bytes, fresh, touch}
pub use Rattle.rules.proofs.Entries.Views.{Shaped, shaped-view_in}
use Rattle.rules.proofs.Bytes.All.{All, nil}
use Rattle.rules.proofs.Bytes.Over.{length_over, bytes-over}
use Rattle.rules.proofs.Bytes.Each.{length-read_each}
use Rattle.rules.proofs.Bytes.EntryBytes.{WideCert, WideChild, length_write_certs, length_write_children, bytes_write_certs, bytes_write_children, read_certs_write_certs, read_children_write_children, wide_read_certs, wide_read_children}

-- ── What a page must be to be read as it was written ────────────────────────────────────────────────────────────

-- every number of what a page shows fits its field
pub record WideView (v : View) : Type 0 where
  pub shaped : Shaped v
  pub kind : v.kind < 256 ^ 2
  pub count : count v < 256 ^ 2
  pub certs : All WideCert v.certs
  pub children : All WideChild v.children

-- every number of a page fits its field
pub record Wide (p : Page) : Type 0 where
  pub view : WideView p.view
  pub birth : p.birth < 256 ^ 4
  pub built : p.built < 256 ^ 4
  pub touched : p.touched < 256 ^ 4
  pub low : p.low < 256 ^ 8
  pub high : p.high < 256 ^ 8

-- ── What is read: a leaf or an inner page ───────────────────────────────────────────────────────────────────────

pub view_in-leaf : (b : List ℕ) → eqb (le_at b 0 2) leaf_kind ≡ true → view_in b ≡ record { kind = le_at b 0 2; certs = read_each cert_in cert_size (le_at b 2 2) (drop leaf_header b); children = [] }
unfolding view_in
view_in-leaf b e = rw (e, view_in)

pub view_in-inner : (b : List ℕ) → eqb (le_at b 0 2) leaf_kind ≡ false → view_in b ≡ record { kind = le_at b 0 2; certs = []; children = read_each child_in child_size (le_at b 2 2) (drop inner_header b) }
unfolding view_in
view_in-inner b e = rw (e, view_in)

pub kind-view_in : (b : List ℕ) → (view_in b).kind ≡ le_at b 0 2
kind-view_in b = go (eqb (le_at b 0 2) leaf_kind) refl
  where
    go : (t : Bool) → eqb (le_at b 0 2) leaf_kind ≡ t → (view_in b).kind ≡ le_at b 0 2
    go true e = rw (view_in-leaf b e)
    go false e = rw (view_in-inner b e)

pub is_leaf-view_in : (b : List ℕ) → is_leaf (view_in b) ≡ eqb (le_at b 0 2) leaf_kind
unfolding is_leaf
is_leaf-view_in b = rw (kind-view_in b)

pub count-view_in : (b : List ℕ) → count (view_in b) ≡ le_at b 2 2
unfolding count
count-view_in b = go (eqb (le_at b 0 2) leaf_kind) refl
  where
    go : (t : Bool) → eqb (le_at b 0 2) leaf_kind ≡ t → length (view_in b).certs + length (view_in b).children ≡ le_at b 2 2
    go true e = rw (view_in-leaf b e, length-read_each, add-zero)
    go false e = rw (view_in-inner b e, length-read_each, zero-add)

-- what is read of bytes fits
pub wide-view_in : (b : List ℕ) → Bytes b → WideView (view_in b)
wide-view_in b h = record {
  shaped = shaped-view_in b;
  kind = rw (kind-view_in b) (le_at-bound b 0 2 h);
  count = rw (count-view_in b) (le_at-bound b 2 2 h);
  certs = certs (eqb (le_at b 0 2) leaf_kind) refl;
  children = children (eqb (le_at b 0 2) leaf_kind) refl;
}
  where
    certs : (t : Bool) → eqb (le_at b 0 2) leaf_kind ≡ t → All WideCert (view_in b).certs
    certs true e = rw (view_in-leaf b e) (wide_read_certs (le_at b 2 2) (drop leaf_header b) (bytes_drop leaf_header b h))
    certs false e = rw (view_in-inner b e) nil

    children : (t : Bool) → eqb (le_at b 0 2) leaf_kind ≡ t → All WideChild (view_in b).children
    children true e = rw (view_in-leaf b e) nil
    children false e = rw (view_in-inner b e) (wide_read_children (le_at b 2 2) (drop inner_header b) (bytes_drop inner_header b h))

pub wide-page_in : (b : List ℕ) → Bytes b → Wide (page_in b)
unfolding page_in
wide-page_in b h = record {
  view = wide-view_in b h;
  birth = le_at-bound b 4 4 h;
  built = le_at-bound b 8 4 h;
  touched = le_at-bound b 12 4 h;
  low = le_at-bound b 16 8 h;
  high = le_at-bound b 24 8 h;
}

-- ── What is written: lengths and bytes ──────────────────────────────────────────────────────────────────────────

pub length-leaf_header : (p : Page) → is_leaf p.view ≡ true → length (header_bytes p) ≡ leaf_header
unfolding header_bytes
length-leaf_header p e = simp (length-append, length-le)

pub length-inner_header : (p : Page) → is_leaf p.view ≡ false → length (header_bytes p) ≡ inner_header
unfolding header_bytes
length-inner_header p e = simp (length-append, length-le)

pub length-page_bytes : (p : Page) → length (page_bytes p) ≡ length (header_bytes p) + (cert_size * length p.view.certs + child_size * length p.view.children)
unfolding page_bytes
length-page_bytes p =
    simp (length-append, length_write_certs p.view.certs, length_write_children p.view.children)

-- a page has room for as many entries as it may have
pub room-page_bytes : (p : Page) → Shaped p.view → length p.view.certs ≤ leaf_room → length p.view.children ≤ inner_room → length (page_bytes p) ≤ page_size
room-page_bytes p s h k = rw (length-page_bytes p) (go (is_leaf p.view) refl)
  where
    go : (t : Bool) → is_leaf p.view ≡ t → length (header_bytes p) + (cert_size * length p.view.certs + child_size * length p.view.children) ≤ page_size
    go true e = let z = ap length (s.leaf e) in omega (arith, length-leaf_header p e)
    go false e = let z = ap length (s.inner e) in omega (arith, length-inner_header p e)

pub bytes-header_bytes : (p : Page) → Bytes (header_bytes p)
unfolding header_bytes
bytes-header_bytes p =
    let from_low = le 8 p.low ++ le 8 p.high in
    let from-touched = le 4 p.touched ++ from_low in
    let from-built = le 4 p.built ++ from-touched in
    let from-birth = le 4 p.birth ++ from-built in
    let from-count = le 2 (count p.view) ++ from-birth in
    piece 2 p.view.kind from-count
    (piece 2 (count p.view) from-birth
    (piece 4 p.birth from-built
    (piece 4 p.built from-touched
    (piece 4 p.touched from_low (piece 8 p.low (le 8 p.high) (bytes_le 8 p.high))))))
  where
    piece : (w v : ℕ) (more : List ℕ) → Bytes more → Bytes (le w v ++ more)
    piece w v more h = bytes-append (le w v) more (bytes_le w v) h

pub bytes-page_bytes : (p : Page) → Bytes (page_bytes p)
unfolding page_bytes
bytes-page_bytes p =
    bytes-append (header_bytes p) (write_each cert_bytes p.view.certs ++ write_each child_bytes p.view.children)
    (bytes-header_bytes p)
    (bytes-append (write_each cert_bytes p.view.certs) (write_each child_bytes p.view.children) (bytes_write_certs p.view.certs) (bytes_write_children p.view.children))

pub length-blank : length blank ≡ page_size
unfolding blank
length-blank = length-replicate {A = ℕ} page_size 0

pub bytes-replicate : (n : ℕ) → Bytes (replicate n 0)
bytes-replicate zero = bytes-nil
bytes-replicate (suc n) = bytes-cons 0 (replicate n 0) (Fits-lit tt) (bytes-replicate n)

pub bytes-blank : Bytes blank
unfolding blank
bytes-blank = bytes-replicate page_size

pub length-change_bytes : (p : Page) (old : List ℕ) → length (page_bytes p) ≤ length old → length (change_bytes p old) ≡ length old
unfolding change_bytes
length-change_bytes p old h = length_over (page_bytes p) old h

pub length-build_bytes : (p : Page) → length (page_bytes p) ≤ page_size → length (build_bytes p) ≡ page_size
unfolding build_bytes
length-build_bytes p h = length_over (page_bytes p) blank (rw length-blank h) ∙ length-blank

pub bytes-change_bytes : (p : Page) (old : List ℕ) → Bytes old → Bytes (change_bytes p old)
unfolding change_bytes
bytes-change_bytes p old h = bytes-over (page_bytes p) old (bytes-page_bytes p) h

pub length-shrink_bytes : (p : Page) (old : List ℕ) → length (page_bytes p) + cert_size ≤ length old → length (shrink_bytes p old) ≡ length old
unfolding shrink_bytes
length-shrink_bytes p old h =
    length_over (page_bytes p ++ replicate cert_size 0) old (rw length-append h)

pub bytes-shrink_bytes : (p : Page) (old : List ℕ) → Bytes old → Bytes (shrink_bytes p old)
unfolding shrink_bytes
bytes-shrink_bytes p old h =
    bytes-over (page_bytes p ++ replicate cert_size 0) old
    (bytes-append (page_bytes p) (replicate cert_size 0) (bytes-page_bytes p) (bytes-replicate cert_size)) h

pub bytes-build_bytes : (p : Page) → Bytes (build_bytes p)
unfolding build_bytes
bytes-build_bytes p = bytes-over (page_bytes p) blank (bytes-page_bytes p) bytes-blank

-- ── What was written is read ────────────────────────────────────────────────────────────────────────────────────

-- what a leaf and an inner page are read as, given their kind and their entries
leaf-back : (kind : ℕ) (certs : List Cert) (children : List Child) (b : List ℕ) → le_at b 0 2 ≡ kind → le_at b 2 2 ≡ length certs → read_each cert_in cert_size (length certs) (drop leaf_header b) ≡ certs → eqb kind leaf_kind ≡ true → children ≡ [] → view_in b ≡ record { kind = kind; certs = certs; children = children }
leaf-back kind certs children b k n r e z = view_in-leaf b (rw k e) ∙ rw (n, r, k, z)

inner_back : (kind : ℕ) (certs : List Cert) (children : List Child) (b : List ℕ) → le_at b 0 2 ≡ kind → le_at b 2 2 ≡ length children → read_each child_in child_size (length children) (drop inner_header b) ≡ children → eqb kind leaf_kind ≡ false → certs ≡ [] → view_in b ≡ record { kind = kind; certs = certs; children = children }
inner_back kind certs children b k n r e z = view_in-inner b (rw k e) ∙ rw (n, r, k, z)

drop-header : (header : ℕ) (p : Page) (rest : List ℕ) → length (header_bytes p) ≡ header → drop header (page_bytes p ++ rest) ≡ write_each cert_bytes p.view.certs ++ (write_each child_bytes p.view.children ++ rest)
unfolding page_bytes
drop-header header p rest l =
    rw (append_assoc, append_assoc) (drop_at (header_bytes p) (write_each cert_bytes p.view.certs ++ (write_each child_bytes p.view.children ++ rest)) header l)

module _ {p : Page} (w : Wide p) (rest : List ℕ) where
  pub kind-page_bytes : le_at (page_bytes p ++ rest) 0 2 ≡ p.view.kind
  unfolding page_bytes header_bytes
  kind-page_bytes = let h = w.view.kind in simp (append_assoc, in_pieces)

  pub count-page_bytes : le_at (page_bytes p ++ rest) 2 2 ≡ count p.view
  unfolding page_bytes header_bytes
  count-page_bytes = let h = w.view.count in simp (append_assoc, in_pieces)

  pub birth-page_bytes : le_at (page_bytes p ++ rest) 4 4 ≡ p.birth
  unfolding page_bytes header_bytes
  birth-page_bytes = let h = w.birth in simp (append_assoc, in_pieces)

  pub built-page_bytes : le_at (page_bytes p ++ rest) 8 4 ≡ p.built
  unfolding page_bytes header_bytes
  built-page_bytes = let h = w.built in simp (append_assoc, in_pieces)

  pub touched-page_bytes : le_at (page_bytes p ++ rest) 12 4 ≡ p.touched
  unfolding page_bytes header_bytes
  touched-page_bytes = let h = w.touched in simp (append_assoc, in_pieces)

  pub low-page_bytes : le_at (page_bytes p ++ rest) 16 8 ≡ p.low
  unfolding page_bytes header_bytes
  low-page_bytes = let h = w.low in simp (append_assoc, in_pieces)

  pub high-page_bytes : le_at (page_bytes p ++ rest) 24 8 ≡ p.high
  unfolding page_bytes header_bytes
  high-page_bytes = let h = w.high in simp (append_assoc, in_pieces)

  pub view_in-page_bytes : view_in (page_bytes p ++ rest) ≡ p.view
  unfolding is_leaf count write_each
  view_in-page_bytes = go (is_leaf p.view) refl
    where
      go : (t : Bool) → is_leaf p.view ≡ t → view_in (page_bytes p ++ rest) ≡ p.view
      go true e =
          let z = w.view.shaped.leaf e in
          leaf-back p.view.kind p.view.certs p.view.children (page_bytes p ++ rest) kind-page_bytes
          (count-page_bytes ∙ omega (arith, ap length z))
          (ap (read_each cert_in cert_size (length p.view.certs)) (drop-header leaf_header p rest (length-leaf_header p e)) ∙ read_certs_write_certs w.view.certs (write_each child_bytes p.view.children ++ rest))
          e
          z
      go false e =
          let z = w.view.shaped.inner e in
          inner_back p.view.kind p.view.certs p.view.children (page_bytes p ++ rest) kind-page_bytes
          (count-page_bytes ∙ omega (arith, ap length z))
          (ap (read_each child_in child_size (length p.view.children))
          (drop-header inner_header p rest (length-inner_header p e) ∙ ap (λ (xs : List Cert). write_each cert_bytes xs ++ (write_each child_bytes p.view.children ++ rest)) z)
          ∙ read_children_write_children w.view.children rest)
          e
          z

  pub page_in-page_bytes : page_in (page_bytes p ++ rest) ≡ p
  unfolding page_in
  page_in-page_bytes = rw (view_in-page_bytes, birth-page_bytes, built-page_bytes, touched-page_bytes, low-page_bytes, high-page_bytes)

-- a page put over bytes, built, or changed where it stands, is read as it was
pub page_in-over : {p : Page} → Wide p → (old : List ℕ) → page_in (over (page_bytes p) old) ≡ p
unfolding over
page_in-over {p} w old = page_in-page_bytes w (drop (length (page_bytes p)) old)

pub page_in-build_bytes : {p : Page} → Wide p → page_in (build_bytes p) ≡ p
unfolding build_bytes
page_in-build_bytes w = page_in-over w blank

pub page_in-change_bytes : {p : Page} → Wide p → (old : List ℕ) → page_in (change_bytes p old) ≡ p
unfolding change_bytes
page_in-change_bytes w old = page_in-over w old

pub page_in-shrink_bytes : {p : Page} → Wide p → (old : List ℕ) → page_in (shrink_bytes p old) ≡ p
unfolding shrink_bytes over
page_in-shrink_bytes {p} w old =
    let zeros : List ℕ = replicate cert_size 0 in
    let rest = drop (length (page_bytes p ++ zeros)) old in
    ap page_in (append_assoc (page_bytes p) zeros rest) ∙ page_in-page_bytes w (zeros ++ rest)

-- ── The header that was read is written ─────────────────────────────────────────────────────────────────────────

take-header : (b : List ℕ) → take common_header b ≡ take 2 b ++ (take 2 (drop 2 b) ++ (take 4 (drop 4 b) ++ (take 4 (drop 8 b) ++ (take 4 (drop 12 b) ++ (take 8 (drop 16 b) ++ take 8 (drop 24 b))))))
take-header b =
    rw (take-add 2 30 b, take-add 2 28 (drop 2 b), drop-drop, take-add 4 24 (drop 4 b), drop-drop, take-add 4 20 (drop 8 b), drop-drop, take-add 4 16 (drop 12 b), drop-drop, take-add 8 8 (drop 16 b), drop-drop)

-- the header as it stood
pub header_bytes-page_in : (b : List ℕ) → Bytes b → common_header ≤ length b → header_bytes (page_in b) ≡ take common_header b
unfolding header_bytes page_in
header_bytes-page_in b h l =
    let kind : le 2 (view_in b).kind ≡ take 2 b = ap (le 2) (kind-view_in b) ∙ le-le_at b 0 2 h (omega arith) in
    let count : le 2 (count (view_in b)) ≡ take 2 (drop 2 b) = ap (le 2) (count-view_in b) ∙ le-le_at b 2 2 h (omega arith) in
    rw (kind, count, le-le_at b 4 4 h (omega arith), le-le_at b 8 4 h (omega arith), le-le_at b 12 4 h (omega arith), le-le_at b 16 8 h (omega arith), le-le_at b 24 8 h (omega arith))
    (sym (take-header b))

-- ── Pages that a call makes fit ─────────────────────────────────────────────────────────────────────────────────

pub wide-fresh : {c birth low high : ℕ} {v : View} → WideView v → c < 256 ^ 4 → birth < 256 ^ 4 → low < 256 ^ 8 → high < 256 ^ 8 → Wide (fresh c birth low high v)
unfolding fresh
wide-fresh w hc hb hl hh = record { view = w; birth = hb; built = hc; touched = hc; low = hl; high = hh }

pub wide-touch : {c : ℕ} {v : View} {p : Page} → WideView v → c < 256 ^ 4 → Wide p → Wide (touch c v p)
unfolding touch
wide-touch w hc h = record {
  view = w;
  birth = h.birth;
  built = h.built;
  touched = hc;
  low = h.low;
  high = h.high;
}
