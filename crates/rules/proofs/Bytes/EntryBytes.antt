-- A certificate's twelve bytes and a child's sixteen: what is written is read back if every number fits its field, and
-- what is read of bytes is written as they stood. So many, one after the other, are read back too. Assumes nothing.
use Rattle.std.proofs.Common.{◌≡◌, ℕ, ◌*◌, ◌^◌, ◌<◌, ◌≤◌, List, ◌++◌, length, take, drop, sym, ap, ◌∙◌, append_assoc, arith, length-append, drop-drop, take-add}
use Rattle.fields.specs.Field.{le, Bytes}
use Rattle.fields.proofs.Bytes.{bytes_le, bytes-append}
use Rattle.fields.proofs.Number.{length-le}
use Rattle.fields.proofs.Field.{le_at-bound, le-le_at, in_pieces}
use Rattle.rules.specs.Layout.{cert_size, child_size}
use Rattle.rules.specs.Entry.{Cert, Child}
use Rattle.rules.specs.Page.{read_each, write_each, cert_in, cert_bytes, child_in, child_bytes}
use Rattle.rules.proofs.Bytes.All.{All}
use Rattle.rules.proofs.Bytes.Each.{length-write_each, bytes-write_each, read_each-write_each, all-read_each}

-- ── A certificate ───────────────────────────────────────────────────────────────────────────────────────────────

-- every number of a certificate fits its field
pub record WideCert (x : Cert) : Type 0 where
  pub key : x.key < 256 ^ 8
  pub value : x.value < 256 ^ 4

pub length-cert_bytes : (x : Cert) → length (cert_bytes x) ≡ cert_size
unfolding cert_bytes
length-cert_bytes x = simp (length-append, length-le)

pub bytes-cert_bytes : (x : Cert) → Bytes (cert_bytes x)
unfolding cert_bytes
bytes-cert_bytes x = bytes-append (le 8 x.key) (le 4 x.value) (bytes_le 8 x.key) (bytes_le 4 x.value)

pub cert_in-cert_bytes : (x : Cert) → WideCert x → (rest : List ℕ) → cert_in (cert_bytes x ++ rest) ≡ x
unfolding cert_in cert_bytes
cert_in-cert_bytes x h rest =
    let hk = h.key in
    let hv = h.value in
    simp (append_assoc, in_pieces)

pub cert_bytes-cert_in : (b : List ℕ) → Bytes b → cert_size ≤ length b → cert_bytes (cert_in b) ≡ take cert_size b
unfolding cert_in cert_bytes
cert_bytes-cert_in b h l = rw (le-le_at b 0 8 h (omega arith), le-le_at b 8 4 h (omega arith)) (sym (take-add 8 4 b))

pub wide-cert_in : (b : List ℕ) → Bytes b → WideCert (cert_in b)
unfolding cert_in
wide-cert_in b h = record { key = le_at-bound b 0 8 h; value = le_at-bound b 8 4 h }

-- ── A child ─────────────────────────────────────────────────────────────────────────────────────────────────────

pub record WideChild (x : Child) : Type 0 where
  pub key : x.key < 256 ^ 8
  pub child : x.value.child < 256 ^ 2
  pub previous : x.value.previous < 256 ^ 2
  pub birth : x.value.birth < 256 ^ 4

pub length-child_bytes : (x : Child) → length (child_bytes x) ≡ child_size
unfolding child_bytes
length-child_bytes x = simp (length-append, length-le)

pub bytes-child_bytes : (x : Child) → Bytes (child_bytes x)
unfolding child_bytes
bytes-child_bytes x =
    bytes-append (le 8 x.key) (le 2 x.value.child ++ (le 2 x.value.previous ++ le 4 x.value.birth))
    (bytes_le 8 x.key)
    (bytes-append (le 2 x.value.child) (le 2 x.value.previous ++ le 4 x.value.birth)
    (bytes_le 2 x.value.child)
    (bytes-append (le 2 x.value.previous) (le 4 x.value.birth) (bytes_le 2 x.value.previous) (bytes_le 4 x.value.birth)))

pub child_in-child_bytes : (x : Child) → WideChild x → (rest : List ℕ) → child_in (child_bytes x ++ rest) ≡ x
unfolding child_in child_bytes
child_in-child_bytes x h rest =
    let hk = h.key in
    let hc = h.child in
    let hp = h.previous in
    let hb = h.birth in
    simp (append_assoc, in_pieces)

pub child_bytes-child_in : (b : List ℕ) → Bytes b → child_size ≤ length b → child_bytes (child_in b) ≡ take child_size b
unfolding child_in child_bytes
child_bytes-child_in b h l =
    rw (le-le_at b 0 8 h (omega arith), le-le_at b 8 2 h (omega arith), le-le_at b 10 2 h (omega arith), le-le_at b 12 4 h (omega arith))
    (sym (take-add 8 8 b ∙ ap (λ (r : List ℕ). take 8 b ++ r) (take-add 2 6 (drop 8 b) ∙ rw (take-add 2 4 (drop 2 (drop 8 b)), drop-drop 2 2 (drop 8 b), drop-drop 2 8 b, drop-drop 4 8 b))))

pub wide-child_in : (b : List ℕ) → Bytes b → WideChild (child_in b)
unfolding child_in
wide-child_in b h = record { key = le_at-bound b 0 8 h; child = le_at-bound b 8 2 h; previous = le_at-bound b 10 2 h; birth = le_at-bound b 12 4 h }

-- ── So many of them ─────────────────────────────────────────────────────────────────────────────────────────────

pub length_write_certs : (xs : List Cert) → length (write_each cert_bytes xs) ≡ cert_size * length xs
length_write_certs xs = length-write_each cert_bytes cert_size length-cert_bytes xs

pub length_write_children : (xs : List Child) → length (write_each child_bytes xs) ≡ child_size * length xs
length_write_children xs = length-write_each child_bytes child_size length-child_bytes xs

pub bytes_write_certs : (xs : List Cert) → Bytes (write_each cert_bytes xs)
bytes_write_certs xs = bytes-write_each cert_bytes bytes-cert_bytes xs

pub bytes_write_children : (xs : List Child) → Bytes (write_each child_bytes xs)
bytes_write_children xs = bytes-write_each child_bytes bytes-child_bytes xs

pub read_certs_write_certs : {xs : List Cert} → All WideCert xs → (rest : List ℕ) → read_each cert_in cert_size (length xs) (write_each cert_bytes xs ++ rest) ≡ xs
read_certs_write_certs h rest = read_each-write_each cert_in cert_bytes cert_size WideCert length-cert_bytes cert_in-cert_bytes h rest

pub read_children_write_children : {xs : List Child} → All WideChild xs → (rest : List ℕ) → read_each child_in child_size (length xs) (write_each child_bytes xs ++ rest) ≡ xs
read_children_write_children h rest = read_each-write_each child_in child_bytes child_size WideChild length-child_bytes child_in-child_bytes h rest

pub wide_read_certs : (k : ℕ) (b : List ℕ) → Bytes b → All WideCert (read_each cert_in cert_size k b)
wide_read_certs k b h = all-read_each WideCert cert_in cert_size wide-cert_in k b h

pub wide_read_children : (k : ℕ) (b : List ℕ) → Bytes b → All WideChild (read_each child_in child_size k b)
wide_read_children k b h = all-read_each WideChild child_in child_size wide-child_in k b h
