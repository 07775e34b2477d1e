-- The bytes of a range of a page's entries, by index.
-- Assumes nothing.
use mathlib.Core.Path.{◌≡◌}
use mathlib.Core.List.{List}
use Prim.Native.Nat.{ℕ, ◌+◌, ◌-◌, ◌*◌, ◌≤◌}
use native.Mathlib.Nat.{mul-add, mul-le-mul_left}
use native.Mathlib.Omega.{arith}
use lib.ListN.{length, take, drop, length-drop}
use lib.Seq.{drop-drop}
use Rattle.fields.specs.Field.{Bytes}
use Rattle.fields.proofs.Bytes.{bytes_drop}
use Rattle.rules.specs.Layout.{leaf_header, inner_header, cert_size, child_size}
use Rattle.rules.specs.Page.{read_each, write_each, cert_in, cert_bytes, child_in, child_bytes}
use Rattle.rules.proofs.Bytes.Each.{take-read_each, drop-read_each, write_each-read_each}
use Rattle.rules.proofs.Bytes.EntryBytes.{cert_bytes-cert_in, child_bytes-child_in}

-- a range of entries lies within as many bytes as all of them take
pub range-within : (size first many k : ℕ) → first + many ≤ k → size * first + size * many ≤ size * k
range-within size first many k h = rw (mul-add size first many) at (mul-le-mul_left size h)

module _ {A : Type 0} (read : List ℕ → A) (write : A → List ℕ) (size : ℕ) (forth : (b : List ℕ) → Bytes b → size ≤ length b → write (read b) ≡ take size b) where
  pub write_range : (b : List ℕ) (off k first many : ℕ) → Bytes b → off + size * k ≤ length b → first + many ≤ k
      → write_each write (take many (drop first (read_each read size k (drop off b)))) ≡ take (size * many) (drop (off + size * first) b)
  write_range b off k first many h l m =
      let w = range-within size first many k m in
      rw (drop-read_each read size first k (drop off b), take-read_each read size many (k - first) (drop (size * first) (drop off b)) (omega arith), drop-drop)
      (write_each-read_each read write size forth many (drop (off + size * first) b) (bytes_drop (off + size * first) b h) (rw length-drop (omega arith)))

pub write_certs : (b : List ℕ) (k first many : ℕ) → Bytes b → leaf_header + cert_size * k ≤ length b → first + many ≤ k
    → write_each cert_bytes (take many (drop first (read_each cert_in cert_size k (drop leaf_header b)))) ≡ take (cert_size * many) (drop (leaf_header + cert_size * first) b)
write_certs b k first many h l m = write_range cert_in cert_bytes cert_size cert_bytes-cert_in b leaf_header k first many h l m

pub write_children : (b : List ℕ) (k first many : ℕ) → Bytes b → inner_header + child_size * k ≤ length b → first + many ≤ k
    → write_each child_bytes (take many (drop first (read_each child_in child_size k (drop inner_header b)))) ≡ take (child_size * many) (drop (inner_header + child_size * first) b)
write_children b k first many h l m = write_range child_in child_bytes child_size child_bytes-child_in b inner_header k first many h l m
