-- The keys of a page's entries, where each lies, and how far a spot among them goes.
-- Assumes nothing.
use mathlib.Core.Path.{◌≡◌, refl, ap, ◌∙◌}
use mathlib.Core.Bool.{Bool, true, false}
use mathlib.Core.List.{List, [], ◌∷◌}
use Prim.Native.Nat.{ℕ, zero, suc, ◌+◌, ◌*◌, ◌≤◌, ◌<◌}
use native.Mathlib.Nat.{add-zero}
use native.Mathlib.Omega.{arith}
use lib.Dec.{leb}
use lib.ListN.{length, drop, get_or}
use lib.Seq.{drop-drop}
use Rattle.fields.specs.Field.{le_at}
use Rattle.fields.proofs.Field.{le_at-drop}
use Rattle.rules.specs.Layout.{leaf_header, inner_header, cert_size, child_size}
use Rattle.rules.specs.Entry.{Entry, keys}
use Rattle.rules.specs.Page.{read_each, cert_in, child_in}
use Rattle.rules.proofs.Bytes.Each.{length-read_each, read_each-at}
use Rattle.entries.specs.Spot.{key_in, keys_in, spot_of, start_of}

keys-read_each : {B : Type 0} (read : List ℕ → Entry B) (size k : ℕ) (b : List ℕ) → ((l : List ℕ) → (read l).key ≡ key_in l)
    → keys (read_each read size k b) ≡ read_each key_in size k b
unfolding keys read_each
keys-read_each read size zero b f = refl
keys-read_each read size (suc k) b f = rw (f b, keys-read_each read size k (drop size b) f)

pub keys-certs : (k : ℕ) (b : List ℕ) → keys (read_each cert_in cert_size k (drop leaf_header b)) ≡ keys_in leaf_header cert_size k b
unfolding keys_in key_in cert_in
keys-certs k b = keys-read_each cert_in cert_size k (drop leaf_header b) (λ l. refl)

pub keys-children : (k : ℕ) (b : List ℕ) → keys (read_each child_in child_size k (drop inner_header b)) ≡ keys_in inner_header child_size k b
unfolding keys_in key_in child_in
keys-children k b = keys-read_each child_in child_size k (drop inner_header b) (λ l. refl)

pub length-keys_in : (header size k : ℕ) (b : List ℕ) → length (keys_in header size k b) ≡ k
unfolding keys_in
length-keys_in header size k b = length-read_each key_in size k (drop header b)

-- the key at an index, read where it lies
pub key-at : (header size count j : ℕ) (b : List ℕ) → j < count → get_or (keys_in header size count b) j 0 ≡ le_at b (header + size * j) 8
unfolding keys_in key_in
key-at header size count j b h =
    rw (read_each-at key_in size count (drop header b) j 0 h, drop-drop)
    (le_at-drop b (header + size * j) 0 8 ∙ ap (λ (n : ℕ). le_at b n 8) (add-zero (header + size * j)))

pub spot-bound : (k : ℕ) (ks : List ℕ) → spot_of k ks ≤ length ks
unfolding spot_of
spot-bound k [] = omega arith
spot-bound k (x ∷ xs) = go (leb x k) (spot-bound k xs)
  where
    go : (t : Bool) → spot_of k xs ≤ length xs → elim t [ true ↦ 1 + spot_of k xs | false ↦ 0 ] ≤ suc (length xs)
    go true h = omega arith
    go false h = omega arith

pub start-bound : (low : ℕ) (ks : List ℕ) → start_of low ks ≤ length ks
unfolding start_of
start-bound zero ks = omega arith
start-bound (suc l) ks = spot-bound l ks
