-- Entries of one size in bytes, one after the other: `read_each` and `write_each` over any reading, writing and size.
-- Assumes nothing.
use Rattle.std.proofs.Common.{◌≡◌, ℕ, zero, suc, ◌-◌, ◌*◌, ◌<◌, ◌≤◌, List, [], ◌∷◌, ◌++◌, length, get_or, take, drop, refl, ap, ◌∙◌, append_assoc, add_comm, mul-zero, mul-suc, arith, length-append, length-drop, drop-drop, take-add, drop_at}
use native.Mathlib.Nat.{sub-zero, zero-sub, suc-sub-suc}
use Rattle.fields.specs.Field.{Bytes}
use Rattle.fields.proofs.Bytes.{bytes-nil, bytes-append, bytes_drop}
use Rattle.rules.specs.Page.{read_each, write_each}
use Rattle.rules.proofs.Bytes.All.{All, nil, cons}

-- ── Reading ─────────────────────────────────────────────────────────────────────────────────────────────────────

module _ {A : Type 0} (read : List ℕ → A) (size : ℕ) where
  pub length-read_each : (k : ℕ) (b : List ℕ) → length (read_each read size k b) ≡ k
  unfolding read_each
  length-read_each zero b = refl
  length-read_each (suc k) b = ap suc (length-read_each k (drop size b))

  pub read_each-at : (k : ℕ) (b : List ℕ) (j : ℕ) (d : A) → j < k → get_or (read_each read size k b) j d ≡ read (drop (size * j) b)
  unfolding read_each
  read_each-at zero b j d h = absurd (omega arith)
  read_each-at (suc k) b zero d h = rw mul-zero
  read_each-at (suc k) b (suc j) d h =
      read_each-at k (drop size b) j d (omega arith) ∙ rw (drop-drop, mul-suc, add_comm size (size * j))

  pub take-read_each : (j k : ℕ) (b : List ℕ) → j ≤ k → take j (read_each read size k b) ≡ read_each read size j b
  unfolding read_each
  take-read_each zero k b h = refl
  take-read_each (suc j) zero b h = absurd (omega arith)
  take-read_each (suc j) (suc k) b h = ap (λ (r : List A). read b ∷ r) (take-read_each j k (drop size b) (omega arith))

  pub drop-read_each : (j k : ℕ) (b : List ℕ) → drop j (read_each read size k b) ≡ read_each read size (k - j) (drop (size * j) b)
  unfolding read_each
  drop-read_each zero k b = rw (sub-zero, mul-zero)
  drop-read_each (suc j) zero b = rw zero-sub
  drop-read_each (suc j) (suc k) b = drop-read_each j k (drop size b) ∙ rw (suc-sub-suc, drop-drop, mul-suc, add_comm size (size * j))

-- each one read of bytes has what every one read of bytes has
pub all-read_each : {A : Type 0} (P : A → Type 0) (read : List ℕ → A) (size : ℕ) → ((b : List ℕ) → Bytes b → P (read b)) → (k : ℕ) (b : List ℕ) → Bytes b → All P (read_each read size k b)
unfolding read_each
all-read_each P read size f zero b h = nil
all-read_each P read size f (suc k) b h = cons (f b h) (all-read_each P read size f k (drop size b) (bytes_drop size b h))

-- ── Writing ─────────────────────────────────────────────────────────────────────────────────────────────────────

module _ {A : Type 0} (write : A → List ℕ) where
  pub write_each-append : (xs ys : List A) → write_each write (xs ++ ys) ≡ write_each write xs ++ write_each write ys
  unfolding write_each
  write_each-append [] ys = refl
  write_each-append (x ∷ xs) ys = rw (write_each-append xs ys, append_assoc)

  pub bytes-write_each : ((x : A) → Bytes (write x)) → (xs : List A) → Bytes (write_each write xs)
  unfolding write_each
  bytes-write_each f [] = bytes-nil
  bytes-write_each f (x ∷ xs) = bytes-append (write x) (write_each write xs) (f x) (bytes-write_each f xs)

module _ {A : Type 0} (write : A → List ℕ) (size : ℕ) (sized : (x : A) → length (write x) ≡ size) where
  pub length-write_each : (xs : List A) → length (write_each write xs) ≡ size * length xs
  unfolding write_each
  length-write_each [] = omega arith
  length-write_each (x ∷ xs) = rw (length-append, sized x, length-write_each xs, mul-suc) (omega arith)

-- ── What was written is read, and what was read is written ──────────────────────────────────────────────────────

module _ {A : Type 0} (read : List ℕ → A) (write : A → List ℕ) (size : ℕ) where
  pub read_each-write_each : (P : A → Type 0) → ((x : A) → length (write x) ≡ size) → ((x : A) → P x → (rest : List ℕ) → read (write x ++ rest) ≡ x) → {xs : List A} → All P xs → (rest : List ℕ) → read_each read size (length xs) (write_each write xs ++ rest) ≡ xs
  unfolding read_each write_each
  read_each-write_each P sized back nil rest = refl
  read_each-write_each P sized back (cons {x = x} {xs = xs} h k) rest =
      rw (append_assoc, back x h (write_each write xs ++ rest), drop_at (write x) (write_each write xs ++ rest) size (sized x), read_each-write_each P sized back k rest)

  pub write_each-read_each : ((b : List ℕ) → Bytes b → size ≤ length b → write (read b) ≡ take size b) → (k : ℕ) (b : List ℕ) → Bytes b → size * k ≤ length b → write_each write (read_each read size k b) ≡ take (size * k) b
  unfolding read_each write_each
  write_each-read_each forth zero b h l = rw mul-zero
  write_each-read_each forth (suc k) b h l =
      rw (forth b h (omega arith), write_each-read_each forth k (drop size b) (bytes_drop size b h) (rw length-drop (omega arith)), mul-suc, add_comm, take-add)
