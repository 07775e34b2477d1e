-- Fields in a list of bytes, at every width: a field that was put is read back, another one is read as before, a field
-- may be cut in two anywhere, and what was written piece by piece is read at its offset. Assumes nothing.
use mathlib.Core.Path.{◌≡◌, refl, ap, ◌∙◌}
use mathlib.Core.Bool.{Bool, true, false, ◌||◌}
use mathlib.Core.List.{List, [], ◌∷◌, ◌++◌, append-nil}
use Prim.Native.Nat.{ℕ, ◌+◌, ◌-◌, ◌*◌, ◌/◌, ◌%◌, ◌^◌, ◌≤◌, ◌<◌}
use native.Mathlib.Nat.{add-zero, mul-zero, mod-eq_of_lt}
use native.Mathlib.Omega.{arith}
use borrow.Author.Tests.{leb-true}
use lib.Dec.{leb}
use lib.ListN.{length, get_or, set, take, drop}
use lib.Seq.{length-sets, take_at, drop-drop, drop-append-add, get_or-drop}
use Rattle.fields.specs.Field.{number, le, le_at, put_at, apart, Bytes}
use Rattle.fields.proofs.Bytes.{bytes_le, bytes_take, bytes_drop, bytes_sets}
use Rattle.fields.proofs.Number.{length-le, number-le, le-number, number-take-add, number-take-bound, le_mod, le-add}
use Rattle.fields.proofs.Run.{length_part, part_take, part_sets, part_sets_below, drop_sets, sets_append}

-- ── Reading ─────────────────────────────────────────────────────────────────────────────────────────────────────

pub le_at-bound : (b : List ℕ) (off w : ℕ) → Bytes b → le_at b off w < 256 ^ w
unfolding le_at
le_at-bound b off w h = number-take-bound w (drop off b) (bytes_drop off b h)

-- one byte; past the end, 0
pub le_at_byte : (b : List ℕ) (off : ℕ) → le_at b off 1 ≡ get_or b off 0
unfolding le_at number
le_at_byte b off = first (drop off b) ∙ rw (get_or-drop, add-zero)
  where
    first : (xs : List ℕ) → number (take 1 xs) ≡ get_or xs 0 0
    first [] = refl
    first (x ∷ xs) = rw (mul-zero, add-zero)

pub le_at-add : (b : List ℕ) (off u w : ℕ) → le_at b off (u + w) ≡ le_at b off u + 256 ^ u * le_at b (off + u) w
unfolding le_at
le_at-add b off u w = rw (number-take-add, drop-drop)

pub le_at-drop : (b : List ℕ) (k off w : ℕ) → le_at (drop k b) off w ≡ le_at b (k + off) w
unfolding le_at
le_at-drop b k off w = rw drop-drop

pub le_at-take : (b : List ℕ) (n off w : ℕ) → off + w ≤ n → le_at (take n b) off w ≡ le_at b off w
unfolding le_at
le_at-take b n off w h = ap number (part_take w off n b h)

-- the bytes of a field are those of the number that it holds
pub le-le_at : (b : List ℕ) (off w : ℕ) → Bytes b → off + w ≤ length b → le w (le_at b off w) ≡ take w (drop off b)
unfolding le_at
le-le_at b off w h k =
    rw length_part at (le-number (take w (drop off b)) (bytes_take w (drop off b) (bytes_drop off b h)))

-- ── Reading what was written piece by piece: the first piece, the last one, and past a piece ────────────────────

pub le_at-first : (w v : ℕ) (rest : List ℕ) → v < 256 ^ w → le_at (le w v ++ rest) 0 w ≡ v
unfolding le_at
le_at-first w v rest h = rw (take_at (le w v) rest w (length-le w v), number-le w v h)

pub le_at-last : (w v : ℕ) → v < 256 ^ w → le_at (le w v) 0 w ≡ v
le_at-last w v h = rw append-nil at (le_at-first w v [] h)

pub le_at-past : (u v : ℕ) (rest : List ℕ) (off w : ℕ) → leb u off ≡ true → le_at (le u v ++ rest) off w ≡ le_at rest (off - u) w
unfolding le_at
le_at-past u v rest off w h =
    let e : off ≡ length (le u v) + (off - u) = omega (arith, length-le u v, leb-true u off h) in
    ap (λ (n : ℕ). number (take w (drop n (le u v ++ rest)))) e
    ∙ ap (λ (l : List ℕ). number (take w l)) (drop-append-add (le u v) rest (off - u))

-- ── Writing ─────────────────────────────────────────────────────────────────────────────────────────────────────

pub length-put : (b : List ℕ) (off w v : ℕ) → length (put_at b off w v) ≡ length b
unfolding put_at
length-put b off w v = length-sets b off (le w v)

pub bytes-put : (b : List ℕ) (off w v : ℕ) → Bytes b → Bytes (put_at b off w v)
unfolding put_at
bytes-put b off w v h = bytes_sets (le w v) b off h (bytes_le w v)

pub put_at_byte : (b : List ℕ) (off v : ℕ) → v < 256 → put_at b off 1 v ≡ set b off v
unfolding put_at le
put_at_byte b off v h = rw (mod-eq_of_lt h)

pub put_at-add : (b : List ℕ) (off u w v : ℕ) → put_at b off (u + w) v ≡ put_at (put_at b off u v) (off + u) w (v / 256 ^ u)
unfolding put_at
put_at-add b off u w v = rw (le-add, sets_append, length-le)

-- what does not fit a field is dropped
pub put_at_mod : (b : List ℕ) (off w v : ℕ) → put_at b off w (v % 256 ^ w) ≡ put_at b off w v
unfolding put_at
put_at_mod b off w v = rw le_mod

-- a field put in two parts, as code does it: the low part first, what is left of the number behind it
pub put_at_parts : (b : List ℕ) (off u w v : ℕ) → put_at b off (u + w) v ≡ put_at (put_at b off u (v % 256 ^ u)) (off + u) w (v / 256 ^ u)
put_at_parts b off u w v = rw (put_at_mod, put_at-add)

pub drop-put : (b : List ℕ) (off w v n : ℕ) → off + w ≤ n → drop n (put_at b off w v) ≡ drop n b
unfolding put_at
drop-put b off w v n h = drop_sets (le w v) b off n (rw length-le h)

-- ── Reading after writing ───────────────────────────────────────────────────────────────────────────────────────

pub get_put : (b : List ℕ) (off w v : ℕ) → off + w ≤ length b → v < 256 ^ w → le_at (put_at b off w v) off w ≡ v
unfolding le_at put_at
get_put b off w v h k = rw (part_sets b (le w v) off w (length-le w v) h, number-le w v k)

-- the same with a condition that computes, for `simp`
pub get_put_in : (b : List ℕ) (off w v : ℕ) → leb (off + w) (length b) ≡ true → v < 256 ^ w → le_at (put_at b off w v) off w ≡ v
get_put_in b off w v h = get_put b off w v (leb-true (off + w) (length b) h)

pub get_put-other : (b : List ℕ) (off w v at u : ℕ) → apart off w at u ≡ true → le_at (put_at b off w v) at u ≡ le_at b at u
unfolding le_at put_at
get_put-other b off w v at u h = go (leb (off + w) at) refl h
  where
    go : (t : Bool) → leb (off + w) at ≡ t → (t || leb (at + u) off) ≡ true → le_at (put_at b off w v) at u ≡ le_at b at u
    go true e f = ap (λ (l : List ℕ). number (take u l)) (drop-put b off w v at (leb-true (off + w) at e))
    go false e f = ap number (part_sets_below (le w v) b off at u (leb-true (at + u) off f))

-- what `simp` needs to read a field of a header that was put field by field, where the list's length is known
pub ruleset after_Puts = (get_put-other, get_put_in, length-put)

-- and of one that was written piece by piece
pub ruleset in_pieces = (le_at-first, le_at-last, le_at-past)
