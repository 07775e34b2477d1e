-- Little-endian fields: what number a run of bytes stands for, and which bytes a number is written as.
-- Document 01 gives every page field so, in 2, 4 or 8 bytes; the width is an argument here, and each law holds at every width.
use Rattle.std.specs.Prelude.{ℕ, zero, suc, ◌+◌, ◌*◌, ◌/◌, ◌%◌, Bool, ◌||◌, List, [], ◌∷◌, leb, get_or, take, drop}
use Rattle.std.proofs.lemmas.List.Edits.{sets}
use Rattle.std.specs.Int.{w8}
use Rattle.std.proofs.Common.{Fits}

-- the number that bytes stand for, the least one first
unfoldable pub number : List ℕ → ℕ
number [] = 0
number (x ∷ xs) = x + 256 * number xs

-- a number as `w` bytes; what does not fit them is dropped
unfoldable pub le : ℕ → ℕ → List ℕ
le zero v = []
le (suc w) v = v % 256 ∷ le w (v / 256)

-- the field of `w` bytes that starts at `off`
unfoldable pub le_at : List ℕ → ℕ → ℕ → ℕ
le_at b off w = number (take w (drop off b))

-- the same bytes with that field set to `v`
unfoldable pub put_at : List ℕ → ℕ → ℕ → ℕ → List ℕ
put_at b off w v = sets b off (le w v)

-- every element is a byte, in the form in which it is known of what a `&[u8]` or a `&mut [u8]` refers to
abbrev pub Bytes : List ℕ → Type 0
Bytes b = (i : ℕ) → Fits w8 (get_or b i 0)

-- two fields, each an offset and a width, share no byte; a test, so that it computes where the four are numerals
abbrev pub apart : ℕ → ℕ → ℕ → ℕ → Bool
apart off w at u = leb (off + w) at || leb (at + u) off
