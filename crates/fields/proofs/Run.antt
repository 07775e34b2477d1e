-- A run of stores in a list, `sets`, and a part of a list, `take w (drop off b)`: what each keeps of the other.
-- Assumes nothing.
use mathlib.Core.Path.{◌≡◌, refl, sym, ap, ◌∙◌}
use mathlib.Core.List.{List, [], ◌∷◌, ◌++◌, append_assoc}
use Prim.Native.Nat.{ℕ, zero, suc, ◌+◌, ◌≤◌}
use native.Mathlib.Nat.{add-zero, add-suc, suc-add}
use native.Mathlib.Omega.{arith}
use borrow.Rule.Slice.PartMut.{put_mid}
use lib.ListN.{length, set, take, drop, length-drop}
use lib.Seq.{sets, sets-eq, take_at, drop_at, drop-drop, take-take, drop-set-lt, take-set-le, length-take-le}

-- ── A part ──────────────────────────────────────────────────────────────────────────────────────────────────────

pub length_part : (w off : ℕ) (b : List ℕ) → off + w ≤ length b → length (take w (drop off b)) ≡ w
length_part w off b h = length-take-le w (drop off b) (rw length-drop (omega arith))

-- a cut at or behind its end leaves a part as it was
pub part_take : (w off n : ℕ) (b : List ℕ) → off + w ≤ n → take w (drop off (take n b)) ≡ take w (drop off b)
part_take w zero n b h = take-take w n b (omega arith)
part_take w (suc off) zero b h = absurd (omega arith)
part_take w (suc off) (suc n) [] h = refl
part_take w (suc off) (suc n) (x ∷ b) h = part_take w off n b (omega arith)

-- ── A run of stores ─────────────────────────────────────────────────────────────────────────────────────────────

pub sets_append : (xs ys b : List ℕ) (i : ℕ) → sets b i (xs ++ ys) ≡ sets (sets b i xs) (i + length xs) ys
sets_append [] ys b i = rw add-zero
sets_append (x ∷ xs) ys b i = rw (sets_append xs ys (set b i x) (suc i), add-suc, suc-add)

pub drop_sets : (vs b : List ℕ) (i n : ℕ) → i + length vs ≤ n → drop n (sets b i vs) ≡ drop n b
drop_sets [] b i n h = refl
drop_sets (v ∷ vs) b i n h = drop_sets vs (set b i v) (suc i) n (omega arith) ∙ drop-set-lt n b i v (omega arith)

pub take_sets : (vs b : List ℕ) (i n : ℕ) → n ≤ i → take n (sets b i vs) ≡ take n b
take_sets [] b i n h = refl
take_sets (v ∷ vs) b i n h = take_sets vs (set b i v) (suc i) n (omega arith) ∙ take-set-le n b i v h

-- the part that was stored, and one that ends at or before its start
pub part_sets : (b vs : List ℕ) (off w : ℕ) → length vs ≡ w → off + w ≤ length b → take w (drop off (sets b off vs)) ≡ vs
part_sets b vs off w e h =
    rw (sets-eq vs b off (omega arith), append_assoc, drop_at (take off b) (vs ++ drop (off + length vs) b) off (length-take-le off b (omega arith)), take_at vs (drop (off + length vs) b) w e)

pub part_sets_below : (vs b : List ℕ) (off at u : ℕ) → at + u ≤ off → take u (drop at (sets b off vs)) ≡ take u (drop at b)
part_sets_below vs b off at u h =
    sym (part_take u at off (sets b off vs) h) ∙ ap (λ (l : List ℕ). take u (drop at l)) (take_sets vs b off off (omega arith)) ∙ part_take u at off b h

-- what is written over a part of a slice is a run of stores
pub put_mid-sets : (b ys : List ℕ) (at w : ℕ) → length ys ≡ w → at + w ≤ length b → put_mid at w b ys ≡ sets b at ys
put_mid-sets b ys at w e h = rw (sets-eq ys b at (rw e h), drop-drop, e, append_assoc)
