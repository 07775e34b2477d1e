-- Runs of bytes set in a list: one more of them, what they leave alone, and two runs in either order.
-- Assumes nothing.
use mathlib.Core.Path.{◌≡◌, refl, sym, ap, ◌∙◌}
use mathlib.Core.Bool.{Bool, true, false}
use mathlib.Core.List.{List, [], ◌∷◌, append_assoc}
use Prim.Native.Nat.{ℕ, suc, ◌+◌, ◌-◌, ◌≤◌, ◌<◌}
use native.Mathlib.Nat.{zero-add}
use native.Mathlib.Numerals.{add-one}
use native.Mathlib.Omega.{arith}
use borrow.Author.Tests.{ltb-true, ltb-false}
use lib.Dec.{ltb}
use lib.ListN.{length, take, drop, get_or, set, replicate, length-drop, length-replicate, replicate-append-replicate, take-append-drop}
use lib.Seq.{sets, sets-eq, set_comm, take-suc, get_or-set_other, get_or-drop, drop-drop, paste, length-take-le}
use Rattle.std.specs.List.{copy_within}
use Rattle.fields.specs.Field.{Bytes, le_at, put_at}
use Rattle.fields.proofs.Field.{le-le_at}
use Rattle.fields.proofs.Run.{sets_append, length_part}
use Rattle.rules.specs.Page.{over}

-- ── What a run leaves alone ─────────────────────────────────────────────────────────────────────────────────────

pub set_sets : (vs b : List ℕ) (i j v : ℕ) → j < i → set (sets b i vs) j v ≡ sets (set b j v) i vs
set_sets [] b i j v h = refl
set_sets (x ∷ vs) b i j v h =
    set_sets vs (set b i x) (suc i) j v (omega arith)
    ∙ ap (λ (l : List ℕ). sets l (suc i) vs) (set_comm b i j x v (λ (e : i ≡ j). omega arith))

pub get_d_sets_below : (vs b : List ℕ) (i j : ℕ) → j < i → get_or (sets b i vs) j 0 ≡ get_or b j 0
get_d_sets_below [] b i j h = refl
get_d_sets_below (x ∷ vs) b i j h =
    get_d_sets_below vs (set b i x) (suc i) j (omega arith)
    ∙ get_or-set_other b i j x 0 (λ (e : j ≡ i). omega arith)

pub get_d_sets_above : (vs b : List ℕ) (i j : ℕ) → i + length vs ≤ j → get_or (sets b i vs) j 0 ≡ get_or b j 0
get_d_sets_above [] b i j h = refl
get_d_sets_above (x ∷ vs) b i j h =
    get_d_sets_above vs (set b i x) (suc i) j (omega arith)
    ∙ get_or-set_other b i j x 0 (λ (e : j ≡ i). omega arith)

-- two runs that share no place, in either order
pub sets_comm : (xs ys b : List ℕ) (i j : ℕ) → i + length xs ≤ j
    → sets (sets b i xs) j ys ≡ sets (sets b j ys) i xs
sets_comm [] ys b i j h = refl
sets_comm (x ∷ xs) ys b i j h =
    sets_comm xs ys (set b i x) (suc i) j (omega arith)
    ∙ ap (λ (l : List ℕ). sets l (suc i) xs) (sym (set_sets ys b j i x (omega arith)))

-- what stands there already
pub sets_same : (b : List ℕ) (off n : ℕ) → off + n ≤ length b → sets b off (take n (drop off b)) ≡ b
sets_same b off n h =
    let e : length (take n (drop off b)) ≡ n = length_part n off b h in
    sets-eq (take n (drop off b)) b off (rw e h)
    ∙ rw (append_assoc, e, ← drop-drop, take-append-drop, take-append-drop)

pub put_same : (b : List ℕ) (off w v : ℕ) → Bytes b → off + w ≤ length b → v ≡ le_at b off w → put_at b off w v ≡ b
unfolding put_at
put_same b off w v h k e = rw (e, le-le_at b off w h k) (sets_same b off w k)

-- bytes over the start of others are a run from their start
pub over_sets : (xs b : List ℕ) → length xs ≤ length b → over xs b ≡ sets b 0 xs
unfolding over
over_sets xs b h = sym (sets-eq xs b 0 (rw zero-add h) ∙ rw zero-add)

-- ── A run pasted, or copied byte by byte ────────────────────────────────────────────────────────────────────────

-- what is pasted over bytes is a run
pub paste-sets : (b xs : List ℕ) (to n : ℕ) → to + n ≤ length b → n ≤ length xs → paste b to xs n ≡ sets b to (take n xs)
paste-sets b xs to n h m = rw (sets-eq (take n xs) b to (rw (length-take-le n xs m) h), length-take-le n xs m)

-- what the library's `copy_within` leaves is a run
pub copied_within : (b : List ℕ) (to from len : ℕ) → to + len ≤ length b → from + len ≤ length b
    → copy_within b from (from + len) to ≡ sets b to (take len (drop from b))
copied_within b to from len h m =
    let e : from + len - from ≡ len = omega arith in
    rw e (paste-sets b (drop from b) to len h (rw length-drop (omega arith)))

-- what a run leaves alone at a place that it has passed, and before it
copied-from : (b : List ℕ) (to from k : ℕ) → from + k < length b → (from < to → from + k < to)
    → get_or (sets b to (take k (drop from b))) (from + k) 0 ≡ get_or b (from + k) 0
copied-from b to from k h apart = go (ltb from to) refl
  where
    go : (t : Bool) → ltb from to ≡ t → get_or (sets b to (take k (drop from b))) (from + k) 0 ≡ get_or b (from + k) 0
    go true e = get_d_sets_below (take k (drop from b)) b to (from + k) (apart (ltb-true from to e))
    go false e =
        let f : length (take k (drop from b)) ≡ k = length_part k from b (omega arith) in
        get_d_sets_above (take k (drop from b)) b to (from + k) (rw f (omega (arith, ltb-false from to e)))

pub copied_more : (b l : List ℕ) (to from len k : ℕ) → from + len ≤ length b → k < len → (from < to → from + len ≤ to)
    → l ≡ sets b to (take k (drop from b)) → set l (to + k) (get_or l (from + k) 0) ≡ sets b to (take (k + 1) (drop from b))
copied_more b l to from len k h m apart e =
    let long : k < length (drop from b) = rw length-drop (omega arith) in
    let f : length (take k (drop from b)) ≡ k = length_part k from b (omega arith) in
    let g = copied-from b to from k (omega arith) (λ (u : from < to). omega (arith, apart u)) in
    rw (e, g, ← get_or-drop from b k 0, add-one, take-suc (drop from b) k 0 long, sets_append, f)

pub cleared_more : (b l : List ℕ) (at k : ℕ) → at ≤ k → l ≡ sets b at (replicate (k - at) 0)
    → set l k 0 ≡ sets b at (replicate (k + 1 - at) 0)
cleared_more b l at k h e =
    let f : k + 1 - at ≡ (k - at) + 1 = omega arith in
    let g : at + (k - at) ≡ k = omega arith in
    rw (e, f, ← replicate-append-replicate {A = ℕ} (k - at) 1 0, sets_append, length-replicate, g)
