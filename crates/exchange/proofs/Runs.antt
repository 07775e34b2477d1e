-- A section as bytes and as items: what lies in a file is what its items are written as, and what was written is read back.
-- Assumes nothing.
use mathlib.Core.Path.{◌≡◌, refl, sym, ap, ◌∙◌}
use mathlib.Core.List.{List, [], ◌∷◌, ◌++◌, append_assoc}
use Prim.Native.Nat.{ℕ, zero, suc, ◌+◌, ◌-◌, ◌*◌, ◌^◌, ◌≤◌, ◌<◌}
use native.Mathlib.Nat.{add-zero, mul-zero, mul-suc}
use native.Mathlib.Omega.{arith}
use lib.ListN.{length, take, drop, length-append, length-drop, take-append-drop}
use lib.Seq.{take-add, drop-drop, drop_at}
use Rattle.fields.specs.Field.{le, le_at, Bytes}
use Rattle.fields.proofs.Number.{length-le}
use Rattle.fields.proofs.Field.{le-le_at, le_at-drop, le_at-first}
use Rattle.exchange.specs.Item.{Item, place_width, number_width, value_width, size, count_width, item_bytes, items_bytes, section_bytes, item_at}
use Rattle.exchange.specs.Judged.{after}
use Rattle.exchange.specs.Told.{items_from, items_in}
use Rattle.exchange.specs.declared.Section.{Section}

-- ── Lengths ─────────────────────────────────────────────────────────────────────────────────────────────────────

pub length-item : (s : Section) (i : Item) → length (item_bytes s i) ≡ size s
unfolding item_bytes size
length-item s i =
    let a = length-append (le (place_width s) i.place) (le (number_width s) i.number ++ le (value_width s) i.value) in
    let b = length-append (le (number_width s) i.number) (le (value_width s) i.value) in
    omega (arith, a, b, length-le (place_width s) i.place, length-le (number_width s) i.number, length-le (value_width s) i.value)

pub length-items : (s : Section) (is : List Item) → length (items_bytes s is) ≡ size s * length is
unfolding items_bytes
length-items s [] = sym (mul-zero (size s))
length-items s (i ∷ is) =
    rw mul-suc (omega (arith, length-append (item_bytes s i) (items_bytes s is), length-item s i, length-items s is))

pub length_from : (s : Section) (f : List ℕ) (n at : ℕ) → length (items_from s f n at) ≡ n
unfolding items_from
length_from s f zero at = refl
length_from s f (suc n) at = ap suc (length_from s f n (at + size s))

-- ── What lies in a file is what its items are written as ────────────────────────────────────────────────────────

module _ (s : Section) (f : List ℕ) (b : Bytes f) where
  item-lies : (at : ℕ) → at + size s ≤ length f → item_bytes s (item_at s f at) ≡ take (size s) (drop at f)
  unfolding item_bytes item_at size
  item-lies at h =
      let p = place_width s in
      let n = number_width s in
      let v = value_width s in
      let l = drop at f in
      let e : take (p + n + v) l ≡ take p l ++ (take n (drop p l) ++ take v (drop (p + n) l)) =
      rw (take-add (p + n) v l, take-add p n l, append_assoc) in
      let k : at + (p + n) ≡ at + p + n = omega arith in
      let d : drop (p + n) l ≡ drop (at + p + n) f = drop-drop (p + n) at f ∙ ap (λ (k : ℕ). drop k f) k in
      rw (e, d, drop-drop p at f, le-le_at f at p b (omega arith), le-le_at f (at + p) n b (omega arith), le-le_at f (at + p + n) v b (omega arith))

  items_lie : (n at : ℕ) → at + size s * n ≤ length f → drop at f ≡ items_bytes s (items_from s f n at) ++ drop (at + size s * n) f
  unfolding items_bytes items_from
  items_lie zero at h =
      let e : at + size s * 0 ≡ at = rw (mul-zero, add-zero) in
      rw e
  items_lie (suc n) at h =
      let m : size s * suc n ≡ size s * n + size s = mul-suc (size s) n in
      let e : at + size s + size s * n ≡ at + size s * suc n = omega (arith, m) in
      sym (take-append-drop (size s) (drop at f))
      ∙ rw (sym (item-lies at (omega (arith, m))), drop-drop (size s) at f, items_lie n (at + size s) (omega (arith, m)), e, append_assoc)

  pub section_lies : (at : ℕ) → after s f at ≤ length f → drop at f ≡ section_bytes s (items_in s f at) ++ drop (after s f at) f
  unfolding section_bytes items_in after
  section_lies at h =
      sym (take-append-drop count_width (drop at f))
      ∙ rw (length_from, le-le_at f at count_width b (omega arith), drop-drop count_width at f, append_assoc, sym (items_lie (le_at f at count_width) (at + count_width) h))

-- ── What was written is read back ───────────────────────────────────────────────────────────────────────────────

-- each part of an item fits its field
pub record ItemFits (s : Section) (i : Item) : Type 0 where
  pub place : i.place < 256 ^ place_width s
  pub number : i.number < 256 ^ number_width s
  pub value : i.value < 256 ^ value_width s

pub data AllFit (s : Section) : List Item → Type 0 where
  fit_none : AllFit s []
  fit_more : {i : Item} {is : List Item} → ItemFits s i → AllFit s is → AllFit s (i ∷ is)

-- the field that begins at a byte, and what stands behind a piece of known length
first-at : (f rest : List ℕ) (at w v : ℕ) → v < 256 ^ w → drop at f ≡ le w v ++ rest → le_at f at w ≡ v
first-at f rest at w v h e =
    let z : at + 0 ≡ at = omega arith in
    ap (λ (k : ℕ). le_at f k w) (sym z) ∙ sym (le_at-drop f at 0 w) ∙ ap (λ (l : List ℕ). le_at l 0 w) e ∙ le_at-first w v rest h

next-at : (f piece rest : List ℕ) (at w : ℕ) → length piece ≡ w → drop at f ≡ piece ++ rest → drop (at + w) f ≡ rest
next-at f piece rest at w h e = sym (drop-drop w at f) ∙ ap (λ (l : List ℕ). drop w l) e ∙ drop_at piece rest w h

module _ (s : Section) (f : List ℕ) where
  item_back : (at : ℕ) (i : Item) (rest : List ℕ) → ItemFits s i → drop at f ≡ item_bytes s i ++ rest → item_at s f at ≡ i
  unfolding item_bytes item_at
  item_back at i rest h e =
      let p = place_width s in
      let n = number_width s in
      let v = value_width s in
      let value = le v i.value ++ rest in
      let number = le n i.number ++ value in
      let a : drop at f ≡ le p i.place ++ number = e ∙ rw (append_assoc, append_assoc) in
      let b : drop (at + p) f ≡ number = next-at f (le p i.place) number at p (length-le p i.place) a in
      let c : drop (at + p + n) f ≡ value = next-at f (le n i.number) value (at + p) n (length-le n i.number) b in
      let x = first-at f number at p i.place h.place a in
      let y = first-at f value (at + p) n i.number h.number b in
      let z = first-at f rest (at + p + n) v i.value h.value c in
      λ j. record { place = x j; number = y j; value = z j }

  items_back : (is : List Item) (at : ℕ) (rest : List ℕ) → AllFit s is → drop at f ≡ items_bytes s is ++ rest → items_from s f (length is) at ≡ is
  unfolding items_bytes items_from
  items_back [] at rest h e = refl
  items_back (i ∷ is) at rest (fit_more h k) e =
      let a : drop at f ≡ item_bytes s i ++ (items_bytes s is ++ rest) = e ∙ append_assoc (item_bytes s i) (items_bytes s is) rest in
      let b = next-at f (item_bytes s i) (items_bytes s is ++ rest) at (size s) (length-item s i) a in
      rw (item_back at i (items_bytes s is ++ rest) h a, items_back is (at + size s) rest k b)

-- a section that was written stands in the file
pub record Stands (s : Section) (f : List ℕ) (at : ℕ) (is : List Item) (rest : List ℕ) : Type 0 where
  pub count : le_at f at count_width ≡ length is
  pub items : items_in s f at ≡ is
  pub ends : after s f at ≤ length f
  pub behind : drop (after s f at) f ≡ rest

pub section_stands : (s : Section) (f : List ℕ) (at : ℕ) (is : List Item) (rest : List ℕ) → AllFit s is → length is < 256 ^ count_width
    → drop at f ≡ section_bytes s is ++ rest → Stands s f at is rest
unfolding section_bytes items_in after
section_stands s f at is rest h k e =
    let items = items_bytes s is in
    let a : drop at f ≡ le count_width (length is) ++ (items ++ rest) = e ∙ append_assoc (le count_width (length is)) items rest in
    let count = first-at f (items ++ rest) at count_width (length is) k a in
    let b = next-at f (le count_width (length is)) (items ++ rest) at count_width (length-le count_width (length is)) a in
    let c = next-at f items rest (at + count_width) (size s * length is) (length-items s is) b in
    let l : length f - at ≡ count_width + (size s * length is + length rest) =
    sym (length-drop at f) ∙ ap (λ (l : List ℕ). length l) a ∙ rw (length-append, length-append, length-le, length-items) in
    record {
      count = count;
      items = rw count (items_back s f is (at + count_width) rest h b);
      ends = rw count (omega (arith, l));
      behind = rw count c;
    }
