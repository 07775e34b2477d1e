-- The places that an inner page's entries ask for, one by one. Assumes nothing.
use Prim.Native.Nat.{ℕ, zero, suc, ◌+◌, ◌-◌, ◌≤◌, ◌<◌}
use mathlib.Core.Path.{◌≡◌, refl}
use mathlib.Core.List.{List, [], ◌∷◌}
use native.Mathlib.Numerals.{add-one}
use native.Mathlib.Omega.{arith}
use lib.ListN.{length, get_or, drop, drop_of_length-le}
use lib.Seq.{drop-cons, drop-drop}
use Rattle.fields.specs.Field.{le_at}
use Rattle.rules.specs.Layout.{inner_header, child_size, leaf_kind}
use Rattle.rules.specs.Entry.{Child}
use Rattle.rules.specs.Page.{read_each, child_in, view_in}
use Rattle.rules.specs.Place.{high_before, place_of, places_in, kids}
use Rattle.rules.specs.declared.Place.{Place}
use Rattle.rules.proofs.Bytes.Each.{length-read_each, read_each-at}
use Rattle.head.specs.Head.{child_at}
use Rattle.head.proofs.Headers.{view-inner}

pub places-at : (want high : ℕ) (xs : List Child) (j : ℕ) (d : Place) (x : Child) → j < length xs
    → get_or (places_in want high xs) j d ≡ place_of want (high_before high (drop (suc j) xs)) (get_or xs j x)
unfolding places_in
places-at want high [] j d x h = absurd (omega arith)
places-at want high (y ∷ ys) zero d x h = refl
places-at want high (y ∷ ys) (suc j) d x h = places-at want high ys j d x (omega arith)

-- the j-th of so many children in a page's bytes
module _ (b : List ℕ) (count high : ℕ) where
  abbrev pub entries : List Child
  entries = read_each child_in child_size count (drop inner_header b)

  pub entry_at : (j : ℕ) (x : Child) → j < count → get_or entries j x ≡ child_at b j
  unfolding child_at
  entry_at j x h = rw (read_each-at child_in child_size count (drop inner_header b) j x h, drop-drop)

  -- where the range of the child before index i ends
  pub high-last : (i : ℕ) → count ≤ i → high ≡ high_before high (drop i entries)
  unfolding high_before
  high-last i h =
      let l : length entries ≤ i = rw length-read_each h in
      rw (drop_of_length-le entries l, high_before)

  pub high-next : (i : ℕ) {k : ℕ} → i < count → k ≡ (child_at b i).key → k - 1 ≡ high_before high (drop i entries)
  unfolding high_before
  high-next i h e =
      let l : i < length entries = rw length-read_each h in
      rw (drop-cons entries i (child_at b i) l, high_before, e, entry_at i (child_at b i) h)

  pub kid_at : (want j : ℕ) (d : Place) → j < count
      → get_or (places_in want high entries) j d ≡ place_of want (high_before high (drop (j + 1) entries)) (child_at b j)
  kid_at want j d h =
      let l : j < length entries = rw length-read_each h in
      rw (add-one j, places-at want high entries j d (child_at b j) l, entry_at j (child_at b j) h)

-- they are the kids of what an inner page shows
pub kids-inner : (e : Place) (b : List ℕ) → (le_at b 0 2 ≡ leaf_kind → ⊥)
    → kids e (view_in b) ≡ places_in (le_at b 0 2 - 1) e.high (entries b (le_at b 2 2) e.high)
unfolding kids
kids-inner e b k = rw (view-inner b k)
