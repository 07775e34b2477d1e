-- An inner page's entries by their keys: the place that a key leads to.
-- Assumes nothing.
use mathlib.Core.Path.{◌≡◌, sym, ap, ◌∙◌}
use mathlib.Core.Bool.{true}
use mathlib.Core.List.{List, ◌∷◌}
use mathlib.Core.Option.{some}
use Prim.Native.Nat.{ℕ, ◌-◌, ◌≤◌, ◌<◌}
use native.Mathlib.Omega.{arith}
use lib.ListN.{length, drop, get_or}
use Rattle.rules.specs.Layout.{inner_header, child_size, inner_room}
use Rattle.rules.specs.Entry.{Child, keys, rising}
use Rattle.rules.specs.Page.{View, read_each, child_in, view_in}
use Rattle.rules.specs.Place.{places_in, kids, pick}
use Rattle.rules.specs.declared.Place.{Place}
use Rattle.rules.proofs.Bytes.Each.{length-read_each}
use Rattle.rules.proofs.Entries.Sounds.{starts_first}
use Rattle.rules.proofs.Entries.Views.{inner-kind}
use Rattle.head.specs.declared.Head.{Head}
use Rattle.head.proofs.Headers.{view-inner, kind-view, count-view}
use Rattle.entries.specs.Spot.{keys_in, spot_of}
use Rattle.entries.proofs.KeysIn.{keys-children, length-keys_in, spot-bound}
use Rattle.seek.proofs.Spots.{spot-above}
use Rattle.seek.proofs.Found.{pick_at}
use Rattle.way.specs.Ways.{places_below, Leads}

-- the first so many entries of an inner page
abbrev pub children_in : ℕ → List ℕ → List Child
children_in count b = read_each child_in child_size count (drop inner_header b)

module _ (b : List ℕ) (count : ℕ) where
  length-children : length (children_in count b) ≡ count
  length-children = length-read_each child_in child_size count (drop inner_header b)

  spot-within : (k : ℕ) → spot_of k (keys_in inner_header child_size count b) ≤ count
  spot-within k = rw (length-keys_in inner_header child_size count b) at (spot-bound k (keys_in inner_header child_size count b))

  -- the entry before the spot
  pub entry-before : (k s : ℕ) → s ≡ spot_of k (keys_in inner_header child_size count b) → 1 ≤ s → s - 1 < count
  entry-before k s e o = omega (arith, e, spot-within k)

  pub rising-keys_in : rising (keys (children_in count b)) ≡ true → rising (keys_in inner_header child_size count b) ≡ true
  rising-keys_in r = rw (keys-children count b) at r

  pub pick_in : (want high k s : ℕ) (d r : Place) → rising (keys (children_in count b)) ≡ true → k ≤ high → 1 ≤ s
      → s ≡ spot_of k (keys_in inner_header child_size count b) → r ≡ get_or (places_in want high (children_in count b)) (s - 1) d
      → pick k (places_in want high (children_in count b)) ≡ some r
  pick_in want high k s d r h q o e f =
      pick_at want high k s (children_in count b) d h q o (ap (spot_of k) (keys-children count b) ∙ sym e) ∙ ap some (sym f)

-- ── A page that leads on ────────────────────────────────────────────────────────────────────────────────────────

module _ (b : List ℕ) (h : Head) (k : ℕ) (l : Leads k h (view_in b)) where
  children-are : (view_in b).children ≡ children_in h.count b
  children-are =
      ap (λ (v : View). v.children) (view-inner b (λ q. inner-kind (view_in b) l.inner (kind-view b ∙ q)))
      ∙ ap (λ (n : ℕ). children_in n b) (sym (l.count ∙ count-view b))

  pub leads-kind : 1 ≤ h.kind
  leads-kind = omega (arith, l.kind, l.from)

  pub leads-room : h.count ≤ inner_room
  leads-room = omega (arith, ap length children-are, length-children b h.count, l.room)

  pub leads-rise : rising (keys (children_in h.count b)) ≡ true
  leads-rise = rw children-are at l.rise

  -- the first key is the place's low, so some key is not above
  pub leads-spot : 1 ≤ spot_of k (keys_in inner_header child_size h.count b)
  unfolding keys
  leads-spot =
      let s = starts_first h.low (view_in b).children l.starts in
      let ks = keys_in inner_header child_size h.count b in
      let q : s.0.key ∷ keys s.1 ≡ ks = ap keys (sym s.2 ∙ children-are) ∙ keys-children h.count b in
      spot-above k 0 ks (rising-keys_in b h.count leads-rise) (omega (arith, ap length q)) (omega (arith, ap (λ (xs : List ℕ). get_or xs 0 0) q, s.3, l.low))

  pub leads-places : places_below h (view_in b) ≡ places_in (h.kind - 1) h.high (children_in h.count b)
  unfolding places_below
  leads-places =
      ap (λ (n : ℕ). places_in (n - 1) h.high (view_in b).children) (sym l.kind)
      ∙ ap (places_in (h.kind - 1) h.high) children-are

-- the places below a page are those that the rules ask for at its place
pub places-kids : (e : Place) (h : Head) (v : View) → h.high ≡ e.high → places_below h v ≡ kids e v
unfolding places_below kids
places-kids e h v q = ap (λ (x : ℕ). places_in (v.kind - 1) x v.children) q
