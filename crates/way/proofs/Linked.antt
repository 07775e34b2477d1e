-- The pages of a way hang together: each was asked for by the page above it, is none of those above, and its previous
-- page is in the table. There are at most as many as there are levels. Assumes nothing.
use Prim.Native.Nat.{ℕ, zero, suc, ◌+◌, ◌*◌, ◌^◌, ◌≤◌, ◌<◌}
use native.Mathlib.Omega.{arith}
use mathlib.Core.Path.{◌≡◌, refl, ap, subst}
use mathlib.Core.Bool.{Bool, true, false}
use mathlib.Core.List.{List, [], ◌∷◌}
use mathlib.Core.Option.{Option, some, none, some-injective, none-ne-some}
use borrow.Author.Tests.{ltb-true}
use lib.ListN.{length}
use Rattle.fields.specs.Field.{Bytes}
use Rattle.rules.specs.Layout.{page_size, last_key}
use Rattle.rules.specs.Test.{mem}
use Rattle.rules.specs.Page.{Page}
use Rattle.rules.specs.Table.{previous0, fit0}
use Rattle.rules.specs.Place.{root_place, kids, pick}
use Rattle.rules.specs.Enter as entry
use Rattle.rules.specs.Walk.{Step, numbers, descend, way_of}
use Rattle.rules.specs.declared.Place.{Place}
use Rattle.rules.proofs.Entries.Tests.{every_true}
use Rattle.rules.proofs.Entries.Asks.{kids-pick, kids-names}
use Rattle.way.proofs.Stood.{Ready, ready-root, ready-next, stood-here}

-- a place is asked for by the first page above it, or it is the root's
abbrev pub AskedBy : ℕ → Place → List Step → Type 0
AskedBy k e [] = (e.low ≡ 0) × (e.high ≡ last_key)
AskedBy k e (u ∷ above) = pick k (kids u.place u.page.view) ≡ some e

pub record Linked (n k : ℕ) (s : Step) (above : List Step) : Type 0 where
  pub previous : s.place.previous < n
  pub apart : mem s.place.child (numbers above) ≡ false
  pub asked : AskedBy k s.place above

abbrev pub AllLinked : ℕ → ℕ → List Step → Type 0
AllLinked n k [] = Unit {0}
AllLinked n k (s ∷ above) = Linked n k s above × AllLinked n k above

-- ── One place ───────────────────────────────────────────────────────────────────────────────────────────────────

-- a page above is never entered again
enter-apart : (n c : ℕ) (above t : List ℕ) (e : Place) (p : Page) → (entry.enter n c above t e).page ≡ some p
    → mem e.child above ≡ false
unfolding entry.enter
enter-apart n c above t e p h = go (mem e.child above) refl
  where
    go : (b : Bool) → mem e.child above ≡ b → mem e.child above ≡ false
    go true q = absurd (none-ne-some p (rw (entry.enter, q) at h))
    go false q = q

root_previous_lem : (n : ℕ) (t : List ℕ) → fit0 n t ≡ true → (root_place t).previous < n
unfolding fit0 root_place
root_previous_lem n t f = ltb-true (previous0 t) n (every_true _ f).1.1.1.0

-- ── The whole way ───────────────────────────────────────────────────────────────────────────────────────────────

pub record WayLinked (n k level : ℕ) (steps : List Step) : Type 0 where
  pub linked : AllLinked n k steps
  pub short : length steps ≤ level

-- a way from a place one level lower
abbrev Deeper : ℕ → ℕ → ℕ → ℕ → List ℕ → Type 0
Deeper level n c k u =
    (above : List Step) (e : Place) → Ready n c k u e → e.previous < n → AskedBy k e above → AllLinked n k above → (steps : List Step)
    → (descend level n c k above u e).steps ≡ some steps → WayLinked n k (level + length above) steps

descend-linked : (level n c k : ℕ) (above : List Step) (t : List ℕ) (e : Place) → Ready n c k t e → e.previous < n → AskedBy k e above
    → AllLinked n k above → (steps : List Step) → (descend level n c k above t e).steps ≡ some steps
    → WayLinked n k (level + length above) steps
unfolding descend
descend-linked zero n c k above t e r i a l steps h = absurd (none-ne-some steps h)
descend-linked (suc level) n c k above t e r i a l steps h =
    found (entry.enter n c (numbers above) t e).page refl (λ ss b. descend-linked level n c k ss (entry.enter n c (numbers above) t e).table b)
  where
    u : List ℕ
    u = (entry.enter n c (numbers above) t e).table

    here : (p : Page) → (entry.enter n c (numbers above) t e).page ≡ some p → AllLinked n k (record { place = e; page = p } ∷ above)
    here p f = (record { previous = i; apart = enter-apart n c (numbers above) t e p f; asked = a }, l)

    below : (p : Page) → (entry.enter n c (numbers above) t e).page ≡ some p → (o : Option Place) → pick k (kids e p.view) ≡ o
        → Deeper level n c k u → WayLinked n k (suc level + length above) steps
    below p f none q ih =
        let g = some-injective (record { place = e; page = p } ∷ above) steps (rw (descend, f, q) at h) in
        record { linked = subst (AllLinked n k) g (here p f); short = omega (arith, ap length g) }
    below p f (some b) q ih =
        let s = (stood-here r (numbers above) p f).fits.sound in
        let m = kids-names e s b (kids-pick e s k b q) in
        let z = ih (record { place = e; page = p } ∷ above) b (ready-next r (numbers above) p f b q) m.previous_below q (here p f) steps
        (rw (descend, f, q) at h) in
        record { linked = z.linked; short = omega (arith, z.short) }

    found : (o : Option Page) → (entry.enter n c (numbers above) t e).page ≡ o → Deeper level n c k u → WayLinked n k (suc level + length above) steps
    found none f ih = absurd (none-ne-some steps (rw (descend, f) at h))
    found (some p) f ih = below p f (pick k (kids e p.view)) refl ih

pub way-linked : (n c k : ℕ) (t : List ℕ) → length t ≡ n * page_size → fit0 n t ≡ true → Bytes t → c < 256 ^ 4 → k ≤ last_key
    → (steps : List Step) → (way_of n c k t).steps ≡ some steps → WayLinked n k 3 steps
unfolding way_of root_place
way-linked n c k t l f b m h steps q =
    descend-linked 3 n c k [] t (root_place t) (ready-root n c k t l f b m h) (root_previous_lem n t f) (refl, refl) tt steps q
