-- Climbing from the root to one leaf after the other leaves, finds and reports what the walk over the range does: table,
-- damage, certificates and what was mended. Each climb begins behind the last leaf, so the keys left bound the turns. Assumes nothing.
use Prim.Native.Nat.{ℕ, zero, suc, ◌+◌, ◌-◌, ◌≤◌}
use native.Mathlib.Omega.{arith}
use mathlib.Core.Path.{◌≡◌, refl, sym, ◌∙◌}
use mathlib.Core.Logic.{◌⊎◌, inl, inr}
use mathlib.Core.Bool.{Bool, true, false}
use mathlib.Core.List.{List, [], ◌∷◌}
use mathlib.Core.Option.{Option, some, none}
use lib.Dec.{ltb}
use lib.ListN.{length}
use borrow.Author.Tests.{ltb-true, ltb-false}
use Rattle.rules.specs.Layout.{last_key}
use Rattle.rules.specs.Walk.{Step, Way, way_of, way_report, Walked, unwalked, reporting, finds, stops, walk_of}
use Rattle.rules.specs.declared.Asked.{Asked}
use Rattle.climbs.specs.Rest.{rest}
use Rattle.climbs.specs.After.{after}
use Rattle.climbs.specs.Ground.{Ground, Asks}
use Rattle.climbs.specs.Leaves.{passes, leaves}
use Rattle.climbs.proofs.Ground.{way-ground, leaf-range, no_way-empty}
use Rattle.climbs.proofs.Climb.{climb_leaf, climb_damaged}
use Rattle.climbs.proofs.Ends.{after_none, rest-begins, rest-full}

-- a range is left, or room for nothing
abbrev Left : Asked → Type 0
Left a = (a.low ≤ a.high) ⊎ (a.room ≡ 0)

after-left : (end : ℕ) (a : Asked) → Left (after end a)
unfolding after
after-left end a = go (ltb end a.high) refl
  where
    go : (b : Bool) → ltb end a.high ≡ b → Left (after end a)
    go true h = inl (omega (arith, ltb-true end a.high h))
    go false h = inr (after_none end a (ltb-false end a.high h))

-- ── One turn ────────────────────────────────────────────────────────────────────────────────────────────────────

module _ (turns n c : ℕ) (a : Asked) (w : Walked) where
  -- with what the climb mended
  abbrev told : Walked
  told = reporting (way_report n c a.low w.table w.report) w

  turn-full : ltb (length w.found) a.room ≡ false → leaves (suc turns) n c a w ≡ w
  unfolding leaves
  turn-full h = rw (leaves, h)

  module _ (h : ltb (length w.found) a.room ≡ true) where
    turn-damaged : (way_of n c a.low w.table).steps ≡ none
        → leaves (suc turns) n c a w ≡ stops told (way_of n c a.low w.table).table
    unfolding leaves
    turn-damaged q = rw (leaves, h, q)

    turn-leaf : (leaf : Step) (above : List Step) → (way_of n c a.low w.table).steps ≡ some (leaf ∷ above)
        → leaves (suc turns) n c a w
        ≡ leaves turns n c (after leaf.place.high a) (finds a leaf.page.view told (way_of n c a.low w.table).table)
    unfolding leaves passes
    turn-leaf leaf above q = rw (leaves, h, q)

-- ── All turns ───────────────────────────────────────────────────────────────────────────────────────────────────

leaves-rest : (turns n c : ℕ) (a : Asked) (w : Walked) → Ground n c w.table → w.whole ≡ true → a.high ≤ last_key → Left a
    → a.high + 1 ≤ a.low + turns → leaves turns n c a w ≡ rest n c a w
unfolding leaves finds after
leaves-rest zero n c a w g x m l o = sym (rest-full n c a w (go l))
  where
    go : Left a → a.room ≤ length w.found
    go (inl q) = absurd (omega arith)
    go (inr q) = omega arith
leaves-rest (suc turns) n c a w g x m l o =
    turn (ltb (length w.found) a.room) refl
    (λ b v. leaves-rest turns n c b v)
  where
    way : Way
    way = way_of n c a.low w.table

    Rest : Type 0
    Rest = (b : Asked) (v : Walked) → Ground n c v.table → v.whole ≡ true → b.high ≤ last_key → Left b
        → b.high + 1 ≤ b.low + turns → leaves turns n c b v ≡ rest n c b v

    asks : ltb (length w.found) a.room ≡ true → Left a → Asks a w
    asks h (inl q) = record { low = q; high = m; whole = x; room = ltb-true (length w.found) a.room h }
    asks h (inr q) = absurd (let z = ltb-true (length w.found) a.room h in omega arith)

    climb : ltb (length w.found) a.room ≡ true → Asks a w → (i : Option (List Step)) → way.steps ≡ i → Rest
        → leaves (suc turns) n c a w ≡ rest n c a w
    climb h y none q ih = turn-damaged turns n c a w h q ∙ sym (climb_damaged g y q)
    climb h y (some []) q ih = absurd (no_way-empty g a.low (omega (arith, y.low)) q)
    climb h y (some (leaf ∷ above)) q ih =
        let k : a.low ≤ last_key = omega (arith, y.low) in
        let z = leaf-range g a.low k leaf above q in
        turn-leaf turns n c a w h leaf above q
        ∙ (behind ih leaf z.1 (way-ground g a.low k)
        ∙ sym (climb_leaf g y leaf above q))
      where
        behind : Rest → (leaf : Step) → a.low ≤ leaf.place.high → Ground n c way.table
            → leaves turns n c (after leaf.place.high a) (finds a leaf.page.view (told turns n c a w) way.table)
            ≡ rest n c (after leaf.place.high a) (finds a leaf.page.view (told turns n c a w) way.table)
        behind ih leaf z f =
            ih (after leaf.place.high a) (finds a leaf.page.view (told turns n c a w) way.table) f refl m
            (after-left leaf.place.high a) (omega arith)

    turn : (b : Bool) → ltb (length w.found) a.room ≡ b → Rest → leaves (suc turns) n c a w ≡ rest n c a w
    turn false h ih = turn-full turns n c a w h ∙ sym (rest-full n c a w (ltb-false (length w.found) a.room h))
    turn true h ih = climb h (asks h l) way.steps refl ih

pub leaves-walk : (n c : ℕ) (a : Asked) (t : List ℕ) → Ground n c t → a.low ≤ a.high → a.high ≤ last_key
    → leaves (a.high + 1 - a.low) n c a (unwalked t) ≡ walk_of n c a t
leaves-walk n c a t g l m =
    leaves-rest (a.high + 1 - a.low) n c a (unwalked t) g refl m (inl l) (omega arith) ∙ sym (rest-begins n c a t)
