-- Where a walk begins and where it ends. Assumes nothing.
use Prim.Native.Nat.{ℕ, ◌+◌, ◌≤◌, ◌<◌}
use native.Mathlib.Omega.{arith}
use mathlib.Core.Path.{◌≡◌, refl, ap}
use mathlib.Core.Bool.{Bool, true, false}
use mathlib.Core.List.{List, []}
use lib.ListN.{length}
use borrow.Author.Tests.{lt-ltb, le-ltb}
use Rattle.rules.specs.Place.{root_place}
use Rattle.rules.specs.Walk.{Walked, unwalked, walk_of}
use Rattle.rules.specs.declared.Asked.{Asked}
use Rattle.rules.proofs.Entries.Tests.{not_both}
use Rattle.rules.proofs.Demand1.WalkSteps.{walk-past}
use Rattle.climbs.specs.Rest.{rest}
use Rattle.climbs.specs.After.{after}
use Rattle.climbs.proofs.Steps.{Enters, enters_not}

-- ── What is asked for behind a leaf ─────────────────────────────────────────────────────────────────────────────

pub after_more : (end : ℕ) (a : Asked) → end < a.high → after end a ≡ record { low = end + 1; high = a.high; room = a.room }
unfolding after
after_more end a h =
    ap (λ (b : Bool). record { low = end + 1; high = a.high; room = elim b [ true ↦ a.room | false ↦ 0 ] }) (lt-ltb end a.high h)

pub after_none : (end : ℕ) (a : Asked) → a.high ≤ end → (after end a).room ≡ 0
unfolding after
after_none end a h = ap (λ (b : Bool). elim b [ true ↦ a.room | false ↦ 0 ]) (le-ltb end a.high h)

-- ── The walk ────────────────────────────────────────────────────────────────────────────────────────────────────

pub rest-begins : (n c : ℕ) (a : Asked) (t : List ℕ) → walk_of n c a t ≡ rest n c a (unwalked t)
unfolding walk_of rest
rest-begins n c a t = refl

-- what is not entered at the root is not walked
rest-past : (n c : ℕ) (a : Asked) (w : Walked) → (Enters a (root_place w.table) w → ⊥) → rest n c a w ≡ w
unfolding rest
rest-past n c a w h = walk-past 2 n c a [] (root_place w.table) w (enters_not a (root_place w.table) w h)

pub rest-full : (n c : ℕ) (a : Asked) (w : Walked) → a.room ≤ length w.found → rest n c a w ≡ w
rest-full n c a w h = rest-past n c a w (λ x. omega (arith, x.room))

pub rest-stopped : (n c : ℕ) (a : Asked) (w : Walked) → w.whole ≡ false → rest n c a w ≡ w
rest-stopped n c a w h = rest-past n c a w (λ x. not_both x.whole h)

-- the range has ended
pub rest_ended : (n c end : ℕ) (a : Asked) (w : Walked) → a.high ≤ end → rest n c (after end a) w ≡ w
rest_ended n c end a w h = rest-full n c (after end a) w (omega (arith, after_none end a h))
