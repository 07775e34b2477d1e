-- Whether a place is entered, test by test. Assumes nothing.
use Prim.Native.Nat.{◌≤◌, ◌<◌}
use mathlib.Core.Path.{◌≡◌, refl, sym}
use mathlib.Core.Bool.{Bool, true, false, ◌&&◌}
use mathlib.Core.List.{List}
use lib.Dec.{leb}
use lib.ListN.{length}
use borrow.Author.Tests.{lt-ltb, le-leb, lt-leb, ltb-true}
use native.Mathlib.Omega.{arith}
use Rattle.rules.specs.Test.{every}
use Rattle.rules.specs.Entry.{Cert}
use Rattle.rules.specs.declared.Asked.{Asked}
use Rattle.rules.specs.declared.Place.{Place}
use Rattle.rules.proofs.Entries.Tests.{fails, not_both, every_true}
use Rattle.dry.specs.Walk.{Sighted, sighted, meets}
use Rattle.dry.specs.Cursor.{in_reach}

module _ (a : Asked) (e : Place) where
  pub reach_behind : a.high < e.low → false ≡ in_reach a e
  unfolding in_reach
  reach_behind h = sym (rw (in_reach, lt-leb e.low a.high h))

  pub reach_last : e.low ≤ a.high → leb a.low e.high ≡ in_reach a e
  unfolding in_reach
  reach_last h = sym (rw (in_reach, le-leb e.low a.high h))

  pub meets-broken : (d : Sighted) → d.whole ≡ false → meets a e d ≡ false
  unfolding meets
  meets-broken d h = fails (meets a e d) (λ m. not_both (every_true _ m).0 h)

  pub meets-full : (d : Sighted) → a.room ≤ length d.found → meets a e d ≡ false
  unfolding meets
  meets-full d h = fails (meets a e d) (λ m. omega (arith, ltb-true (length d.found) a.room (every_true _ m).1.0))

  -- while there is room and nothing was damaged, its range decides
  pub meets_reach : (found : List Cert) (m : List Bool) → length found < a.room → meets a e (sighted true found m) ≡ in_reach a e
  unfolding meets in_reach every
  meets_reach found m h = rw (meets, lt-ltb (length found) a.room h, every) (last (leb e.low a.high) (leb a.low e.high))
    where
      last : (b d : Bool) → (b && (d && true)) ≡ (b && d)
      last true true = refl
      last true false = refl
      last false d = refl
