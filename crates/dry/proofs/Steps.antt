-- The ways of one step of the dry walk, by the source of its place. Assumes nothing.
use Prim.Native.Nat.{ℕ, zero, suc, ◌≤◌}
use mathlib.Core.Path.{◌≡◌, refl, ap, sym, ◌∙◌}
use mathlib.Core.Bool.{Bool, true, false}
use mathlib.Core.List.{List, [], ◌∷◌}
use Rattle.std.specs.Prelude.{Some, None}
use Rattle.rules.specs.Table.{read}
use Rattle.rules.specs.Place.{kids, cut_view}
use Rattle.rules.specs.declared.Asked.{Asked}
use Rattle.rules.specs.declared.Place.{Place}
use Rattle.dry.specs.Walk.{Sighted, sighted, meets, takes, breaks, dry_each, dry}
use Rattle.dry.specs.Source.{source, marked_by}
use Rattle.dry.proofs.Meets.{meets-broken, meets-full}
use Rattle.dry.proofs.Sources.{sight-source, sight-damaged}
use lib.ListN.{length}

module _ (n : ℕ) (a : Asked) (parent top : ℕ) (t : List ℕ) (e : Place) (d : Sighted) where
  -- the place is not asked for
  pub step-passes : (level : ℕ) → meets a e d ≡ false → dry (suc level) n a parent top t e d ≡ d
  unfolding dry
  step-passes level m = rw (dry, m)

  pub step-damaged : (level : ℕ) → meets a e d ≡ true → source n (parent ∷ top ∷ []) t d.mended e ≡ None
      → dry (suc level) n a parent top t e d ≡ breaks d
  unfolding dry
  step-damaged level m s = rw (dry, m, sight-damaged n (parent ∷ top ∷ []) t d.mended e s)

  -- its source's entries in its range, one level lower
  pub step-goes : (level i : ℕ) → meets a e d ≡ true → source n (parent ∷ top ∷ []) t d.mended e ≡ Some i
      → dry (suc level) n a parent top t e d
      ≡ dry_each (dry level n a e.child parent t) (kids e (cut_view e.low e.high (read t i).view))
      (takes a (cut_view e.low e.high (read t i).view) d (marked_by i e d.mended))
  unfolding dry
  step-goes level i m s = rw (dry, m, sight-source n (parent ∷ top ∷ []) t d.mended e i s)

-- ── Where nothing changes ───────────────────────────────────────────────────────────────────────────────────────

module _ (n : ℕ) (a : Asked) (parent top : ℕ) (t : List ℕ) where
  -- behind damage
  pub dry_halts : (level : ℕ) (e : Place) (d : Sighted) → d.whole ≡ false → dry level n a parent top t e d ≡ d
  unfolding dry breaks
  dry_halts zero e d h = ap (λ (b : Bool). sighted b d.found d.mended) (sym h)
  dry_halts (suc level) e d h = step-passes n a parent top t e d level (meets-broken a e d h)

  -- and where there is no room
  pub dry-full : (level : ℕ) (e : Place) (d : Sighted) → a.room ≤ length d.found → dry (suc level) n a parent top t e d ≡ d
  dry-full level e d h = step-passes n a parent top t e d level (meets-full a e d h)

pub each_same : (f : Place → Sighted → Sighted) (d : Sighted) → ((e : Place) → f e d ≡ d) → (es : List Place) → dry_each f es d ≡ d
unfolding dry_each
each_same f d k [] = refl
each_same f d k (e ∷ es) = ap (dry_each f es) (k e) ∙ each_same f d k es
