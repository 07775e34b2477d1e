-- How deep a walk goes: the kind that a place asks for is within the levels that are left, whatever the bytes.
-- Assumes nothing.
use Prim.Native.Nat.{ℕ, suc, ◌-◌, ◌≤◌}
use native.Mathlib.Omega.{arith}
use mathlib.Core.Path.{◌≡◌, refl, ap}
use mathlib.Core.Logic.{◌⊎◌, inl, inr}
use mathlib.Core.Bool.{Bool, true, false}
use mathlib.Core.List.Memᴰ
use mathlib.Core.List.{List, [], ◌∷◌, Memᴰ}
use mathlib.Core.Option.{some, none-ne-some, some-injective}
use Rattle.rules.specs.Layout.{top_kind, leaf_kind}
use Rattle.rules.specs.Test.{mem}
use Rattle.rules.specs.Entry.{Child}
use Rattle.rules.specs.Page.{View, Page, fresh}
use Rattle.rules.specs.Table.{read}
use Rattle.rules.specs.Place.{place_of, places_in, high_before, kids, fits, mendable, mended, show}
use Rattle.rules.specs.Enter.{mend, enter}
use Rattle.rules.specs.declared.Place.{Place}
use Rattle.rules.proofs.Demand3.Ways.Kids.{shown-kind, shown-want, leaf_kids}

-- ── A page entered is what its place shows ──────────────────────────────────────────────────────────────────────

module _ (n c : ℕ) (above : List ℕ) (t : List ℕ) (e : Place) where
  pub enter-shows : (p : Page) → (enter n c above t e).page ≡ some p → show n t e ≡ some p.view
  unfolding enter mend show mended fresh
  enter-shows p h =
      go (mem e.child above) refl (fits n e (read t e.child)) refl (mendable n e (read t e.previous)) refl
    where
      go : (a : Bool) → mem e.child above ≡ a → (b : Bool) → fits n e (read t e.child) ≡ b
          → (d : Bool) → mendable n e (read t e.previous) ≡ d → show n t e ≡ some p.view
      go true m b f d g = absurd (none-ne-some p (rw (m, enter) at h))
      go false m true f d g =
          rw (f, show) (ap (λ (x : Page). some x.view) (some-injective (read t e.child) p (rw (m, enter, f) at h)))
      go false m false f true g =
          rw (f, show, g)
          (ap (λ (x : Page). some x.view)
          (some-injective (mended c e (read t e.previous)) p (rw (m, enter, f, mend, g) at h)))
      go false m false f false g = absurd (none-ne-some p (rw (m, enter, f, mend, g) at h))

-- ── Within the levels ───────────────────────────────────────────────────────────────────────────────────────────

-- any kind is asked for at the top, and below it the kind of a page, which the level reaches
abbrev pub Deep : ℕ → Place → Type 0
Deep level e = ((e.want ≡ 0) × (top_kind ≤ level)) ⊎ ((1 ≤ e.want) × (e.want ≤ level))

pub not_out : (e : Place) → Deep 0 e → ⊥
not_out e (inl d) = omega arith
not_out e (inr d) = omega arith

places-want : (want high : ℕ) (xs : List Child) (e : Place) → Memᴰ e (places_in want high xs) → e.want ≡ want
unfolding places_in place_of
places-want want high [] e m = absurd (Memᴰ.not-nil m)
places-want want high (x ∷ xs) e m = go (Memᴰ.cases_cons m) (places-want want high xs e)
  where
    go : (e ≡ place_of want (high_before high xs) x) ⊎ Memᴰ e (places_in want high xs)
        → (Memᴰ e (places_in want high xs) → e.want ≡ want) → e.want ≡ want
    go (inl q) ih = ap (λ (p : Place). p.want) q
    go (inr m) ih = ih m

-- a place below one that is within the levels
pub kid-deep : (n : ℕ) (t : List ℕ) (level : ℕ) (e : Place) (v : View) → Deep (suc level) e → show n t e ≡ some v
    → (d : Place) → Memᴰ d (kids e v) → Deep level d
unfolding kids
kid-deep n t level e v deep s d m = go deep (shown-want n t e v s)
  where
    inner : (v.kind ≡ leaf_kind) → ⊥
    inner l = Memᴰ.not-nil (rw (leaf_kids n t e v s l) at m)

    lower : d.want ≡ v.kind - 1
    lower = places-want (v.kind - 1) e.high v.children d m

    go : Deep (suc level) e → (e.want ≡ 0) ⊎ (e.want ≡ v.kind) → Deep level d
    go (inl x) w = let b = shown-kind n t e v s in inr (omega (arith, lower, b.0, inner), omega (arith, lower, b.1, x.1))
    go (inr x) (inl w) = absurd (omega (arith, x.0))
    go (inr x) (inr w) = let b = shown-kind n t e v s in inr (omega (arith, lower, b.0, inner), omega (arith, lower, x.1))
