-- Places that were passed: a page mended on the way is of a higher kind than is asked for now, or ends before the range
-- asked for now. So it neither fits nor helps. Assumes nothing.
use Prim.Native.Nat.{ℕ, ◌*◌, ◌^◌, ◌≤◌, ◌<◌}
use native.Mathlib.Omega.{arith}
use mathlib.Core.Path.{◌≡◌, refl, ap}
use mathlib.Core.Logic.{◌⊎◌, inl, inr}
use mathlib.Core.Bool.{Bool, true, false, not, ◌&&◌}
use mathlib.Core.List.{List}
use lib.ListN.{length}
use Rattle.fields.specs.Field.{Bytes}
use Rattle.rules.specs.Layout.{page_size, top_kind, most_pages}
use Rattle.rules.specs.Table.{read}
use Rattle.rules.specs.Place.{fits, mendable}
use Rattle.rules.specs.declared.Place.{Place}
use Rattle.rules.proofs.Entries.Tests.{fails, not_both}
use Rattle.rules.proofs.Entries.Places.{Fits, fits_true, Mendable, mendable_true}
use Rattle.dry.specs.Walk.{marked, keeps, helps}

-- a place that a walk comes to: the kinds of page that may stand there go up to top
pub record Asks (n top : ℕ) (e : Place) : Type 0 where
  pub range : e.low ≤ e.high
  pub from : 1 ≤ e.child
  pub child : e.child < n
  pub birth : e.birth < 256 ^ 4
  pub high : e.high < 256 ^ 8
  pub kind : (k : ℕ) → k ≤ top_kind → (e.want ≡ 0) ⊎ (e.want ≡ k) → k ≤ top

-- u comes of t by mends of marked pages alone
pub record Kept (n : ℕ) (t u : List ℕ) (m : List Bool) : Type 0 where
  pub size : length u ≡ n * page_size
  pub bytes : Bytes u
  pub marks : length m ≡ most_pages
  pub same : (i : ℕ) → marked m i ≡ false → read u i ≡ read t i
  pub still : ((i : ℕ) → marked m i ≡ false) → u ≡ t

-- each marked page is above kind k, or ends below l
pub record Passed (u : List ℕ) (m : List Bool) (k l : ℕ) : Type 0 where
  pub at : (i : ℕ) → marked m i ≡ true → (k < (read u i).view.kind) ⊎ ((read u i).high < l)

pub passed_on : {u : List ℕ} {m : List Bool} {k l k' l' : ℕ} → k' ≤ k → l ≤ l' → Passed u m k l → Passed u m k' l'
passed_on {u} {m} {k} {l} {k'} {l'} p q f = record { at = λ i h. go i (f.at i h) }
  where
    go : (i : ℕ) → (k < (read u i).view.kind) ⊎ ((read u i).high < l) → (k' < (read u i).view.kind) ⊎ ((read u i).high < l')
    go i (inl a) = inl (omega arith)
    go i (inr a) = inr (omega arith)

module _ (n top : ℕ) (u : List ℕ) (m : List Bool) (e : Place) (a : Asks n top e) (f : Passed u m top e.low) where
  passed-fits : (i : ℕ) → marked m i ≡ true → fits n e (read u i) ≡ false
  passed-fits i h = fails (fits n e (read u i)) (λ b. go (fits_true n e (read u i) b) (f.at i h))
    where
      go : Fits n e (read u i) → (top < (read u i).view.kind) ⊎ ((read u i).high < e.low) → ⊥
      go b (inl k) = omega (arith, a.kind (read u i).view.kind b.sound.kind_to b.kind)
      go b (inr k) = omega (arith, b.high, a.range)

  passed-helps : (i : ℕ) → marked m i ≡ true → mendable n e (read u i) ≡ false
  passed-helps i h = fails (mendable n e (read u i)) (λ b. go (mendable_true n e (read u i) b) (f.at i h))
    where
      go : Mendable n e (read u i) → (top < (read u i).view.kind) ⊎ ((read u i).high < e.low) → ⊥
      go b (inl k) = omega (arith, a.kind (read u i).view.kind b.sound.kind_to b.kind)
      go b (inr k) = omega (arith, b.high, a.range)

  module _ (t : List ℕ) (s : Kept n t u m) where
    -- the tests on the table as it lies are those on the table as it is mended
    pub fits-keeps : fits n e (read u e.child) ≡ keeps n t m e
    unfolding keeps
    fits-keeps = go (marked m e.child) refl
      where
        go : (b : Bool) → marked m e.child ≡ b → fits n e (read u e.child) ≡ (not b && fits n e (read t e.child))
        go true h = passed-fits e.child h
        go false h = ap (fits n e) (s.same e.child h)

    pub mendable-helps : mendable n e (read u e.previous) ≡ helps n t m e
    unfolding helps
    mendable-helps = go (marked m e.previous) refl
      where
        go : (b : Bool) → marked m e.previous ≡ b → mendable n e (read u e.previous) ≡ (not b && mendable n e (read t e.previous))
        go true h = passed-helps e.previous h
        go false h = ap (mendable n e) (s.same e.previous h)

    -- where a test passes, the page tested is as it lies
    pub read_fits : fits n e (read u e.child) ≡ true → read u e.child ≡ read t e.child
    read_fits g = s.same e.child (fails (marked m e.child) (λ h. not_both g (passed-fits e.child h)))

    pub read-helps : mendable n e (read u e.previous) ≡ true → read u e.previous ≡ read t e.previous
    read-helps g = s.same e.previous (fails (marked m e.previous) (λ h. not_both g (passed-helps e.previous h)))
