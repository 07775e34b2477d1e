-- The rules' split reads as many numbers as there are new pages, and no more. Assumes nothing.
use Prim.Native.Nat.{ℕ, ◌+◌, ◌<◌}
use native.Mathlib.Omega.{arith}
use mathlib.Core.Path.{◌≡◌, refl, sym, ◌∙◌}
use mathlib.Core.Bool.{Bool, true, false}
use mathlib.Core.List.{List, [], ◌∷◌}
use lib.ListN.{take, drop, get_or}
use lib.Seq.{get_or-drop, get_or-take}
use Rattle.rules.specs.Walk.{Step}
use Rattle.rules.specs.Insert.{full, new_pages, Making, split}
use Rattle.rules.proofs.Demand3.Steps.Plans.{new_pages-full, new_pages-none}
use Rattle.rules.proofs.Demand3.Steps.SplitWay.{split_one, split-more}

-- two lists have the same first numbers
abbrev pub Agree : ℕ → List ℕ → List ℕ → Type 0
Agree m a b = (j : ℕ) → j < m → get_or a j 0 ≡ get_or b j 0

pub agree-take : (m : ℕ) (a : List ℕ) → Agree m (take m a) a
agree-take m a j h = get_or-take m a j 0 h

pub agree-drop : (m : ℕ) (a b : List ℕ) → Agree (2 + m) a b → Agree m (drop 2 a) (drop 2 b)
agree-drop m a b h j l = get_or-drop 2 a j 0 ∙ (h (2 + j) (omega arith) ∙ sym (get_or-drop 2 b j 0))

split_idle : (c k : ℕ) (s : Step) (above : List Step) (a b : List ℕ) (m : Making) → full s.page.view ≡ false
    → split c k (s ∷ above) a m ≡ split c k (s ∷ above) b m
unfolding split
split_idle c k s [] a b m f = rw (f, split)
split_idle c k s (u ∷ above) a b m f = rw (f, split)

pub split-same : (c k : ℕ) (steps : List Step) (a b : List ℕ) (m : Making) → Agree (new_pages steps) a b
    → split c k steps a m ≡ split c k steps b m
unfolding split
split-same c k [] a b m h = refl
split-same c k (s ∷ []) a b m h = go (full s.page.view) refl
  where
    go : (f : Bool) → full s.page.view ≡ f → split c k (s ∷ []) a m ≡ split c k (s ∷ []) b m
    go false f = split_idle c k s [] a b m f
    go true f =
        let q = new_pages-full s [] f in
        let h₀ = h 0 (omega (arith, new_pages-none)) in
        let h₁ = h 1 (omega (arith, new_pages-none)) in
        let h₂ = h 2 (omega (arith, new_pages-none)) in
        split_one c k s a m f ∙ (rw (h₀, h₁, h₂) (sym (split_one c k s b m f)))
split-same c k (s ∷ (u ∷ above)) a b m h = go (full s.page.view) refl (split-same c k (u ∷ above) (drop 2 a) (drop 2 b) m)
  where
    go : (f : Bool) → full s.page.view ≡ f
        → (Agree (new_pages (u ∷ above)) (drop 2 a) (drop 2 b) → split c k (u ∷ above) (drop 2 a) m ≡ split c k (u ∷ above) (drop 2 b) m)
        → split c k (s ∷ (u ∷ above)) a m ≡ split c k (s ∷ (u ∷ above)) b m
    go false f ih = split_idle c k s (u ∷ above) a b m f
    go true f ih =
        let q = new_pages-full s (u ∷ above) f in
        let h₀ = h 0 (omega arith) in
        let h₁ = h 1 (omega arith) in
        let up = ih (agree-drop (new_pages (u ∷ above)) a b (λ j l. h j (omega arith))) in
        split-more c k s u above a m f ∙ (rw (h₀, h₁, up) (sym (split-more c k s u above b m f)))
