-- What splits down a way do to the session's marks: the numbers taken are free no longer, and no mark moves but theirs and those
-- of the way's pages.
use Prim.Native.Nat.{ℕ, ◌≤◌}
use native.Mathlib.Omega.{arith}
use mathlib.Core.Path.{◌≡◌, refl, sym, ◌∙◌, subst}
use mathlib.Core.Logic.{◌⊎◌, inl, inr, ◌≢◌}
use mathlib.Core.Bool.{Bool, true, false, ◌&&◌}
use mathlib.Core.List.{List, [], ◌∷◌}
use lib.Dec.{eqb}
use lib.ListN.{length, drop, get_or}
use borrow.Author.Tests.{eqb-true, eqb-false}
use Rattle.rules.specs.Test.{mem}
use Rattle.rules.specs.Walk.{Step, numbers}
use Rattle.rules.specs.Marks.{taken, free_pages}
use Rattle.rules.specs.Insert.{full, new_pages, heirs, retire, Making, making, grow, halve, split, insert_done}
use Rattle.rules.specs.declared.Session.{Session}
use Rattle.rules.proofs.Entries.Tests.{mem-nil, mem_cases}
use Rattle.rules.proofs.Demand3.Steps.Retire.{retire-n, retire-c}
use Rattle.rules.proofs.Bytes.Marked.{free-taken-same, free-taken-other, free-freed-other, waiting-waits-other}
use Rattle.rules.proofs.Demand3.Steps.SplitWay.{split_one, split-more, split-none}
use Rattle.apply.proofs.Going.{mem-rest, mem_not}
use Rattle.reading.specs.Inserting.{SameMarks}
use Rattle.reading.proofs.Splitting.{pages-root, pages-stay, pages-below}

abbrev free_at : Session → ℕ → Bool
free_at s i = get_or s.free i false

-- ── One page ────────────────────────────────────────────────────────────────────────────────────────────────────

same-same : {s : Session} {i : ℕ} → SameMarks s s i
same-same = record { free = refl; waiting = refl }

same_then : {s m r : Session} {i : ℕ} → SameMarks s m i → SameMarks m r i → SameMarks s r i
same_then x y = record { free = y.free ∙ x.free; waiting = y.waiting ∙ x.waiting }

taken-other : (s : Session) (j i : ℕ) → i ≢ j → SameMarks s (taken j s) i
taken-other s j i d = record { free = free-taken-other s j i d; waiting = refl }

-- what is not free stays so when another is taken
taken-still : (s : Session) (j i : ℕ) → free_at s i ≡ false → free_at (taken j s) i ≡ false
taken-still s j i h = go (eqb i j) refl
  where
    go : (b : Bool) → eqb i j ≡ b → free_at (taken j s) i ≡ false
    go true e = subst (λ (a : ℕ). free_at (taken j s) a ≡ false) (sym (eqb-true i j e)) (free-taken-same s j)
    go false e = free-taken-other s j i (eqb-false i j e) ∙ h

retire-other : (c : ℕ) (s : Step) (m : Session) (i : ℕ) → i ≢ s.place.child → SameMarks m (retire c s m) i
unfolding retire
retire-other c s m i d = go (heirs c s && eqb s.page.birth c) refl
  where
    go : (b : Bool) → (heirs c s && eqb s.page.birth c) ≡ b → SameMarks m (retire c s m) i
    go true e = rw (e, retire) (record { free = free-freed-other m s.place.child i d; waiting = refl })
    go false e = rw (e, retire) (record { free = refl; waiting = waiting-waits-other m s.place.child i d })

-- ── One page halved ─────────────────────────────────────────────────────────────────────────────────────────────

module _ (c k : ℕ) (s : Step) (a b : ℕ) (M : Making) (i : ℕ) (d : i ≢ s.place.child) where
  halve-marks : i ≢ a → i ≢ b → SameMarks M.session (halve c k s a b M).session i
  unfolding halve
  halve-marks x y =
      same_then (taken-other M.session a i x)
      (same_then (taken-other (taken a M.session) b i y) (retire-other c s (taken b (taken a M.session)) i d))

  halve-lower : i ≡ a → free_at (halve c k s a b M).session i ≡ false
  unfolding halve
  halve-lower e =
      (retire-other c s (taken b (taken a M.session)) i d).free
      ∙ taken-still (taken a M.session) b i
      (subst (λ (j : ℕ). free_at (taken a M.session) j ≡ false) (sym e) (free-taken-same M.session a))

  halve-upper : i ≡ b → free_at (halve c k s a b M).session i ≡ false
  unfolding halve
  halve-upper e =
      (retire-other c s (taken b (taken a M.session)) i d).free
      ∙ subst (λ (j : ℕ). free_at (taken b (taken a M.session)) j ≡ false) (sym e) (free-taken-same (taken a M.session) b)

  halve-still : free_at M.session i ≡ false → free_at (halve c k s a b M).session i ≡ false
  unfolding halve
  halve-still h =
      (retire-other c s (taken b (taken a M.session)) i d).free
      ∙ taken-still (taken a M.session) b i (taken-still M.session a i h)

-- ── Marks that do not move ──────────────────────────────────────────────────────────────────────────────────────

module _ (c k : ℕ) (t : List ℕ) (m : Session) (i : ℕ) where
  stay-marks : (s : Step) (above : List Step) (ns : List ℕ) → full s.page.view ≡ false
      → SameMarks m (split c k (s ∷ above) ns (making t m 0)).session i
  stay-marks s above ns f = subst (λ (y : Making). SameMarks m y.session i) (sym (split-none c k s above ns (making t m 0) f)) same-same

  pub split-marks : (s : Step) (above : List Step) (new : List ℕ) → new_pages (s ∷ above) ≤ length new → mem i (numbers (s ∷ above)) ≡ false
      → mem i new ≡ false → SameMarks m (split c k (s ∷ above) new (making t m 0)).session i
  unfolding numbers grow
  split-marks s [] new e z r = go new e r (full s.page.view) refl
    where
      go : (ns : List ℕ) → new_pages (s ∷ []) ≤ length ns → mem i ns ≡ false → (b : Bool) → full s.page.view ≡ b
          → SameMarks m (split c k (s ∷ []) ns (making t m 0)).session i
      go ns e r false f = stay-marks s [] ns f
      go [] e r true f = absurd (omega (arith, e, pages-root s f))
      go (a ∷ []) e r true f = absurd (omega (arith, e, pages-root s f))
      go (a ∷ (b ∷ [])) e r true f = absurd (omega (arith, e, pages-root s f))
      go (a ∷ (b ∷ (g ∷ ns))) e r true f =
          let r₁ = mem-rest i a (b ∷ (g ∷ ns)) r in
          subst (λ (y : Making). SameMarks m y.session i) (sym (split_one c k s (a ∷ (b ∷ (g ∷ ns))) (making t m 0) f))
          (same_then (taken-other m g i (mem_not i g ns (mem-rest i b (g ∷ ns) r₁)))
          (halve-marks c k s a b (grow c s g (making t m 0)) i (mem_not i s.place.child [] z)
          (mem_not i a (b ∷ (g ∷ ns)) r) (mem_not i b (g ∷ ns) r₁)))
  split-marks s (u ∷ above) new e z r = go new e r (full s.page.view) refl (split-marks u above)
    where
      Rest : Type 0
      Rest = (ns : List ℕ) → new_pages (u ∷ above) ≤ length ns → mem i (numbers (u ∷ above)) ≡ false → mem i ns ≡ false
          → SameMarks m (split c k (u ∷ above) ns (making t m 0)).session i

      go : (ns : List ℕ) → new_pages (s ∷ (u ∷ above)) ≤ length ns → mem i ns ≡ false → (b : Bool) → full s.page.view ≡ b → Rest
          → SameMarks m (split c k (s ∷ (u ∷ above)) ns (making t m 0)).session i
      go ns e r false f ih = stay-marks s (u ∷ above) ns f
      go [] e r true f ih = absurd (omega (arith, e, pages-below s (u ∷ above) f))
      go (a ∷ []) e r true f ih = absurd (omega (arith, e, pages-below s (u ∷ above) f))
      go (a ∷ (b ∷ ns)) e r true f ih =
          let r₁ = mem-rest i a (b ∷ ns) r in
          subst (λ (y : Making). SameMarks m y.session i) (sym (split-more c k s u above (a ∷ (b ∷ ns)) (making t m 0) f))
          (same_then
          (ih ns (omega (arith, e, pages-below s (u ∷ above) f)) (mem-rest i s.place.child (numbers (u ∷ above)) z) (mem-rest i b ns r₁))
          (halve-marks c k s a b (split c k (u ∷ above) ns (making t m 0)) i (mem_not i s.place.child (numbers (u ∷ above)) z)
          (mem_not i a (b ∷ ns) r) (mem_not i b ns r₁)))

-- ── The numbers taken ───────────────────────────────────────────────────────────────────────────────────────────

module _ (c k : ℕ) (t : List ℕ) (m : Session) (i : ℕ) where
  -- new has as many numbers as are needed
  pub split-taken : (s : Step) (above : List Step) (new : List ℕ) → length new ≡ new_pages (s ∷ above) → mem i (numbers (s ∷ above)) ≡ false
      → mem i new ≡ true → free_at (split c k (s ∷ above) new (making t m 0)).session i ≡ false
  unfolding numbers grow
  split-taken s [] new e z r = go new e r (full s.page.view) refl
    where
      Goal : Making → Type 0
      Goal y = free_at y.session i ≡ false

      d : i ≢ s.place.child
      d = mem_not i s.place.child [] z

      root : (a b g : ℕ) → (i ≡ a) ⊎ ((i ≡ b) ⊎ (i ≡ g)) → Goal (halve c k s a b (grow c s g (making t m 0)))
      root a b g (inl q) = halve-lower c k s a b (grow c s g (making t m 0)) i d q
      root a b g (inr (inl q)) = halve-upper c k s a b (grow c s g (making t m 0)) i d q
      root a b g (inr (inr q)) =
          halve-still c k s a b (grow c s g (making t m 0)) i d
          (subst (λ (j : ℕ). free_at (taken g m) j ≡ false) (sym q) (free-taken-same m g))

      which₁ : (g : ℕ) → mem i (g ∷ []) ≡ true → i ≡ g
      which₁ g r = pick (mem_cases i g [] r)
        where
          pick : (i ≡ g) ⊎ (mem i [] ≡ true) → i ≡ g
          pick (inl q) = q
          pick (inr q) = absurd (mem-nil i q)

      which : (a b g : ℕ) → mem i (a ∷ (b ∷ (g ∷ []))) ≡ true → (i ≡ a) ⊎ ((i ≡ b) ⊎ (i ≡ g))
      which a b g r = pick (mem_cases i a (b ∷ (g ∷ [])) r)
        where
          then : (i ≡ b) ⊎ (mem i (g ∷ []) ≡ true) → (i ≡ a) ⊎ ((i ≡ b) ⊎ (i ≡ g))
          then (inl q) = inr (inl q)
          then (inr q) = inr (inr (which₁ g q))

          pick : (i ≡ a) ⊎ (mem i (b ∷ (g ∷ [])) ≡ true) → (i ≡ a) ⊎ ((i ≡ b) ⊎ (i ≡ g))
          pick (inl q) = inl q
          pick (inr q) = then (mem_cases i b (g ∷ []) q)

      go : (ns : List ℕ) → length ns ≡ new_pages (s ∷ []) → mem i ns ≡ true → (b : Bool) → full s.page.view ≡ b
          → Goal (split c k (s ∷ []) ns (making t m 0))
      go [] e r b f = absurd (mem-nil i r)
      go (a ∷ ns) e r false f = absurd (omega (arith, e, pages-stay s [] f))
      go (a ∷ []) e r true f = absurd (omega (arith, e, pages-root s f))
      go (a ∷ (b ∷ [])) e r true f = absurd (omega (arith, e, pages-root s f))
      go (a ∷ (b ∷ (g ∷ []))) e r true f =
          subst Goal (sym (split_one c k s (a ∷ (b ∷ (g ∷ []))) (making t m 0) f)) (root a b g (which a b g r))
      go (a ∷ (b ∷ (g ∷ (h ∷ ns)))) e r true f = absurd (omega (arith, e, pages-root s f))
  split-taken s (u ∷ above) new e z r = go new e r (full s.page.view) refl (split-taken u above)
    where
      Goal : Making → Type 0
      Goal y = free_at y.session i ≡ false

      Rest : Type 0
      Rest = (ns : List ℕ) → length ns ≡ new_pages (u ∷ above) → mem i (numbers (u ∷ above)) ≡ false → mem i ns ≡ true
          → free_at (split c k (u ∷ above) ns (making t m 0)).session i ≡ false

      d : i ≢ s.place.child
      d = mem_not i s.place.child (numbers (u ∷ above)) z

      below : (a b : ℕ) (ns : List ℕ) → length ns ≡ new_pages (u ∷ above) → Rest → (i ≡ a) ⊎ (mem i (b ∷ ns) ≡ true)
          → Goal (halve c k s a b (split c k (u ∷ above) ns (making t m 0)))
      below a b ns e ih (inl q) = halve-lower c k s a b (split c k (u ∷ above) ns (making t m 0)) i d q
      below a b ns e ih (inr h) = then (mem_cases i b ns h)
        where
          then : (i ≡ b) ⊎ (mem i ns ≡ true) → Goal (halve c k s a b (split c k (u ∷ above) ns (making t m 0)))
          then (inl q) = halve-upper c k s a b (split c k (u ∷ above) ns (making t m 0)) i d q
          then (inr q) =
              halve-still c k s a b (split c k (u ∷ above) ns (making t m 0)) i d
              (ih ns e (mem-rest i s.place.child (numbers (u ∷ above)) z) q)

      go : (ns : List ℕ) → length ns ≡ new_pages (s ∷ (u ∷ above)) → mem i ns ≡ true → (b : Bool) → full s.page.view ≡ b → Rest
          → Goal (split c k (s ∷ (u ∷ above)) ns (making t m 0))
      go [] e r b f ih = absurd (mem-nil i r)
      go (a ∷ ns) e r false f ih = absurd (omega (arith, e, pages-stay s (u ∷ above) f))
      go (a ∷ []) e r true f ih = absurd (omega (arith, e, pages-below s (u ∷ above) f))
      go (a ∷ (b ∷ ns)) e r true f ih =
          subst Goal (sym (split-more c k s u above (a ∷ (b ∷ ns)) (making t m 0) f))
          (below a b ns (omega (arith, e, pages-below s (u ∷ above) f)) ih (mem_cases i a (b ∷ ns) r))

-- ── The session keeps its number of pages and its counter ───────────────────────────────────────────────────────

module _ (f : Session → ℕ) (by-taken : (i : ℕ) (m : Session) → f (taken i m) ≡ f m)
    (by-retire : (c : ℕ) (s : Step) (m : Session) → f (retire c s m) ≡ f m) where
  halve-keeps : (c k : ℕ) (s : Step) (a b : ℕ) (M : Making) → f (halve c k s a b M).session ≡ f M.session
  unfolding halve
  halve-keeps c k s a b M = by-retire c s _ ∙ (by-taken b _ ∙ by-taken a M.session)

  split-keeps : (c k : ℕ) (way : List Step) (new : List ℕ) (M : Making) → f (split c k way new M).session ≡ f M.session
  unfolding split grow
  split-keeps c k [] new M = refl
  split-keeps c k (s ∷ []) new M = go (full s.page.view) refl
    where
      go : (b : Bool) → full s.page.view ≡ b → f (split c k (s ∷ []) new M).session ≡ f M.session
      go true q =
          rw (q, split)
          (halve-keeps c k s (get_or new 0 0) (get_or new 1 0) (grow c s (get_or new 2 0) M) ∙ by-taken (get_or new 2 0) M.session)
      go false q = rw (q, split)
  split-keeps c k (s ∷ (u ∷ above)) new M = go (full s.page.view) refl (split-keeps c k (u ∷ above) (drop 2 new) M)
    where
      go : (b : Bool) → full s.page.view ≡ b → f (split c k (u ∷ above) (drop 2 new) M).session ≡ f M.session
          → f (split c k (s ∷ (u ∷ above)) new M).session ≡ f M.session
      go true q ih =
          rw (q, split) (halve-keeps c k s (get_or new 0 0) (get_or new 1 0) (split c k (u ∷ above) (drop 2 new) M) ∙ ih)
      go false q ih = rw (q, split)

split-n : (c k : ℕ) (way : List Step) (new : List ℕ) (M : Making) → (split c k way new M).session.n ≡ M.session.n
split-n = split-keeps (λ s. s.n) (λ i m. refl) (λ c s m. retire-n c s m)

split-c : (c k : ℕ) (way : List Step) (new : List ℕ) (M : Making) → (split c k way new M).session.c ≡ M.session.c
split-c = split-keeps (λ s. s.c) (λ i m. refl) (λ c s m. retire-c c s m)

pub done-n : (k x : ℕ) (s : Session) (way : List Step) (w t : List ℕ) → (insert_done k x s way w t).session.n ≡ s.n
unfolding insert_done
done-n k x s way w t = split-n s.c k way (free_pages s (numbers way)) (making w s 0)

pub done-c : (k x : ℕ) (s : Session) (way : List Step) (w t : List ℕ) → (insert_done k x s way w t).session.c ≡ s.c
unfolding insert_done
done-c k x s way w t = split-c s.c k way (free_pages s (numbers way)) (making w s 0)
