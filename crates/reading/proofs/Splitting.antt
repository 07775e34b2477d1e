-- Splits down a way take exactly as many of the numbers handed to them as the rules count, and change no page but those, the
-- pages of the way and page 0, byte for byte.
use Prim.Native.Nat.{ℕ, suc, ◌+◌, ◌*◌, ◌≤◌, ◌<◌}
use native.Mathlib.Omega.{arith}
use mathlib.Core.Path.{◌≡◌, refl, sym, ap, ◌∙◌, subst}
use mathlib.Core.Logic.{◌⊎◌, inl, inr, ◌≢◌}
use mathlib.Core.Bool.{Bool, true, false}
use mathlib.Core.List.{List, [], ◌∷◌}
use lib.Dec.{eqb}
use lib.ListN.{length, take}
use borrow.Author.Tests.{eqb-true, eqb-false, ne_eqb}
use Rattle.rules.specs.Layout.{page_size}
use Rattle.rules.specs.Test.{mem}
use Rattle.rules.specs.Table.{page_at}
use Rattle.rules.specs.Walk.{Step, numbers}
use Rattle.rules.specs.Insert.{full, splitting, root_splits, new_pages, Making, making, grow, halve, split}
use Rattle.rules.specs.declared.Session.{Session}
use Rattle.rules.proofs.Entries.Tests.{not_both}
use Rattle.rules.proofs.Bytes.All.{all_head, all_tail}
use Rattle.rules.proofs.Bytes.Tables.{Has, has-page}
use Rattle.rules.proofs.Demand3.Steps.Plans.{root_splits-full, new_pages-full, new_pages-none}
use Rattle.rules.proofs.Demand3.Steps.SplitWay.{split_one, split-more, split-none}
use Rattle.apply.specs.Leads.{Whole, Leads, Chosen}
use Rattle.apply.proofs.Going.{Gone, apart_by, mem-rest, mem_not, chosen-above}
use Rattle.apply.proofs.Whole.{root_splits_lem, split-gone}
use Rattle.reading.proofs.Writing.{halve_longer, halve-other, grow_longer, grow-other}

-- ── How many numbers are taken ──────────────────────────────────────────────────────────────────────────────────

pub pages-root : (s : Step) → full s.page.view ≡ true → new_pages (s ∷ []) ≡ 3
pages-root s f = new_pages-full s [] f ∙ ap (λ (j : ℕ). 2 + j) new_pages-none

splitting_less : (s : Step) (above : List Step) → full s.page.view ≡ false → splitting (s ∷ above) ≡ []
unfolding splitting
splitting_less s above f = rw (f, splitting)

pub pages-below : (s : Step) (above : List Step) → full s.page.view ≡ true → new_pages (s ∷ above) ≡ suc (suc (new_pages above))
pages-below s above f = omega (arith, new_pages-full s above f)

pub pages-stay : (s : Step) (above : List Step) → full s.page.view ≡ false → new_pages (s ∷ above) ≡ 0
unfolding new_pages root_splits
pages-stay s above f =
    let q : eqb 0 (length (s ∷ above)) ≡ false = ne_eqb 0 (length (s ∷ above)) (λ e. omega arith) in
    rw (splitting_less s above f, q)

-- more numbers than are needed make no difference
module _ (c k : ℕ) (t : List ℕ) (m : Session) where
  pub split-take : (s : Step) (above : List Step) (new : List ℕ) → new_pages (s ∷ above) ≤ length new
      → split c k (s ∷ above) new (making t m 0) ≡ split c k (s ∷ above) (take (new_pages (s ∷ above)) new) (making t m 0)
  split-take s [] new e = go new e (full s.page.view) refl
    where
      go : (ns : List ℕ) → new_pages (s ∷ []) ≤ length ns → (b : Bool) → full s.page.view ≡ b
          → split c k (s ∷ []) ns (making t m 0) ≡ split c k (s ∷ []) (take (new_pages (s ∷ [])) ns) (making t m 0)
      go ns e false f = split-none c k s [] ns (making t m 0) f ∙ sym (split-none c k s [] (take (new_pages (s ∷ [])) ns) (making t m 0) f)
      go [] e true f = absurd (omega (arith, e, pages-root s f))
      go (a ∷ []) e true f = absurd (omega (arith, e, pages-root s f))
      go (a ∷ (b ∷ [])) e true f = absurd (omega (arith, e, pages-root s f))
      go (a ∷ (b ∷ (g ∷ ns))) e true f =
          subst (λ (j : ℕ). split c k (s ∷ []) (a ∷ (b ∷ (g ∷ ns))) (making t m 0) ≡ split c k (s ∷ []) (take j (a ∷ (b ∷ (g ∷ ns)))) (making t m 0))
          (sym (pages-root s f))
          (split_one c k s (a ∷ (b ∷ (g ∷ ns))) (making t m 0) f ∙ sym (split_one c k s (a ∷ (b ∷ (g ∷ []))) (making t m 0) f))
  split-take s (u ∷ above) new e = go new e (full s.page.view) refl (split-take u above)
    where
      Rest : Type 0
      Rest = (ns : List ℕ) → new_pages (u ∷ above) ≤ length ns
          → split c k (u ∷ above) ns (making t m 0) ≡ split c k (u ∷ above) (take (new_pages (u ∷ above)) ns) (making t m 0)

      go : (ns : List ℕ) → new_pages (s ∷ (u ∷ above)) ≤ length ns → (b : Bool) → full s.page.view ≡ b → Rest
          → split c k (s ∷ (u ∷ above)) ns (making t m 0) ≡ split c k (s ∷ (u ∷ above)) (take (new_pages (s ∷ (u ∷ above))) ns) (making t m 0)
      go ns e false f ih =
          split-none c k s (u ∷ above) ns (making t m 0) f ∙ sym (split-none c k s (u ∷ above) (take (new_pages (s ∷ (u ∷ above))) ns) (making t m 0) f)
      go [] e true f ih = absurd (omega (arith, e, new_pages-full s (u ∷ above) f))
      go (a ∷ []) e true f ih = absurd (omega (arith, e, new_pages-full s (u ∷ above) f))
      go (a ∷ (b ∷ ns)) e true f ih =
          subst (λ (j : ℕ). split c k (s ∷ (u ∷ above)) (a ∷ (b ∷ ns)) (making t m 0) ≡ split c k (s ∷ (u ∷ above)) (take j (a ∷ (b ∷ ns))) (making t m 0))
          (sym (pages-below s (u ∷ above) f))
          (split-more c k s u above (a ∷ (b ∷ ns)) (making t m 0) f
          ∙ (ap (halve c k s a b) (ih ns (omega (arith, e, new_pages-full s (u ∷ above) f)))
          ∙ sym (split-more c k s u above (a ∷ (b ∷ take (new_pages (u ∷ above)) ns)) (making t m 0) f)))

-- ── Which pages change ──────────────────────────────────────────────────────────────────────────────────────────

-- page 0 changes only where the root splits
abbrev Not0 : ℕ → List Step → Type 0
Not0 i way = i ≡ 0 → root_splits way ≡ false

module _ {n c : ℕ} (k : ℕ) {t : List ℕ} (m : Session) (w : Whole n c t) where
  root-others : (s : Step) (a b g : ℕ) (ns : List ℕ) → Leads n k t (s ∷ []) → Chosen n (s ∷ []) (a ∷ (b ∷ (g ∷ ns)))
      → full s.page.view ≡ true → (i : ℕ) → Not0 i (s ∷ []) → mem i (a ∷ (b ∷ (g ∷ ns))) ≡ false
      → page_at (split c k (s ∷ []) (a ∷ (b ∷ (g ∷ ns))) (making t m 0)).table i ≡ page_at t i
  unfolding grow
  root-others s a b g ns l x f i z r =
      ap (λ (y : Making). page_at y.table i) q
      ∙ (halve-other c k M s a b (omega (arith, up, w.long)) ina inb ing (omega (arith, up, end, w.long)) i
      (mem_not i a (b ∷ (g ∷ ns)) r) (mem_not i b (g ∷ ns) r₁) (mem_not i g ns r₂)
      ∙ grow-other c (making t m 0) s g here (omega (arith, over, end, w.long)) i positive (mem_not i g ns r₂))
    where
      M : Making
      M = grow c s g (making t m 0)

      q : split c k (s ∷ []) (a ∷ (b ∷ (g ∷ ns))) (making t m 0) ≡ halve c k s a b M
      q = split_one c k s (a ∷ (b ∷ (g ∷ ns))) (making t m 0) f

      ina : a < n
      ina = (all_head x.fresh).below

      inb : b < n
      inb = (all_head (all_tail x.fresh)).below

      ing : g < n
      ing = (all_head (all_tail (all_tail x.fresh))).below

      here : Has t g
      here = has-page t n g w.long ing

      up : length t ≤ length M.table
      up = grow_longer c (making t m 0) s g here

      over : length M.table ≤ length (halve c k s a b M).table
      over = halve_longer c k M s a b (omega (arith, up, w.long)) ina inb ing

      end : length (halve c k s a b M).table ≡ n * page_size
      end =
          ap (λ (y : Making). length y.table) (sym q)
          ∙ (split-gone m w s [] (a ∷ (b ∷ (g ∷ ns))) (omega arith) l x).whole.long

      r₁ : mem i (b ∷ (g ∷ ns)) ≡ false
      r₁ = mem-rest i a (b ∷ (g ∷ ns)) r

      r₂ : mem i (g ∷ ns) ≡ false
      r₂ = mem-rest i b (g ∷ ns) r₁

      positive : 1 ≤ i
      positive = go (eqb i 0) refl
        where
          go : (b : Bool) → eqb i 0 ≡ b → 1 ≤ i
          go true h = absurd (not_both (root_splits_lem s f) (z (eqb-true i 0 h)))
          go false h = let d : i ≢ 0 = eqb-false i 0 h in omega arith

  below-others : (s u : Step) (above : List Step) (a b : ℕ) (ns : List ℕ) → length (s ∷ (u ∷ above)) ≤ 3 → Leads n k t (s ∷ (u ∷ above))
      → Chosen n (s ∷ (u ∷ above)) (a ∷ (b ∷ ns)) → full s.page.view ≡ true → (i : ℕ) → mem i (numbers (u ∷ above)) ≡ false
      → mem i (a ∷ (b ∷ ns)) ≡ false → page_at (split c k (u ∷ above) ns (making t m 0)).table i ≡ page_at t i
      → page_at (split c k (s ∷ (u ∷ above)) (a ∷ (b ∷ ns)) (making t m 0)).table i ≡ page_at t i
  below-others s u above a b ns few l x f i z r ih =
      ap (λ (y : Making). page_at y.table i) q
      ∙ (halve-other c k M s a b (omega (arith, G.whole.long)) (all_head x.fresh).below (all_head (all_tail x.fresh)).below
      G.onward.below (omega (arith, G.whole.long, end)) i (mem_not i a (b ∷ ns) r) (mem_not i b ns (mem-rest i a (b ∷ ns) r))
      (at_not G.at_is)
      ∙ ih)
    where
      M : Making
      M = split c k (u ∷ above) ns (making t m 0)

      q : split c k (s ∷ (u ∷ above)) (a ∷ (b ∷ ns)) (making t m 0) ≡ halve c k s a b M
      q = split-more c k s u above (a ∷ (b ∷ ns)) (making t m 0) f

      G : Gone n c k t u above ns M
      G = split-gone m w u above ns (omega arith) l.3 (chosen-above s u above a b ns few f x)

      end : length (halve c k s a b M).table ≡ n * page_size
      end =
          ap (λ (y : Making). length y.table) (sym q)
          ∙ (split-gone m w s (u ∷ above) (a ∷ (b ∷ ns)) few l x).whole.long

      at_not : (mem M.at (numbers (u ∷ above)) ≡ true) ⊎ (mem M.at ns ≡ true) → i ≢ M.at
      at_not (inl h) e = apart_by (numbers (u ∷ above)) h z (sym e)
      at_not (inr h) e = apart_by ns h (mem-rest i b ns (mem-rest i a (b ∷ ns) r)) (sym e)

  stay-others : (s : Step) (above : List Step) (ns : List ℕ) → full s.page.view ≡ false → (i : ℕ)
      → page_at (split c k (s ∷ above) ns (making t m 0)).table i ≡ page_at t i
  stay-others s above ns f i = ap (λ (y : Making). page_at y.table i) (split-none c k s above ns (making t m 0) f)

  pub split-others : (s : Step) (above : List Step) (new : List ℕ) → length (s ∷ above) ≤ 3 → Leads n k t (s ∷ above)
      → Chosen n (s ∷ above) new → (i : ℕ) → (i ≡ 0 → root_splits (s ∷ above) ≡ false) → mem i (numbers (s ∷ above)) ≡ false
      → mem i new ≡ false → page_at (split c k (s ∷ above) new (making t m 0)).table i ≡ page_at t i
  unfolding numbers
  split-others s [] new few l x i z y r = go new x r (full s.page.view) refl
    where
      go : (ns : List ℕ) → Chosen n (s ∷ []) ns → mem i ns ≡ false → (b : Bool) → full s.page.view ≡ b
          → page_at (split c k (s ∷ []) ns (making t m 0)).table i ≡ page_at t i
      go ns x r false f = stay-others s [] ns f i
      go [] x r true f = absurd (omega (arith, x.enough, pages-root s f))
      go (a ∷ []) x r true f = absurd (omega (arith, x.enough, pages-root s f))
      go (a ∷ (b ∷ [])) x r true f = absurd (omega (arith, x.enough, pages-root s f))
      go (a ∷ (b ∷ (g ∷ ns))) x r true f = root-others s a b g ns l x f i z r
  split-others s (u ∷ above) new few l x i z y r =
      go new x r (full s.page.view) refl (λ ns. split-others u above ns (omega arith) l.3)
    where
      Rest : Type 0
      Rest = (ns : List ℕ) → Chosen n (u ∷ above) ns → (j : ℕ) → (j ≡ 0 → root_splits (u ∷ above) ≡ false)
          → mem j (numbers (u ∷ above)) ≡ false → mem j ns ≡ false
          → page_at (split c k (u ∷ above) ns (making t m 0)).table j ≡ page_at t j

      go : (ns : List ℕ) → Chosen n (s ∷ (u ∷ above)) ns → mem i ns ≡ false → (b : Bool) → full s.page.view ≡ b → Rest
          → page_at (split c k (s ∷ (u ∷ above)) ns (making t m 0)).table i ≡ page_at t i
      go ns x r false f ih = stay-others s (u ∷ above) ns f i
      go [] x r true f ih = absurd (omega (arith, x.enough, new_pages-full s (u ∷ above) f))
      go (a ∷ []) x r true f ih = absurd (omega (arith, x.enough, new_pages-full s (u ∷ above) f))
      go (a ∷ (b ∷ ns)) x r true f ih =
          let y' = mem-rest i s.place.child (numbers (u ∷ above)) y in
          below-others s u above a b ns few l x f i y' r
          (ih ns (chosen-above s u above a b ns few f x) i (λ e. sym (root_splits-full s (u ∷ above) f) ∙ z e) y'
          (mem-rest i b ns (mem-rest i a (b ∷ ns) r)))
