-- How many new pages an insert takes that is done: none, two for each split, one more for a new root. The root of a way of three
-- pages is of the highest kind and never splits.
use Prim.Native.Nat.{ℕ, suc, ◌≤◌}
use native.Mathlib.Omega.{arith}
use mathlib.Core.Path.{◌≡◌, refl, sym, ap, ◌∙◌, subst}
use mathlib.Core.Logic.{◌⊎◌, inl, inr}
use mathlib.Core.Bool.{Bool, true, false}
use mathlib.Core.List.{List, [], ◌∷◌}
use mathlib.Core.Option.{some, none-ne-some}
use lib.ListN.{length}
use borrow.Author.Tests.{eqb-false}
use Rattle.rules.specs.Layout.{top_kind}
use Rattle.rules.specs.Test.{mem}
use Rattle.rules.specs.Page.{Page, is_leaf}
use Rattle.rules.specs.Place.{kids, pick}
use Rattle.rules.specs.Walk.{Step}
use Rattle.rules.specs.Insert.{full, root_splits, new_pages, too_high}
use Rattle.rules.specs.declared.Place.{Place}
use Rattle.rules.proofs.Entries.Tests.{fails}
use Rattle.rules.proofs.Entries.Views.{Shaped, shaped-read}
use Rattle.rules.proofs.Entries.Asks.{pick-leaf, kids-pick, kids-want}
use Rattle.rules.proofs.Demand3.Steps.Plans.{root_splits-full}
use Rattle.apply.specs.Leads.{Stands, Leads}
use Rattle.apply.proofs.Whole.{root_splits_lem}
use Rattle.reading.specs.Inserting.{few}
use Rattle.reading.proofs.Splitting.{pages-root, pages-stay, pages-below}

-- ── Kinds rise along a way ──────────────────────────────────────────────────────────────────────────────────────

module _ {n k : ℕ} {t : List ℕ} (u : Step) (st : Stands n k t u) (d : Place) (p : pick k (kids u.place u.page.view) ≡ some d) where
  inner : is_leaf u.page.view ≡ false
  inner =
      fails (is_leaf u.page.view)
      (λ l. none-ne-some d
      (sym (pick-leaf k u.place u.page.view (subst (λ (y : Page). Shaped y.view) st.reads (shaped-read t u.place.child)) l) ∙ p))

  pub want-below : (1 ≤ d.want) × (suc d.want ≡ u.page.view.kind)
  want-below = kids-want u.place st.fits.sound d inner (kids-pick u.place st.fits.sound k d p)

pub kind-above : {n k : ℕ} {t : List ℕ} (s u : Step) → Stands n k t s → Stands n k t u → pick k (kids u.place u.page.view) ≡ some s.place
    → u.page.view.kind ≡ suc s.page.view.kind
kind-above s u a b p = go a.fits.kind
  where
    w : (1 ≤ s.place.want) × (suc s.place.want ≡ u.page.view.kind)
    w = want-below u b s.place p

    go : (s.place.want ≡ 0) ⊎ (s.place.want ≡ s.page.view.kind) → u.page.view.kind ≡ suc s.page.view.kind
    go (inl z) = absurd (omega (arith, z, w.0))
    go (inr z) = omega (arith, z, w.1)

-- three pages end below a root of the highest kind
top-of_three : {n k : ℕ} {t : List ℕ} (s u v : Step) → Leads n k t (s ∷ (u ∷ (v ∷ []))) → v.page.view.kind ≡ top_kind
top-of_three s u v l =
    let a = kind-above s u l.0 l.3.0 l.2 in
    let b = kind-above u v l.3.0 l.3.3.0 l.3.2 in
    omega (arith, a, b, l.0.fits.sound.kind_from, l.3.3.0.fits.sound.kind_to)

-- ── The numbers ─────────────────────────────────────────────────────────────────────────────────────────────────

among : (way : List Step) (j : ℕ) → new_pages way ≡ j → mem j few ≡ true → mem (new_pages way) few ≡ true
among way j e m = ap (λ (i : ℕ). mem i few) e ∙ m

high-of_three : (s u v : Step) → too_high (s ∷ (u ∷ (v ∷ []))) ≡ too_high (v ∷ [])
unfolding too_high
high-of_three s u v = refl

high-root : (v : Step) → too_high (v ∷ []) ≡ false → v.page.view.kind ≡ top_kind → ⊥
unfolding too_high
high-root v h = eqb-false v.page.view.kind top_kind h

pub counts : (n k : ℕ) (t : List ℕ) (s : Step) (above : List Step) → length (s ∷ above) ≤ top_kind → Leads n k t (s ∷ above)
    → (root_splits (s ∷ above) ≡ true → too_high (s ∷ above) ≡ false) → mem (new_pages (s ∷ above)) few ≡ true
unfolding mem
counts n k t s [] z l h = go (full s.page.view) refl
  where
    go : (a : Bool) → full s.page.view ≡ a → mem (new_pages (s ∷ [])) few ≡ true
    go true f = among (s ∷ []) 3 (pages-root s f) refl
    go false f = among (s ∷ []) 0 (pages-stay s [] f) refl
counts n k t s (u ∷ []) z l h = go (full s.page.view) refl (full u.page.view) refl
  where
    go : (a : Bool) → full s.page.view ≡ a → (b : Bool) → full u.page.view ≡ b → mem (new_pages (s ∷ (u ∷ []))) few ≡ true
    go false f b g = among (s ∷ (u ∷ [])) 0 (pages-stay s (u ∷ []) f) refl
    go true f false g = among (s ∷ (u ∷ [])) 2 (omega (arith, pages-below s (u ∷ []) f, pages-stay u [] g)) refl
    go true f true g = among (s ∷ (u ∷ [])) 5 (omega (arith, pages-below s (u ∷ []) f, pages-root u g)) refl
counts n k t s (u ∷ (v ∷ [])) z l h = go (full s.page.view) refl (full u.page.view) refl (full v.page.view) refl
  where
    go : (a : Bool) → full s.page.view ≡ a → (b : Bool) → full u.page.view ≡ b → (c : Bool) → full v.page.view ≡ c
        → mem (new_pages (s ∷ (u ∷ (v ∷ [])))) few ≡ true
    go false f b g c i = among (s ∷ (u ∷ (v ∷ []))) 0 (pages-stay s (u ∷ (v ∷ [])) f) refl
    go true f false g c i =
        among (s ∷ (u ∷ (v ∷ []))) 2 (omega (arith, pages-below s (u ∷ (v ∷ [])) f, pages-stay u (v ∷ []) g)) refl
    go true f true g false i =
        among (s ∷ (u ∷ (v ∷ []))) 4
        (omega (arith, pages-below s (u ∷ (v ∷ [])) f, pages-below u (v ∷ []) g, pages-stay v [] i)) refl
    go true f true g true i =
        absurd (high-root v
        (sym (high-of_three s u v) ∙ h (root_splits-full s (u ∷ (v ∷ [])) f ∙ (root_splits-full u (v ∷ []) g ∙ root_splits_lem v i)))
        (top-of_three s u v l))
counts n k t s (u ∷ (v ∷ (x ∷ above))) z l h = absurd (omega arith)
