-- Every whole way leaves pages kept: the inner pages that it entered, in the table that it leaves. Assumes nothing.
use Prim.Native.Nat.{ℕ, zero, suc, ◌≤◌}
use native.Mathlib.Omega.{arith}
use mathlib.Core.Path.{◌≡◌, refl, sym, ◌∙◌, subst}
use mathlib.Core.Bool.{Bool, true, false}
use mathlib.Core.List.{List, [], ◌∷◌}
use mathlib.Core.Option.{Option, some, none, some-injective, none-ne-some}
use Rattle.rules.specs.Layout.{top_kind, last_key}
use Rattle.rules.specs.Test.{mem}
use Rattle.rules.specs.Page.{Page, is_leaf}
use Rattle.rules.specs.Table.{read}
use Rattle.rules.specs.Place.{root_place, kids, pick}
use Rattle.rules.specs.Enter as entry
use Rattle.rules.specs.Walk.{Step, numbers, descend, way_of}
use Rattle.rules.specs.declared.Place.{Place}
use Rattle.rules.proofs.Bytes.PageZero.{root_place-same, same0}
use Rattle.rules.proofs.Entries.Tests.{mem-head, mem_tail}
use Rattle.rules.proofs.Entries.Views.{Shaped, shaped-read}
use Rattle.rules.proofs.Entries.Places.{fits-of}
use Rattle.rules.proofs.Entries.Asks.{pick-leaf, kids-same, kids-pick}
use Rattle.rules.proofs.Demand1.WalkSteps.{enter-apart}
use Rattle.way.specs.Ways.{rest_of}
use Rattle.way.proofs.Stood.{Ready, ready-next, stood-here}
use Rattle.climbs.specs.Ground.{Ground}
use Rattle.climbs.proofs.Ground.{stays-read, enter-stays, root-ready}
use Rattle.leaves.specs.Kept.{AskedBy, KeptSteps}

-- ── Kept in another table ───────────────────────────────────────────────────────────────────────────────────────

asked-same : (t u : List ℕ) (e : Place) (above : List Step) → root_place u ≡ root_place t → AskedBy t e above → AskedBy u e above
asked-same t u e [] z a = a ∙ sym z
asked-same t u e (s ∷ above) z a = a

-- where page 0 asks for the same root and the pages kept are read as before
pub kept_same : (n : ℕ) (t u : List ℕ) (ss : List Step) → root_place u ≡ root_place t
    → ((j : ℕ) → mem j (numbers ss) ≡ true → read u j ≡ read t j) → KeptSteps n t ss → KeptSteps n u ss
unfolding numbers
kept_same n t u [] z f x = tt
kept_same n t u (s ∷ above) z f x = (
  record {
    here = f s.place.child (mem-head s.place.child (numbers above)) ∙ x.0.here;
    fit = x.0.fit;
    inner = x.0.inner;
    apart = x.0.apart;
    asked = asked-same t u s.place above z x.0.asked;
  },
  kept_same n t u above z (λ j i. f j (mem_tail j s.place.child (numbers above) i)) x.1,
)

-- ── One place entered ───────────────────────────────────────────────────────────────────────────────────────────

module _ {n c k : ℕ} {t : List ℕ} {e : Place} (r : Ready n c k t e) (above : List Step) where
  abbrev left : List ℕ
  left = (entry.enter n c (numbers above) t e).table

  root-left : root_place left ≡ root_place t
  root-left = root_place-same (same0 left t ((enter-stays r (numbers above)).same 0 (mem-head 0 (numbers above))))

  kept_above : KeptSteps n t above → KeptSteps n left above
  kept_above = kept_same n t left above root-left (stays-read (enter-stays r (numbers above)))

  module _ (p : Page) (h : (entry.enter n c (numbers above) t e).page ≡ some p) (b : Place) (q : pick k (kids e p.view) ≡ some b) where
    -- a page that leads on is no leaf
    inner-here : is_leaf p.view ≡ false
    inner-here = go (is_leaf p.view) refl
      where
        go : (l : Bool) → is_leaf p.view ≡ l → is_leaf p.view ≡ false
        go false f = f
        go true f =
            let s = subst (λ (x : Page). Shaped x.view) (stood-here r (numbers above) p h).here (shaped-read left e.child) in
            absurd (none-ne-some b (sym (pick-leaf k e p.view s f) ∙ q))

    keeps : AskedBy t e above → KeptSteps n t above → KeptSteps n left (record { place = e; page = p } ∷ above)
    keeps a x = (
      record {
        here = (stood-here r (numbers above) p h).here;
        fit = fits-of n e p (stood-here r (numbers above) p h).fits;
        inner = inner-here;
        apart = enter-apart n c (numbers above) t e p h;
        asked = asked-same t left e above root-left a;
      },
      kept_above x,
    )

    asks : AskedBy left b (record { place = e; page = p } ∷ above)
    asks =
        let s = (stood-here r (numbers above) p h).fits.sound in
        kids-same e s k b.low b q (omega arith) (kids-pick e s k b q).range

-- ── The whole way ───────────────────────────────────────────────────────────────────────────────────────────────

abbrev Deeper : ℕ → ℕ → ℕ → ℕ → List ℕ → List Step → Type 0
Deeper level n c k u steps =
    (above : List Step) (e : Place) → Ready n c k u e → AskedBy u e above → KeptSteps n u above
    → (descend level n c k above u e).steps ≡ some steps → KeptSteps n (descend level n c k above u e).table (rest_of steps)

descend-keeps : (level n c k : ℕ) (t : List ℕ) (steps : List Step) → Deeper level n c k t steps
unfolding descend
descend-keeps zero n c k t steps above e r a x h = absurd (none-ne-some steps h)
descend-keeps (suc level) n c k t steps above e r a x h =
    found (entry.enter n c (numbers above) t e).page refl (descend-keeps level n c k (left r above) steps)
  where
    below : (p : Page) → (entry.enter n c (numbers above) t e).page ≡ some p → (o : Option Place) → pick k (kids e p.view) ≡ o
        → Deeper level n c k (left r above) steps → KeptSteps n (descend (suc level) n c k above t e).table (rest_of steps)
    below p f none q ih =
        let g = some-injective (record { place = e; page = p } ∷ above) steps (rw (descend, f, q) at h) in
        rw (descend, f, q) (subst (λ (ss : List Step). KeptSteps n (left r above) (rest_of ss)) g (kept_above r above x))
    below p f (some b) q ih =
        rw (descend, f, q)
        (ih (record { place = e; page = p } ∷ above) b (ready-next r (numbers above) p f b q) (asks r above p f b q)
        (keeps r above p f b q a x) (rw (descend, f, q) at h))

    found : (o : Option Page) → (entry.enter n c (numbers above) t e).page ≡ o → Deeper level n c k (left r above) steps
        → KeptSteps n (descend (suc level) n c k above t e).table (rest_of steps)
    found none f ih = absurd (none-ne-some steps (rw (descend, f) at h))
    found (some p) f ih = below p f (pick k (kids e p.view)) refl ih

pub way-keeps : {n c : ℕ} {t : List ℕ} → Ground n c t → (k : ℕ) → k ≤ last_key → (steps : List Step)
    → (way_of n c k t).steps ≡ some steps → KeptSteps n (way_of n c k t).table (rest_of steps)
unfolding way_of
way-keeps {n} {c} {t} g k h steps q =
    descend-keeps top_kind n c k t steps [] (root_place t) (root-ready g k h) refl tt q
