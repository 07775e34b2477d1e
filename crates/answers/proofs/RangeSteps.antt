-- The walk over a range, step by step: one page entered, and from one of its places to the next. Assumes nothing.
use Prim.Native.Nat.{ℕ, zero, suc, ◌+◌}
use native.Mathlib.Nat.{zero-add, suc-add}
use native.Mathlib.Omega.{arith}
use mathlib.Core.Path.{◌≡◌, refl, sym, ap, subst, ◌∙◌}
use mathlib.Core.Logic.{◌⊎◌, inl, inr}
use mathlib.Core.Bool.{true, false}
use mathlib.Core.List.Memᴰ
use mathlib.Core.List.{List, [], ◌∷◌, ◌++◌, Memᴰ}
use mathlib.Core.Option.{some, none}
use Rattle.rules.specs.Layout.{top_kind}
use Rattle.rules.specs.Page.{Page}
use Rattle.rules.specs.Place.{kids}
use Rattle.rules.specs.Enter.{enter}
use Rattle.rules.specs.Walk.{Walked, enters, finds, stops, walk_each, walk, noted}
use Rattle.rules.specs.declared.Place.{Place}
use Rattle.rules.specs.declared.Asked.{Asked}
use Rattle.rules.proofs.Demand1.WalkSteps.{walk-damaged}
use Rattle.answers.specs.Range.{Parent, numbers_of, Comes}
use Rattle.answers.proofs.Deep.{Deep, enter-shows, kid-deep}
use Rattle.answers.proofs.Levels.{each_same, range-more}

-- ── Places of a list ────────────────────────────────────────────────────────────────────────────────────────────

pub mem-here : (xs ys : List Place) (e : Place) → Memᴰ e (xs ++ (e ∷ ys))
mem-here [] ys e = Memᴰ.head refl
mem-here (x ∷ xs) ys e = Memᴰ.tail (mem-here xs ys e)

pub mem-before : (xs ys : List Place) (d : Place) → Memᴰ d xs → Memᴰ d (xs ++ ys)
mem-before [] ys d m = absurd (Memᴰ.not-nil m)
mem-before (x ∷ xs) ys d m = go (Memᴰ.cases_cons m) (mem-before xs ys d)
  where
    go : (d ≡ x) ⊎ Memᴰ d xs → (Memᴰ d xs → Memᴰ d (xs ++ ys)) → Memᴰ d (x ∷ (xs ++ ys))
    go (inl q) ih = Memᴰ.head q
    go (inr m) ih = Memᴰ.tail (ih m)

pub each_append : (f : Place → Walked → Walked) (xs ys : List Place) (w : Walked)
    → walk_each f (xs ++ ys) w ≡ walk_each f ys (walk_each f xs w)
unfolding walk_each
each_append f [] ys w = refl
each_append f (x ∷ xs) ys w = each_append f xs ys (f x w)

pub none-walked : (f : Place → Walked → Walked) (w : Walked) → w ≡ walk_each f [] w
unfolding walk_each
none-walked f w = refl

-- ── Any level that reaches is as good as the top one ────────────────────────────────────────────────────────────

deep_more : (j level : ℕ) (e : Place) → Deep level e → Deep (j + level) e
deep_more j level e (inl d) = inl (d.0, omega (arith, d.1))
deep_more j level e (inr d) = inr (d.0, omega (arith, d.1))

walk_up : (j level n c : ℕ) (a : Asked) (above : List ℕ) (e : Place) (w : Walked) → Deep level e
    → walk (j + level) n c a above e w ≡ walk level n c a above e w
walk_up zero level n c a above e w deep = rw zero-add
walk_up (suc j) level n c a above e w deep =
    rw suc-add (range-more (j + level) n c a above e w (deep_more j level e deep) ∙ walk_up j level n c a above e w deep)

pub walk_top : (j level n c : ℕ) (a : Asked) (above : List ℕ) (e : Place) (w : Walked) → j + level ≡ top_kind → Deep level e
    → walk top_kind n c a above e w ≡ walk level n c a above e w
walk_top j level n c a above e w q deep =
    subst (λ (m : ℕ). walk m n c a above e w ≡ walk level n c a above e w) q (walk_up j level n c a above e w deep)

-- ── One page entered ────────────────────────────────────────────────────────────────────────────────────────────

module _ (level n c : ℕ) (a : Asked) (above : List ℕ) (e : Place) (w : Walked) where
  pub walk-broken : enters a e w ≡ true → (enter n c above w.table e).page ≡ none
      → (walk (suc level) n c a above e w).whole ≡ false
  unfolding stops
  walk-broken p h = ap (λ (r : Walked). r.whole) (walk-damaged level n c a above e w p h)

-- the places of a page, walked at the level below the page or at the top one
pub passed-same : (j level n c : ℕ) (a : Asked) (above : List ℕ) (es : List Place) (w : Walked) → j + level ≡ top_kind
    → ((d : Place) → Memᴰ d es → Deep level d)
    → walk_each (walk top_kind n c a above) es w ≡ walk_each (walk level n c a above) es w
passed-same j level n c a above es w q deep =
    each_same (walk top_kind n c a above) (walk level n c a above) es
    (λ d m x. walk_top j level n c a above d x q (deep d m)) w

-- ── From one place of a page to the next ────────────────────────────────────────────────────────────────────────

module _ (n c : ℕ) (a : Asked) (t : List ℕ) (level over : ℕ) (sum : over + level ≡ top_kind)
    (above : List Parent) (w : Walked) (e : Place) (comes : Comes n c a t above w e) (deep : Deep (suc level) e)
    (p : enters a e w ≡ true) (x : Page) (h : (enter n c (numbers_of above) w.table e).page ≡ some x) where
  abbrev pub numbers : List ℕ
  numbers = e.child ∷ numbers_of above

  abbrev pub start : Walked
  start = finds a x.view (noted n e w) (enter n c (numbers_of above) w.table e).table

  module _ (passed later : List Place) (d : Place) (q : kids e x.view ≡ passed ++ (d ∷ later))
      (y : Walked) (k : y ≡ walk_each (walk top_kind n c a numbers) passed start) where
    abbrev pub parent : Parent
    parent = record {
      place = e;
      page = x;
      table = (enter n c (numbers_of above) w.table e).table;
      passed = passed;
      later = later;
    }

    pub next-comes : Comes n c a t (parent ∷ above) y d
    next-comes = (w, comes, p, (λ i. record { table = (enter n c (numbers_of above) w.table e).table; page = h i }), q, k)

    pub next-deep : Deep level d
    next-deep =
        kid-deep n w.table level e x.view deep (enter-shows n c (numbers_of above) w.table e x h) d
        (rw q (mem-here passed later d))

    pub next-walked : walk level n c a numbers d y ≡ walk_each (walk top_kind n c a numbers) (passed ++ (d ∷ [])) start
    unfolding walk_each
    next-walked =
        sym (walk_top over level n c a numbers d y sum next-deep)
        ∙ (ap (walk top_kind n c a numbers d) k ∙ sym (each_append (walk top_kind n c a numbers) passed (d ∷ []) start))
