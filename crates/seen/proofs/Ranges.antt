-- The numbers that a tree names, as child or as previous page of a lost entry, are pages of its table. Assumes nothing.
use Rattle.std.proofs.Common.{◌≡◌, ℕ, zero, suc, ◌-◌, ◌<◌, true, false, ◌⊎◌, List, [], ◌∷◌, ◌++◌, sym, refl, ap, ◌∙◌, inl, inr, arith}
use mathlib.Core.Option.{Option, some, none}
use Rattle.rules.specs.Test.{all, mem}
use Rattle.rules.specs.Entry.{Child}
use Rattle.rules.specs.Page.{View}
use Rattle.rules.specs.Table.{read}
use Rattle.rules.specs.Sound.{names_pages}
use Rattle.rules.specs.Place.{fits, show, kids, cut_view, place_of, places_in, high_before}
use Rattle.rules.specs.Tree.{Tree, broken, empty, join, spared_at, here, tree_each, tree}
use Rattle.rules.specs.declared.Place.{Place}
use Rattle.rules.proofs.Entries.Tests.{mem-nil, mem_cases, mem-append_cases, all_head, all_tail}
use Rattle.rules.proofs.Entries.Entries.{all-cut}
use Rattle.rules.proofs.Entries.Sounds.{names_true}
use Rattle.rules.proofs.Entries.Places.{Shown, fitting, lost, show-some, fits-of}

pub record Within (n : ℕ) (x : Tree) : Type 0 where
  pub children : (i : ℕ) → mem i x.children ≡ true → i < n
  pub spared : (i : ℕ) → mem i x.spared ≡ true → i < n

module _ (n : ℕ) where
  within-broken : Within n broken
  unfolding broken
  within-broken = record { children = λ i m. absurd (mem-nil i m); spared = λ i m. absurd (mem-nil i m) }

  within-empty : Within n empty
  unfolding empty
  within-empty = record { children = λ i m. absurd (mem-nil i m); spared = λ i m. absurd (mem-nil i m) }

  both-lists : (xs ys : List ℕ) → ((i : ℕ) → mem i xs ≡ true → i < n) → ((i : ℕ) → mem i ys ≡ true → i < n)
      → (i : ℕ) → mem i (xs ++ ys) ≡ true → i < n
  both-lists xs ys f g i m = go (mem-append_cases i xs ys m)
    where
      go : (mem i xs ≡ true) ⊎ (mem i ys ≡ true) → i < n
      go (inl p) = f i p
      go (inr p) = g i p

  within-join : (a b : Tree) → Within n a → Within n b → Within n (join a b)
  unfolding join
  within-join a b p q = record {
    children = both-lists a.children b.children p.children q.children;
    spared = both-lists a.spared b.spared p.spared q.spared;
  }

  alone : (j : ℕ) → j < n → (i : ℕ) → mem i (j ∷ []) ≡ true → i < n
  alone j h i m = go (mem_cases i j [] m)
    where
      go : (i ≡ j) ⊎ (mem i [] ≡ true) → i < n
      go (inl p) = omega arith
      go (inr p) = absurd (mem-nil i p)

  module _ (t : List ℕ) where
    fits-spared : (e : Place) → fits n e (read t e.child) ≡ true → spared_at n t e ≡ []
    unfolding spared_at
    fits-spared e h = rw (spared_at, h)

    lost-spared : (e : Place) → fits n e (read t e.child) ≡ false → spared_at n t e ≡ e.previous ∷ []
    unfolding spared_at
    lost-spared e h = rw (spared_at, h)

    spared_in : (e : Place) (v : View) → Shown n t e v → (i : ℕ) → mem i (spared_at n t e) ≡ true → i < n
    spared_in e v (fitting f w) i m = absurd (mem-nil i (ap (mem i) (sym (fits-spared e (fits-of n e (read t e.child) f))) ∙ m))
    spared_in e v (lost p s w) i m = alone e.previous s.below i (ap (mem i) (sym (lost-spared e p)) ∙ m)

    within-here : (e : Place) (v : View) → e.child < n → show n t e ≡ some v → Within n (here n t e v)
    unfolding here
    within-here e v h s = record { children = alone e.child h; spared = spared_in e v (show-some n t e v s) }

    within_each : (f : Place → Tree) → ((e : Place) → e.child < n → Within n (f e))
        → (want high : ℕ) (xs : List Child) → all (names_pages n) xs ≡ true → Within n (tree_each f (places_in want high xs))
    unfolding tree_each places_in place_of
    within_each f g want high [] a = within-empty
    within_each f g want high (x ∷ xs) a =
        within-join (f (place_of want (high_before high xs) x)) (tree_each f (places_in want high xs))
        (g (place_of want (high_before high xs) x) (names_true n x (all_head (names_pages n) x xs a)).child_below)
        (within_each f g want high xs (all_tail (names_pages n) x xs a))

    names-shown : (e : Place) (v : View) → Shown n t e v → all (names_pages n) v.children ≡ true
    unfolding cut_view
    names-shown e v (fitting f w) = ap (λ (x : View). all (names_pages n) x.children) w ∙ f.sound.names
    names-shown e v (lost p s w) =
        ap (λ (x : View). all (names_pages n) x.children) w
        ∙ all-cut (names_pages n) e.low e.high (read t e.previous).view.children s.sound.names

    step : (l : ℕ) → ((e : Place) → e.child < n → Within n (tree l n t e)) → (e : Place) → e.child < n → Within n (tree (suc l) n t e)
    unfolding tree kids
    step l f e h = go (show n t e) refl
      where
        go : (o : Option View) → show n t e ≡ o → Within n (tree (suc l) n t e)
        go none p = rw (tree, p) within-broken
        go (some v) p =
            rw (tree, p)
            (within-join (here n t e v) (tree_each (tree l n t) (kids e v)) (within-here e v h p)
            (within_each (tree l n t) f (v.kind - 1) e.high v.children (names-shown e v (show-some n t e v p))))

    pub within-tree : (level : ℕ) (e : Place) → e.child < n → Within n (tree level n t e)
    unfolding tree
    within-tree zero e h = within-broken
    within-tree (suc l) e h = step l (within-tree l) e h
