-- Trees joined: what is refused of a part is refused of the whole. Assumes nothing.
use Prim.Native.Nat.{ℕ}
use mathlib.Core.Path.{◌≡◌, refl, sym, ap, ◌∙◌}
use mathlib.Core.Bool.{Bool, true, false, not, ◌&&◌}
use mathlib.Core.List.{[], ◌∷◌, ◌++◌, append-nil, append_assoc}
use Rattle.rules.specs.Test.{all, mem, distinct}
use Rattle.rules.specs.Tree.{Tree, broken, empty, join, good_tree}
use Rattle.rules.proofs.Entries.Tests.{Holds, every_true, every_of, and_left, fails, not_both, mem-left, mem_right, all-mem, all_of-mem, distinct-left, distinct_apart}

-- ── What is refused once stays so ───────────────────────────────────────────────────────────────────────────────

module _ (a b : Tree) where
  -- a child, and the previous page of a lost entry, of what is joined
  apart_in : good_tree (join a b) ≡ true → (i : ℕ) → mem i (a.spared ++ b.spared) ≡ true → mem i (a.children ++ b.children) ≡ false
  unfolding good_tree join
  apart_in g i m = go (every_true _ g)
    where
      go : Holds ((a.whole && b.whole) ∷ distinct (a.children ++ b.children)
          ∷ all (λ j. not (mem j (a.children ++ b.children))) (a.spared ++ b.spared) ∷ []) → mem i (a.children ++ b.children) ≡ false
      go f = fails (mem i (a.children ++ b.children))
          (λ y. not_both (ap not (sym y) ∙ all-mem (λ j. not (mem j (a.children ++ b.children))) i (a.spared ++ b.spared) f.1.1.0 m) refl)

  once_in : good_tree (join a b) ≡ true → distinct (a.children ++ b.children) ≡ true
  unfolding good_tree join
  once_in g = (every_true _ g).1.0

  whole_in : good_tree (join a b) ≡ true → (a.whole && b.whole) ≡ true
  unfolding good_tree join
  whole_in g = (every_true _ g).0

  good_left : good_tree (join a b) ≡ true → good_tree a ≡ true
  unfolding good_tree
  good_left g =
      every_of _ (
        and_left a.whole b.whole (whole_in g),
        (
          distinct-left a.children b.children (once_in g),
          (
            all_of-mem (λ i. not (mem i a.children)) a.spared
                (λ i m. ap not (fails (mem i a.children)
                (λ y. not_both (mem-left i a.children b.children y) (apart_in g i (mem-left i a.spared b.spared m))))),
            tt,
          ),
        ),
      )

  pub bad_join : good_tree a ≡ false → good_tree (join a b) ≡ false
  bad_join h = fails (good_tree (join a b)) (λ g. not_both (good_left g) h)

  -- a number named before
  pub bad_twice : (i : ℕ) → mem i a.children ≡ true → mem i b.children ≡ true → good_tree (join a b) ≡ false
  bad_twice i x y = fails (good_tree (join a b)) (λ g. distinct_apart i a.children b.children (once_in g) x y)

  pub bad_spared : (i : ℕ) → mem i a.children ≡ true → mem i b.spared ≡ true → good_tree (join a b) ≡ false
  bad_spared i x y =
      fails (good_tree (join a b))
      (λ g. not_both (mem-left i a.children b.children x) (apart_in g i (mem_right i a.spared b.spared y)))

pub bad_broken : (a : Tree) → good_tree (join a broken) ≡ false
unfolding broken
bad_broken a = fails (good_tree (join a broken)) (λ g. go a.whole (whole_in a broken g))
  where
    go : (b : Bool) → (b && false) ≡ true → ⊥
    go true h = not_both h refl
    go false h = not_both h refl

pub join_assoc : (a b d : Tree) → join (join a b) d ≡ join a (join b d)
unfolding join
join_assoc a b d =
    rw (append_assoc a.children b.children d.children, append_assoc a.spared b.spared d.spared, append_assoc a.certs b.certs d.certs)
    (ap (λ (x : Bool). record {
      whole = x;
      children = a.children ++ (b.children ++ d.children);
      spared = a.spared ++ (b.spared ++ d.spared);
      certs = a.certs ++ (b.certs ++ d.certs);
    }) (go a.whole))
  where
    go : (x : Bool) → ((x && b.whole) && d.whole) ≡ (x && (b.whole && d.whole))
    go true = refl
    go false = refl

pub join-empty : (a : Tree) → join a empty ≡ a
unfolding join empty
join-empty a =
    rw (append-nil a.children, append-nil a.spared, append-nil a.certs)
    (ap (λ (x : Bool). record { whole = x; children = a.children; spared = a.spared; certs = a.certs }) (go a.whole))
  where
    go : (x : Bool) → (x && true) ≡ x
    go true = refl
    go false = refl

pub empty-join : (a : Tree) → join empty a ≡ a
unfolding join empty
empty-join a = refl
