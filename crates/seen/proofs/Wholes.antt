-- What a walk's notes say of the whole tree: the test on them is opening's, a number is marked exactly where it is named, and
-- the total is that of its certificates. Assumes nothing.
use Rattle.std.proofs.Common.{◌≡◌, ℕ, ◌-◌, ◌<◌, ◌≤◌, Bool, true, false, not, ◌&&◌, List, length, get_or, replicate, sym, refl, ap, ◌∙◌, zero-add, arith}
use mathlib.Core.Bool.{and-true}
use Rattle.rules.specs.Layout.{most_pages, top_kind}
use Rattle.rules.specs.Test.{every, all, mem, distinct}
use Rattle.rules.specs.Marks.{wraps}
use Rattle.rules.specs.Table.{root0, fit0}
use Rattle.rules.specs.Place.{root_place}
use Rattle.rules.specs.Tree.{Tree, tree_of, good_tree}
use Rattle.rules.proofs.Entries.Tests.{every_true, between-low, between-high}
use Rattle.seen.specs.Note.{mark, note, nothing, apart, good_marks}
use Rattle.seen.proofs.Counting.{count_all_lem}
use Rattle.seen.proofs.Ranges.{Within, within-tree}
use Rattle.seen.proofs.Members.{fresh_at, fresh-distinct, fresh-apart}

module _ (n : ℕ) (few : n ≤ most_pages) (x : Tree) (w : Within n x) where
  within-children : (i : ℕ) → mem i x.children ≡ true → i < most_pages
  within-children i m = omega (arith, w.children i m)

  within-spared : (i : ℕ) → mem i x.spared ≡ true → i < most_pages
  within-spared i m = omega (arith, w.spared i m)

  regroup : (a b c : Bool) → ((true && (a && b)) && c) ≡ (a && (b && (c && true)))
  regroup true true c = sym (and-true c)
  regroup true false c = refl
  regroup false b c = refl

  pub good_notes : good_marks (note nothing x) ≡ good_tree x
  unfolding good_marks note nothing good_tree every
  good_notes =
      ap (λ (b : Bool). (true && (x.whole && b)) && apart (mark (replicate most_pages false) x.children) (mark (replicate most_pages false) x.spared))
      (fresh-distinct most_pages x.children within-children)
      ∙ ap (λ (b : Bool). (true && (x.whole && distinct x.children)) && b)
      (fresh-apart most_pages x.children x.spared within-children within-spared)
      ∙ regroup x.whole (distinct x.children) (all (λ i. not (mem i x.children)) x.spared)

pub noted-child : (x : Tree) (i : ℕ) → i < most_pages → get_or (note nothing x).children i false ≡ mem i x.children
unfolding note nothing
noted-child x i h = fresh_at most_pages x.children i h

pub noted-spared : (x : Tree) (i : ℕ) → i < most_pages → get_or (note nothing x).spared i false ≡ mem i x.spared
unfolding note nothing
noted-spared x i h = fresh_at most_pages x.spared i h

pub noted-total : (x : Tree) → (note nothing x).total ≡ wraps (length x.certs)
unfolding note nothing
noted-total x = count_all_lem x.certs 0 (omega arith) ∙ ap wraps (zero-add (length x.certs))

-- page 0 names a page as root, so every child in the tree is one
pub within-tree_of : (n : ℕ) (t : List ℕ) → fit0 n t ≡ true → Within n (tree_of n t)
unfolding fit0 tree_of root_place
within-tree_of n t h =
    let f = every_true _ h in
    let l = between-low 1 (n - 1) (root0 t) f.1.1.0 in
    let u = between-high 1 (n - 1) (root0 t) f.1.1.0 in
    within-tree n t top_kind (root_place t) (omega arith)
