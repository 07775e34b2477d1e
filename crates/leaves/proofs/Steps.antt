-- A step of a walk, as the code makes it. Assumes nothing.
use Prim.Native.Nat.{ℕ}
use mathlib.Core.Path.{◌≡◌, sym, ap, ◌∙◌}
use mathlib.Core.List.{List}
use Rattle.std.specs.Prelude.{Option, Some, None, Result, Ok, Err}
use Rattle.rules.specs.Walk as rules
use Rattle.rules.specs.declared.Report.{Report}
use Rattle.leaves.specs.Cursors.{nexting, next_of}
use Rattle.leaves.specs.Walks.{stepping, key_behind, walk_behind, stepped, step_from, step_of}
use Rattle.leaves.specs.declared.Leaf.{Leaf}
use Rattle.leaves.specs.declared.Leaves.{Leaves}

module _ (n c : ℕ) (t : List ℕ) (w : Leaves) where
  pub step-none : w.key ≡ None → (r : Option (Result Leaf Report)) → r ≡ None → (x : Option ℕ) → x ≡ None
      → stepping t r (record { key = x; high = w.high; cursor = w.cursor; report = w.report }) ≡ step_of n c t w
  unfolding step_of step_from
  step-none q r e x g =
      (λ i. stepping t (e i) (record { key = (g ∙ sym q) i; high = w.high; cursor = w.cursor; report = w.report }))
      ∙ sym (ap (step_from n c t w) q)

  module _ (k : ℕ) (q : w.key ≡ Some k) (u : List ℕ) (r : Result Leaf Report)
      (f : nexting u r ≡ next_of k w.high (rules.way_of n c k t) (rules.way_report n c k t w.report)) where
    step-some : stepping u (Some r) (walk_behind w r) ≡ step_of n c t w
    unfolding step_of step_from
    step-some = ap (stepped w) f ∙ sym (ap (step_from n c t w) q)

    pub step-leaf : (l : Leaf) → r ≡ Ok l → (x : Option ℕ) → x ≡ key_behind l.high w.high
        → stepping u (Some (Ok l)) (record { key = x; high = w.high; cursor = l.behind; report = l.report }) ≡ step_of n c t w
    unfolding walk_behind
    step-leaf l e x g =
        ap (λ (y : Option ℕ). stepping u (Some (Ok l)) (record { key = y; high = w.high; cursor = l.behind; report = l.report })) g
        ∙ (sym (ap (λ (z : Result Leaf Report). stepping u (Some z) (walk_behind w z)) e) ∙ step-some)

    pub step-damaged : (y : Report) → r ≡ Err y
        → stepping u (Some (Err y)) (record { key = None; high = w.high; cursor = w.cursor; report = y }) ≡ step_of n c t w
    unfolding walk_behind
    step-damaged y e = sym (ap (λ (z : Result Leaf Report). stepping u (Some z) (walk_behind w z)) e) ∙ step-some
