-- The plan step by step, as the code goes about it: each answer is the rules'. Assumes nothing.
use Rattle.std.specs.Prelude.{Ok, Err}
use Prim.Native.Nat.{ℕ, ◌≤◌, ◌<◌}
use native.Mathlib.Omega.{arith}
use mathlib.Core.Path.{◌≡◌, sym, ap, ◌∙◌}
use mathlib.Core.Bool.{Bool, true, false}
use mathlib.Core.List.{List}
use lib.ListN.{length, take}
use Rattle.rules.specs.Answer.{Inserted}
use Rattle.rules.specs.declared.InsertError.{InsertError}
use Rattle.way.specs.declared.Step.{Step}
use Rattle.way.proofs.Descent.{length-way}
use Rattle.plan.specs.Plan.{heads_of, splits_by, too_soon_by, need_by, stuck_by, plan_by, Planning, plan_of}
use Rattle.plan.proofs.Plans.{plan-present, plan_soon, plan_stuck, plan-few, plan_go}
use Rattle.plan.proofs.Pages.{plan-is}

module _ {c : ℕ} {w : List Step} {x : List ℕ} (p : Planning c w x) where
  pub few : length w ≤ 3
  few = omega (arith, ap length p.headed.way, length-way p.steps, p.headed.few)

  by_pages : (present b : Bool) → present ≡ b → (r : Inserted) → r ≡ plan_by p.session b w → r ≡ plan_of p.session present p.steps
  by_pages present b e r q = q ∙ (plan-is p.headed p.session b ∙ ap (λ (d : Bool). plan_of p.session d p.steps) (sym e))

  pub present_planned : (present : Bool) → present ≡ true → (Err InsertError.Present) ≡ plan_of p.session present p.steps
  present_planned present e = by_pages present true e (Err InsertError.Present) (plan-present p.session w)

  -- so many pages split, and whether that is too soon
  module _ (present : Bool) (e : present ≡ false) (k : ℕ) (g : k ≡ splits_by (heads_of w)) (late : Bool)
      (f : late ≡ too_soon_by c (take k (heads_of w))) where
    late_is : late ≡ too_soon_by p.session.c (take (splits_by (heads_of w)) (heads_of w))
    late_is =
        f ∙ (ap (λ (d : ℕ). too_soon_by d (take k (heads_of w))) (sym p.counter)
        ∙ ap (λ (m : ℕ). too_soon_by p.session.c (take m (heads_of w))) g)

    pub soon_planned : late ≡ true → (Err InsertError.SyncFirst) ≡ plan_of p.session present p.steps
    soon_planned l = by_pages present false e (Err InsertError.SyncFirst) (plan_soon p.session w (sym l ∙ late_is))

    module _ (l : late ≡ false) (stuck : Bool) (h : stuck ≡ stuck_by w k) where
      stuck_is : stuck ≡ stuck_by w (splits_by (heads_of w))
      stuck_is = h ∙ ap (stuck_by w) g

      pub stuck_planned : stuck ≡ true → (Err InsertError.Full) ≡ plan_of p.session present p.steps
      stuck_planned o = by_pages present false e (Err InsertError.Full) (plan_stuck p.session w (sym l ∙ late_is) (sym o ∙ stuck_is))

      module _ (o : stuck ≡ false) (need : ℕ) (n : need ≡ need_by (length w) k) where
        need-is : need ≡ need_by (length w) (splits_by (heads_of w))
        need-is = n ∙ ap (need_by (length w)) g

        pub few_planned : length x < need → (Err InsertError.Full) ≡ plan_of p.session present p.steps
        few_planned b =
            by_pages present false e (Err InsertError.Full)
            (plan-few p.session w (sym l ∙ late_is) x p.chosen (omega (arith, need-is)))

        pub go_planned : need ≤ length x → (Ok tt) ≡ plan_of p.session present p.steps
        go_planned b =
            by_pages present false e (Ok tt)
            (plan_go p.session w (sym l ∙ late_is) x p.chosen (sym o ∙ stuck_is) (omega (arith, need-is)))
