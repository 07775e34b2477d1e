-- A batch and its items: each number exactly when the table says. Assumes nothing.
use Prim.Native.Nat.{ℕ}
use mathlib.Core.Path.{◌≡◌, refl}
use mathlib.Core.Logic.{inl, inr}
use mathlib.Core.Bool.{Bool, true, false}
use mathlib.Core.List.{List}
use Rattle.rules.specs.Call.{batched_no, lengths_for, length_error_no}
use Rattle.rules.specs.Reports.{insert_reported}
use Rattle.rules.specs.Batch.{Between, insert_item, item_no, batch}
use Rattle.rules.specs.declared.Session.{Session}
use Rattle.rules.specs.declared.Item.{Item}
use Rattle.answers.specs.Given.{Given}
use Rattle.answers.specs.Causes.{insert_causes, batch_causes}
use Rattle.answers.specs.Demand1.{Refused, BatchUnchanged}
use Rattle.answers.proofs.Tells.{bad_lengths, good_lengths_lem}
use Rattle.answers.proofs.Inserts.{insert-given}

pub batch-given : (w t : List ℕ) (s : Session) (xs : List Item)
    → Given (batch_causes w t s) (batched_no (batch w t s xs).left.answer)
unfolding batch length_error_no
batch-given w t s xs = go (lengths_for s w t) refl
  where
    go : (a : Bool) → lengths_for s w t ≡ a → Given (batch_causes w t s) (batched_no (batch w t s xs).left.answer)
    go false p = inl (rw (p, batch), bad_lengths w t s p)
    go true p = inr (good_lengths_lem w t s p, rw (p, batch))

-- an item is answered as an insert into what stands before it
pub item-given : (t : List ℕ) (m : Between) (x : Item)
    → Given (insert_causes m.working t m.session x.model x.serial x.issue) (item_no t m x)
unfolding item_no insert_item insert_reported
item-given t m x = insert-given m.working t m.session x.model x.serial x.issue x.value

pub batch-unchanged : (w t : List ℕ) (s : Session) (xs : List Item) → Refused (batched_no (batch w t s xs).left.answer)
    → BatchUnchanged w t s xs (batch w t s xs).left
unfolding batch length_error_no
batch-unchanged w t s xs h = go (lengths_for s w t) refl
  where
    go : (a : Bool) → lengths_for s w t ≡ a → BatchUnchanged w t s xs (batch w t s xs).left
    go false p = rw (p, batch) (record { working = refl; stable = refl; session = refl; items = refl })
    go true p = absurd (h (rw (p, batch)))
