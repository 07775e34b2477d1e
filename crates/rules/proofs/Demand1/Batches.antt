-- A batch is single inserts in list order. Assumes nothing.
use Rattle.std.proofs.Common.{◌≡◌, ℕ, suc, Bool, true, false, List, [], ◌∷◌, ◌++◌, length, refl, ap, Ok, Err}
use Rattle.rules.specs.Report.{nothing}
use Rattle.rules.specs.Call.{lengths_for}
use Rattle.rules.specs.Batch.{Between, between, after_item, item_no, answered, after_items, items_answered, batch_left, batch}
use Rattle.rules.specs.declared.Session.{Session}
use Rattle.rules.specs.declared.Item.{Item}
use Rattle.rules.specs.declared.LengthError.{LengthError}

-- ── Item by item ────────────────────────────────────────────────────────────────────────────────────────────────

module _ (t : List ℕ) where
  -- the items so far, then the others
  pub items-then : (m : Between) (xs ys : List Item) → after_items t m (xs ++ ys) ≡ after_items t (after_items t m xs) ys
  unfolding after_items
  items-then m [] ys = refl
  items-then m (x ∷ xs) ys = items-then (after_item t m x) xs ys

  pub answers-then : (m : Between) (xs ys : List Item)
      → items_answered t m (xs ++ ys) ≡ items_answered t m xs ++ items_answered t (after_items t m xs) ys
  unfolding after_items items_answered
  answers-then m [] ys = refl
  answers-then m (x ∷ xs) ys =
      ap (λ (zs : List Item). answered (item_no t m x) x ∷ zs) (answers-then (after_item t m x) xs ys)

  -- an item more at the end is inserted into what those before it left, whatever they were answered
  pub item-last : (m : Between) (xs : List Item) (x : Item) → after_items t m (xs ++ (x ∷ [])) ≡ after_item t (after_items t m xs) x
  unfolding after_items
  item-last m xs x = items-then m xs (x ∷ [])

  pub answer-last : (m : Between) (xs : List Item) (x : Item)
      → items_answered t m (xs ++ (x ∷ [])) ≡ items_answered t m xs ++ (answered (item_no t (after_items t m xs) x) x ∷ [])
  unfolding items_answered
  answer-last m xs x = answers-then m xs (x ∷ [])

  -- as many items as before
  pub length-answered : (m : Between) (xs : List Item) → length (items_answered t m xs) ≡ length xs
  unfolding items_answered
  length-answered m [] = refl
  length-answered m (x ∷ xs) = ap suc (length-answered (after_item t m x) xs)

-- ── The call ────────────────────────────────────────────────────────────────────────────────────────────────────

module _ (w t : List ℕ) (s : Session) (xs : List Item) where
  pub batch_refused : lengths_for s w t ≡ false → batch w t s xs ≡ batch_left (Err LengthError.Length) t (between w s nothing) xs
  unfolding batch
  batch_refused h = rw (batch, h)

  pub batch-done : lengths_for s w t ≡ true
      → batch w t s xs ≡ batch_left (Ok tt) t (after_items t (between w s nothing) xs) (items_answered t (between w s nothing) xs)
  unfolding batch
  batch-done h = rw (batch, h)

  pub batch_stable : (batch w t s xs).left.stable ≡ t
  unfolding batch
  batch_stable = go (lengths_for s w t) refl
    where
      go : (a : Bool) → lengths_for s w t ≡ a → (batch w t s xs).left.stable ≡ t
      go false h = rw (batch, h)
      go true h = rw (batch, h)

-- an empty batch touches nothing, also over a page 0 that does not fit
pub batch-empty : (w t : List ℕ) (s : Session) → lengths_for s w t ≡ true
    → batch w t s [] ≡ batch_left (Ok tt) t (between w s nothing) []
unfolding batch after_items items_answered
batch-empty w t s h = rw (batch, h)
