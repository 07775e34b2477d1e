-- What stays between the items of a batch, and so which answers they get.
use Rattle.std.specs.Prelude.{ℕ, ◌^◌, ◌<◌, ◌≡◌, true, List, [], ◌∷◌, length}
use Rattle.fields.specs.Field.{Bytes}
use Rattle.rules.specs.Test.{mem}
use Rattle.rules.specs.Report.{nothing}
use Rattle.rules.specs.Call.{Left, lengths_for}
use Rattle.rules.specs.Insert.{insert}
use Rattle.rules.specs.Batch.{between, items_answered}
use Rattle.rules.specs.declared.Session.{Session}
use Rattle.rules.specs.Answer.{Inserted}
use Rattle.rules.specs.declared.Item.{Item}
use Rattle.rules.proofs.Bytes.All.{All}
use Rattle.reading.specs.Leaving.{Typed}

-- lengths, the number of pages and the counter are as they were, and bytes are bytes
pub record Steady (w : List ℕ) (s : Session) (r : Left Inserted) : Type 0 where
  pub length_stays : length r.working ≡ length w
  pub bytes : Bytes r.working
  pub pages : r.session.n ≡ s.n
  pub counter : r.session.c ≡ s.c

-- numbers within the width of their type
abbrev pub TypedItem : Item → Type 0
TypedItem x = (x.model < 2 ^ 16) × (x.serial < 2 ^ 32) × (x.issue < 2 ^ 16)

-- all but 1, which is the batch's own
abbrev pub ItemAnswer : Item → Type 0
ItemAnswer x = mem x.answer (0 ∷ 2 ∷ 3 ∷ 5 ∷ 6 ∷ 7 ∷ []) ≡ true

-- ── The promises ────────────────────────────────────────────────────────────────────────────────────────────────

-- whatever it answers
unfoldable pub InsertSteady : Type 0
InsertSteady =
    (w t : List ℕ) (s : Session) (model serial issue x : ℕ) → Typed w s model serial issue
    → Steady w s (insert w t s model serial issue x)

unfoldable pub ItemsAnswer : Type 0
ItemsAnswer =
    (w t : List ℕ) (s : Session) (xs : List Item) → lengths_for s w t ≡ true → Bytes w → s.c < 256 ^ 4 → All TypedItem xs
    → All ItemAnswer (items_answered t (between w s nothing) xs)
