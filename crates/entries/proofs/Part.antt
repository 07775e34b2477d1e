-- The part of a table that a page is, as code lends it, and what lies on the page as a part of the table.
-- Assumes nothing.
use mathlib.Core.Path.{◌≡◌, ap, ◌∙◌}
use mathlib.Core.List.{List}
use Prim.Native.Nat.{ℕ, ◌+◌, ◌-◌, ◌*◌, ◌≤◌}
use native.Mathlib.Nat.{add-sub_cancel_left}
use lib.ListN.{take, drop}
use lib.Seq.{drop-drop}
use Rattle.fields.specs.Field.{le_at, number}
use Rattle.fields.proofs.Run.{part_take}
use Rattle.rules.specs.Layout.{page_size}
use Rattle.rules.specs.Table.{page_at}

pub page_part : (t : List ℕ) (i : ℕ) → take (i * page_size + page_size - i * page_size) (drop (i * page_size) t) ≡ page_at t i
unfolding page_at
page_part t i = rw add-sub_cancel_left

-- a run of a page's bytes
pub part_page : (t : List ℕ) (i off w : ℕ) → off + w ≤ page_size → take w (drop off (page_at t i)) ≡ take w (drop (i * page_size + off) t)
unfolding page_at
part_page t i off w h = part_take w off page_size (drop (i * page_size) t) h ∙ rw drop-drop

-- a number on a page
pub le_at-page : (t : List ℕ) (i off w : ℕ) → off + w ≤ page_size → le_at (page_at t i) off w ≡ le_at t (i * page_size + off) w
unfolding le_at
le_at-page t i off w h = ap number (part_page t i off w h)
