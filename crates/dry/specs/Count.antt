-- How many certificates a dry walk has counted, page by page.
use Rattle.std.specs.Prelude.{ℕ, min, ◌+◌, ◌*◌, ◌-◌, ◌≤◌, ◌≡◌, Bool, true, false, ◌&&◌, List, leb, ltb, length, take}
use Rattle.rules.specs.Layout.{page_size, leaf_room, leaf_kind}
use Rattle.rules.specs.Test.{between, all}
use Rattle.rules.specs.Entry.{Cert, cut, keys}
use Rattle.rules.specs.Page.{Page}
use Rattle.rules.specs.Table.{page_at, read}
use Rattle.rules.specs.Place.{cut_view}
use Rattle.rules.specs.declared.Asked.{Asked}
use Rattle.rules.specs.declared.Place.{Place}
use Rattle.head.specs.Head.{head_in}
use Rattle.head.specs.declared.Head.{Head}

-- one certificate more, if its key is in a range and there is room
unfoldable pub tallied : ℕ → ℕ → ℕ → ℕ → ℕ → ℕ
tallied low high room key count = elim (between low high key && ltb count room) [ true ↦ count + 1 | false ↦ count ]

-- as many more as have keys in a range, while there is room
unfoldable pub tally : ℕ → ℕ → ℕ → List Cert → ℕ → ℕ
tally low high room xs count = count + length (take (room - count) (cut low high xs))

-- as many more as there are, while there is room
unfoldable pub tally_all : ℕ → ℕ → ℕ → ℕ
tally_all entries room count = count + min entries (room - count)

-- a page's range lies in another one, and its certificates, few enough, in its own
unfoldable pub lies_in : Head → ℕ → ℕ → Bool
lies_in h low high = leb low h.low && leb h.high high

pub record Within (p : Page) : Type 0 where
  pub room : length p.view.certs ≤ leaf_room
  pub keys_within : all (between p.low p.high) (keys p.view.certs) ≡ true

-- a leaf of the table that can be counted, with its header
pub record Leaf (t : List ℕ) (page : ℕ) (h : Head) : Type 0 where
  pub inside : (page + 1) * page_size ≤ length t
  pub within : Within (read t page)
  pub read_head : h ≡ head_in (page_at t page)
  pub kind : h.kind ≡ leaf_kind

-- those of a page, as a place shows them
unfoldable pub tally_at : List ℕ → ℕ → Asked → Place → ℕ → ℕ
tally_at t page a e count =
    tally a.low a.high a.room (cut_view e.low e.high (read t page).view).certs count
