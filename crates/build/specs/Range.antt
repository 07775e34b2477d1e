-- Ranges of a page's entries by index, and the header of a page that a call builds.
use Rattle.std.specs.Prelude.{ℕ, ◌-◌, ◌≤◌, ◌<◌, ◌≡◌, true, false, List, [], ◌∷◌, ◌++◌, eqb, length, take, drop}
use Rattle.fields.specs.Field.{le, le_at}
use Rattle.rules.specs.Layout.{leaf_room, inner_room, leaf_half, inner_half, leaf_kind}
use Rattle.rules.specs.Entry.{Child, keys, rising}
use Rattle.rules.specs.Page.{View, count}
use Rattle.rules.specs.Insert.{divide}
use Rattle.entries.specs.Spot.{header_size, size_of, keys_in}

-- the header of a page that is built: what its kind and count are, its birth, when it is built, its range
unfoldable pub header_of : ℕ → ℕ → ℕ → ℕ → ℕ → ℕ → List ℕ
header_of kind count birth c low high =
    le 2 kind ++ (le 2 count ++ (le 4 birth ++ (le 4 c ++ (le 4 c ++ (le 8 low ++ le 8 high)))))

-- the entries from `first` up to `past`; none where `past` is not above `first`
unfoldable pub range_view : ℕ → ℕ → View → View
range_view first past v = record {
  kind = v.kind;
  certs = take (past - first) (drop first v.certs);
  children = take (past - first) (drop first v.children);
}

-- the keys of a page's entries, whatever its kind
abbrev pub keys_of : List ℕ → List ℕ
keys_of b = keys_in (header_size (le_at b 0 2)) (size_of (le_at b 0 2)) (le_at b 2 2) b

-- no more entries than a page has room for
pub record Roomy (v : View) : Type 0 where
  pub certs : length v.certs ≤ leaf_room
  pub children : length v.children ≤ inner_room

-- what a page must be for its entries in a range of keys to be a range by index, as those of every sound page are
pub record Ordered (v : View) : Type 0 where
  pub roomy : Roomy v
  pub certs : rising (keys v.certs) ≡ true
  pub children : rising (keys v.children) ≡ true

-- how many entries of a full page of this kind its lower half takes
unfoldable pub half_of : ℕ → ℕ
half_of kind = elim (eqb kind leaf_kind) [ true ↦ leaf_half | false ↦ inner_half ]

-- what a page must be to be split, as every full sound page is
pub record Divides (v : View) : Type 0 where
  pub roomy : Roomy v
  pub past : half_of v.kind < count v
  pub above : 0 < divide v

-- what a new root shows: one entry, over the old root
unfoldable pub root_view : ℕ → Child → View
root_view kind x = record { kind = kind; certs = []; children = x ∷ [] }
