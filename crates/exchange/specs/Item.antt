-- The items of the three sections, as fields in bytes.
--
-- A model is 2 bytes; a meter is its model's place (2) and its serial (4); a certificate is its meter's place (4), its issue
-- (2) and its record (4). So an item of any section is a place in the section before, a number and a value, each of a width
-- that may be 0: a model has no place and no value, a meter has no value.
use Rattle.std.specs.Prelude.{ℕ, ◌+◌, List, [], ◌∷◌, ◌++◌, length}
use Rattle.std.proofs.lemmas.List.Edits.{sets}
use Rattle.fields.specs.Field.{le, le_at}
use Rattle.exchange.specs.declared.Section.{Section}

pub record Item : Type 0 where
  pub place : ℕ
  pub number : ℕ
  pub value : ℕ

-- an item of these parts
abbrev pub item_for : ℕ → ℕ → ℕ → Item
item_for place number value = record { place = place; number = number; value = value }

-- how many bytes each part takes
unfoldable pub place_width : Section → ℕ
place_width Section.Models = 0
place_width Section.Meters = 2
place_width Section.Certificates = 4

unfoldable pub number_width : Section → ℕ
number_width Section.Models = 2
number_width Section.Meters = 4
number_width Section.Certificates = 2

unfoldable pub value_width : Section → ℕ
value_width Section.Models = 0
value_width Section.Meters = 0
value_width Section.Certificates = 4

-- an item's bytes: 2, 6 or 10
unfoldable pub size : Section → ℕ
size s = place_width s + number_width s + value_width s

-- how many numbers there are under one place: 65,536 models, serials 0 to 4,294,967,295, issues 0 to 65,535
unfoldable pub span : Section → ℕ
span Section.Models = 65536
span Section.Meters = 4294967296
span Section.Certificates = 65536

-- the count before each section, in bytes
abbrev pub count_width : ℕ
count_width = 4

-- ── Written ─────────────────────────────────────────────────────────────────────────────────────────────────────

unfoldable pub item_bytes : Section → Item → List ℕ
item_bytes s i = le (place_width s) i.place ++ (le (number_width s) i.number ++ le (value_width s) i.value)

unfoldable pub items_bytes : Section → List Item → List ℕ
items_bytes s [] = []
items_bytes s (i ∷ is) = item_bytes s i ++ items_bytes s is

-- a section after its count
unfoldable pub section_bytes : Section → List Item → List ℕ
section_bytes s is = le count_width (length is) ++ items_bytes s is

-- bytes with an item written over them, from a byte on
unfoldable pub put_item : Section → List ℕ → ℕ → Item → List ℕ
put_item s b at i = sets b at (item_bytes s i)

-- ── Read ────────────────────────────────────────────────────────────────────────────────────────────────────────

-- the item that begins at a byte of a file
unfoldable pub item_at : Section → List ℕ → ℕ → Item
item_at s f at = record {
  place = le_at f at (place_width s);
  number = le_at f (at + place_width s) (number_width s);
  value = le_at f (at + place_width s + number_width s) (value_width s);
}
