-- The numbers of document 01's layout, each named once.
use Rattle.std.specs.Prelude.{ℕ}

-- a page, and how many of them make a table
abbrev pub page_size : ℕ
page_size = 512

abbrev pub fewest_pages : ℕ
fewest_pages = 4

abbrev pub most_pages : ℕ
most_pages = 128

-- the fields that every page starts with, a leaf's whole header and an inner page's: entries stand behind it
abbrev pub common_header : ℕ
common_header = 32

abbrev pub leaf_header : ℕ
leaf_header = 32

abbrev pub inner_header : ℕ
inner_header = 32

-- an entry of a leaf, an entry of an inner page
abbrev pub cert_size : ℕ
cert_size = 12

abbrev pub child_size : ℕ
child_size = 16

-- how many entries a leaf and an inner page hold
abbrev pub leaf_room : ℕ
leaf_room = 40

abbrev pub inner_room : ℕ
inner_room = 30

-- how many of a full page's entries the lower half of a split takes; the upper half takes all others
abbrev pub leaf_half : ℕ
leaf_half = 20

abbrev pub inner_half : ℕ
inner_half = 15

-- the kinds: page 0, a leaf, the highest inner page
abbrev pub zero_kind : ℕ
zero_kind = 9

abbrev pub leaf_kind : ℕ
leaf_kind = 1

abbrev pub top_kind : ℕ
top_kind = 3

-- the largest key, where the root's range ends
abbrev pub last_key : ℕ
last_key = 18446744073709551615

-- the largest issue of a certificate that is not provisional, and the largest of all
abbrev pub last_final : ℕ
last_final = 32767

abbrev pub largest_issue : ℕ
largest_issue = 65535

-- the largest number that opens, and the largest counter that syncs
abbrev pub last_number : ℕ
last_number = 4294967293
