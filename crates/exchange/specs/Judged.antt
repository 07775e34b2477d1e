-- How a file of any bytes is judged (K9): section by section, item by item, up to the first bad one, which is named by the
-- byte where it begins. The walk ends with the first item that is cut off, so it is bounded by the file and not by a count.
use Rattle.std.specs.Prelude.{ℕ, zero, suc, ◌+◌, ◌*◌, Bool, true, false, ◌&&◌, ◌||◌, List, [], ◌∷◌, leb, ltb, eqb, length, ⊤, Result, Ok, Err}
use Rattle.fields.specs.Field.{le_at}
use Rattle.rules.specs.Test.{every}
use Rattle.exchange.specs.Item.{size, count_width, item_at}
use Rattle.exchange.specs.declared.Section.{Section}

-- nothing bad, or the byte where the first bad item begins
abbrev pub Judged : Type 0
Judged = Result ⊤ ℕ

-- how many certificates an accepted file tells of, or that byte
abbrev pub Checked : Type 0
Checked = Result ℕ ℕ

-- so many bytes from there lie within the file; else they are cut off
unfoldable pub within : List ℕ → ℕ → ℕ → Bool
within f at w = leb (at + w) (length f)

-- an item is above the one before it. `used` is one more than that one's place, which is how many models, or meters, have
-- something under them; `last` is its number.
unfoldable pub is_above : ℕ → ℕ → ℕ → ℕ → Bool
is_above used last place number = leb used place || (eqb used (place + 1) && ltb last number)

-- an item that is not bad, if it isn't cut off: its number is not zero, its place lies within the section named, it is above
-- the one before it, and it passes over nothing, since whatever stands before its place has something under it
unfoldable pub follows : ℕ → ℕ → ℕ → ℕ → ℕ → Bool
follows over used last place number =
    every (ltb 0 number ∷ ltb place over ∷ is_above used last place number ∷ leb place used ∷ [])

-- the items that are left of a section, the next at a byte. At the section's end each of those over it has something under it.
unfoldable pub items_judged : Section → List ℕ → ℕ → ℕ → ℕ → ℕ → ℕ → Judged
items_judged s f over zero at used last = elim (eqb used over) [ true ↦ Ok tt | false ↦ Err at ]
items_judged s f over (suc left) at used last =
    let i = item_at s f at in
    elim (within f at (size s) && follows over used last i.place i.number) [
      | true ↦ items_judged s f over left (at + size s) (i.place + 1) i.number
      | false ↦ Err at
    ]

-- a section from its count on; `over` is how many it may name, and `used` of them need nothing under them
unfoldable pub section_judged : Section → List ℕ → ℕ → ℕ → ℕ → Judged
section_judged s f over used at =
    elim (within f at count_width) [
      | true ↦ items_judged s f over (le_at f at count_width) (at + count_width) used 0
      | false ↦ Err at
    ]

-- the first byte after a section
unfoldable pub after : Section → List ℕ → ℕ → ℕ
after s f at = at + count_width + size s * le_at f at count_width

-- where the counts of meters and certificates begin, and the first byte after the certificates
unfoldable pub meters_at : List ℕ → ℕ
meters_at f = after Section.Models f 0

unfoldable pub certs_at : List ℕ → ℕ
certs_at f = after Section.Meters f (meters_at f)

unfoldable pub end_at : List ℕ → ℕ
end_at f = after Section.Certificates f (certs_at f)

-- one judgement, and the next if that finds nothing bad
unfoldable pub and_then : Judged → Judged → Judged
and_then (Err at) next = Err at
and_then (Ok tt) next = next

-- nothing stands after the certificates; a surplus byte is bad itself
unfoldable pub end_judged : List ℕ → Judged
end_judged f = elim (eqb (end_at f) (length f)) [ true ↦ Ok tt | false ↦ Err (end_at f) ]

unfoldable pub certs_judged : List ℕ → Judged
certs_judged f =
    and_then (section_judged Section.Certificates f (le_at f (meters_at f) count_width) 0 (certs_at f)) (end_judged f)

unfoldable pub meters_judged : List ℕ → Judged
meters_judged f = and_then (section_judged Section.Meters f (le_at f 0 count_width) 0 (meters_at f)) (certs_judged f)

-- models stand under one roof, which needs no model: there may be none
unfoldable pub judged : List ℕ → Judged
judged f = and_then (section_judged Section.Models f 1 1 0) (meters_judged f)

-- what the check of a file answers: the place of the first bad item, or how many certificates the file tells of
unfoldable pub counted : List ℕ → Judged → Checked
counted f (Err at) = Err at
counted f (Ok tt) = Ok (le_at f (certs_at f) count_width)

unfoldable pub checked : List ℕ → Checked
checked f = counted f (judged f)
