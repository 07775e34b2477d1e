-- The rules' range walk over a table that stays as it lies, with a mark for each number that the walk would mend.
use Rattle.std.specs.Prelude.{ℕ, zero, suc, ◌-◌, Bool, true, false, not, ◌&&◌, Result, Ok, Err, List, [], ◌∷◌, ◌++◌, leb, ltb, length, take, get_or, set, replicate}
use Rattle.std.proofs.Math.Option.{Option, some, none}
use Rattle.rules.specs.Layout.{top_kind, most_pages}
use Rattle.rules.specs.Test.{every, mem}
use Rattle.rules.specs.Entry.{Cert, cut}
use Rattle.rules.specs.Page.{View}
use Rattle.rules.specs.Table.{read}
use Rattle.rules.specs.Place.{root_place, kids, fits, mendable, cut_view}
use Rattle.rules.specs.declared.Asked.{Asked}
use Rattle.rules.specs.declared.Place.{Place}
use Rattle.dry.specs.declared.Dry.{Dry}

-- ── One place ───────────────────────────────────────────────────────────────────────────────────────────────────

unfoldable pub marked : List Bool → ℕ → Bool
marked m i = get_or m i false

-- the child fits; one that was mended on the way holds another place now, so it is lost
unfoldable pub keeps : ℕ → List ℕ → List Bool → Place → Bool
keeps n t m e = not (marked m e.child) && fits n e (read t e.child)

-- the previous page allows a mend; one that was mended on the way never does
unfoldable pub helps : ℕ → List ℕ → List Bool → Place → Bool
helps n t m e = not (marked m e.previous) && mendable n e (read t e.previous)

-- what entering would show, and the marks after it; none: the place is damaged
pub record Sight : Type 0 where
  pub view : View
  pub mended : List Bool

abbrev pub sight_of : View → List Bool → Sight
sight_of v m = record { view = v; mended = m }

unfoldable pub sight_mended : ℕ → List ℕ → List Bool → Place → Option Sight
sight_mended n t m e =
    elim (helps n t m e) [
      | true ↦ some (sight_of (cut_view e.low e.high (read t e.previous).view) (set m e.child true))
      | false ↦ none
    ]

unfoldable pub sight : ℕ → List ℕ → List ℕ → List Bool → Place → Option Sight
sight n above t m e =
    elim (mem e.child above) [
      | true ↦ none
      | false ↦ elim (keeps n t m e)
          [ true ↦ some (sight_of (read t e.child).view m) | false ↦ sight_mended n t m e ]
    ]

-- ── The pages that meet a range ─────────────────────────────────────────────────────────────────────────────────

-- what a walk has come to: whether no damaged place was met, the certificates seen, the numbers it would have mended
pub record Sighted : Type 0 where
  pub whole : Bool
  pub found : List Cert
  pub mended : List Bool

abbrev pub sighted : Bool → List Cert → List Bool → Sighted
sighted whole found m = record { whole = whole; found = found; mended = m }

-- a place is entered if its range meets the asked one, while there is room and nothing was damaged
unfoldable pub meets : Asked → Place → Sighted → Bool
meets a e d =
    every (d.whole ∷ ltb (length d.found) a.room ∷ leb e.low a.high ∷ leb a.low e.high ∷ [])

-- those of a page that are asked for, while there is room
unfoldable pub asks : Asked → View → List Cert → List Cert
asks a v found = take (a.room - length found) (cut a.low a.high v.certs)

unfoldable pub takes : Asked → View → Sighted → List Bool → Sighted
takes a v d m = record { whole = true; found = d.found ++ asks a v d.found; mended = m }

unfoldable pub breaks : Sighted → Sighted
breaks d = record { whole = false; found = d.found; mended = d.mended }

-- each place of a page, in key order
unfoldable pub dry_each : (Place → Sighted → Sighted) → List Place → Sighted → Sighted
dry_each walk [] d = d
dry_each walk (e ∷ es) d = dry_each walk es (walk e d)

-- parent and top are the pages above on the way; 0, which is never a child, stands for none
unfoldable pub dry : ℕ → ℕ → Asked → ℕ → ℕ → List ℕ → Place → Sighted → Sighted
dry zero n a parent top t e d = breaks d
dry (suc level) n a parent top t e d =
    elim (meets a e d) [
      | false ↦ d
      | true ↦ elim (sight n (parent ∷ top ∷ []) t d.mended e) [
        | none ↦ breaks d
        | some s ↦ dry_each (dry level n a e.child parent t) (kids e s.view) (takes a s.view d s.mended)
      ]
    ]

-- before a walk nothing was mended
unfoldable pub untouched : Sighted
untouched = record { whole = true; found = []; mended = replicate most_pages false }

unfoldable pub dry_over : ℕ → Asked → List ℕ → Sighted
dry_over n a t = dry top_kind n a 0 0 t (root_place t) untouched

-- what code keeps of it: of the certificates only how many there are
abbrev pub seen_of : Sighted → Dry
seen_of d = record { count = length d.found; mended = d.mended }

-- where it met a damaged place, what it found before that
unfoldable pub counted : Sighted → Result Dry Dry
counted d = elim d.whole [ true ↦ Ok (seen_of d) | false ↦ Err (seen_of d) ]

-- either way
abbrev pub kept : Result Dry Dry → Dry
kept (Ok d) = d
kept (Err d) = d

-- no number is marked
unfoldable pub none_marked : List Bool → Bool
none_marked [] = true
none_marked (x ∷ xs) = not x && none_marked xs

unfoldable pub dry_of : ℕ → Asked → List ℕ → Result Dry Dry
dry_of n a t = counted (dry_over n a t)
