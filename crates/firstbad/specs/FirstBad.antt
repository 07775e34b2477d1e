-- What the place of the first bad item says (K9). A count is bad only if it is cut off, so a file begins as a good one does if its
-- items do, whatever the count of the section says in which they stand.
use Rattle.std.specs.Prelude.{ℕ, suc, ◌+◌, ◌*◌, ◌^◌, ◌<◌, ◌≡◌, ◌⊎◌, true, List, [], ◌++◌, length, take, Err}
use Rattle.fields.specs.Field.{le_at, Bytes}
use Rattle.rules.specs.Entry.{Cert}
use Rattle.exchange.specs.Item.{Item, size, count_width}
use Rattle.exchange.specs.Written.{is_set, file_of}
use Rattle.exchange.specs.Judged.{meters_at, certs_at, judged}
use Rattle.exchange.specs.Told.{items_in, items_from}
use Rattle.exchange.specs.declared.Section.{Section}

-- the file of a set of certificates
pub record GoodFile (g : List ℕ) : Type 0 where
  pub certs : List Cert
  pub set : is_set certs ≡ true
  pub is : g ≡ file_of certs

-- where a section's count begins, how many items it says, and where they end
unfoldable pub start_of : Section → List ℕ → ℕ
start_of Section.Models f = 0
start_of Section.Meters f = meters_at f
start_of Section.Certificates f = certs_at f

abbrev pub count_of : Section → List ℕ → ℕ
count_of s f = le_at f (start_of s f) count_width

-- the byte of a section's item, by its place from 0; behind the last one it is the section's end
abbrev pub byte_of : Section → List ℕ → ℕ → ℕ
byte_of s f j = start_of s f + count_width + size s * j

-- all items of a section, and the first so many
abbrev pub all_of : Section → List ℕ → List Item
all_of s f = items_in s f (start_of s f)

abbrev pub first_of : Section → List ℕ → ℕ → List Item
first_of s f j = items_from s f j (start_of s f + count_width)

-- the sections before one have the same items
unfoldable pub SameBefore : Section → List ℕ → List ℕ → Type 0
SameBefore Section.Models f g = Unit {0}
SameBefore Section.Meters f g = all_of Section.Models g ≡ all_of Section.Models f
SameBefore Section.Certificates f g =
    (all_of Section.Models g ≡ all_of Section.Models f) × (all_of Section.Meters g ≡ all_of Section.Meters f)

-- a good file that begins as f does, up to so many items of a section
pub record Begins (s : Section) (j : ℕ) (f g : List ℕ) : Type 0 where
  pub good : GoodFile g
  pub before : SameBefore s f g
  pub items : take j (all_of s g) ≡ first_of s f j

pub record Could (s : Section) (j : ℕ) (f : List ℕ) : Type 0 where
  pub file : List ℕ
  pub begins : Begins s j f file

-- none does that has these items and no more in the section
abbrev pub NoneEnds : Section → ℕ → List ℕ → Type 0
NoneEnds s j f = (g : List ℕ) → Begins s j f g → length (all_of s g) ≡ j → ⊥

-- where a file is bad first
pub data First (f : List ℕ) (at : ℕ) : Type 0 where
  -- a count that is cut off
  count : (s : Section) → at ≡ start_of s f → length f < at + count_width → Could s 0 f → First f at
  -- a model, meter or certificate: it is cut off, or no good file goes on with it
  item : (s : Section) (j : ℕ) → at ≡ byte_of s f j → j < count_of s f → Could s j f
      → (length f < at + size s) ⊎ ((g : List ℕ) → Begins s (suc j) f g → ⊥) → First f at
  -- a section's end: one with more items could be good, none with these alone
  end : (s : Section) → at ≡ byte_of s f (count_of s f) → Could s (count_of s f) f → NoneEnds s (count_of s f) f → First f at
  -- a surplus byte: a good file stands before it, and none goes on behind that one
  surplus : (g rest : List ℕ) → f ≡ g ++ rest → at ≡ length g → 0 < length rest → GoodFile g
      → ((more : List ℕ) → GoodFile (g ++ more) → more ≡ []) → First f at

-- of files whose places can be said in 32 bits: what could follow then fits its counts
unfoldable pub FirstBad : Type 0
FirstBad = (f : List ℕ) → Bytes f → length f < 2 ^ 32 → (at : ℕ) → judged f ≡ Err at → First f at
