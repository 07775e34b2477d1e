-- The exchange file of a set of certificates (K4): models, meters, certificates, each section after its count.
--
-- A meter is a key without its issue, model · 2^32 + serial; a model is a meter without its serial. So the models stand over
-- the meters as the meters do over the certificates, and one definition says what stands over keys that rise.
use Rattle.std.specs.Prelude.{ℕ, suc, ◌/◌, ◌%◌, ◌^◌, Bool, true, false, List, [], ◌∷◌, ◌++◌, ltb, eqb, length}
use Rattle.rules.specs.Test.{every, all}
use Rattle.rules.specs.Key.{good_key}
use Rattle.rules.specs.Entry.{Cert, keys, rising}
use Rattle.exchange.specs.Item.{Item, span, section_bytes}
use Rattle.exchange.specs.declared.Section.{Section}

-- a certificate: no part of its key is zero, and its model, serial and issue, and its record, fit their widths
unfoldable pub good_cert : Cert → Bool
good_cert e = every (ltb e.key (2 ^ 64) ∷ good_key e.key ∷ ltb e.value (2 ^ 32) ∷ [])

-- a set of certificates, listed by key, and not more of them than a count of 4 bytes can say
unfoldable pub is_set : List Cert → Bool
is_set cs = every (rising (keys cs) ∷ all good_cert cs ∷ ltb (length cs) (2 ^ 32) ∷ [])

-- what keys stand under, each once; equal ones follow each other, since the keys rise
unfoldable pub over_from : ℕ → ℕ → List ℕ → List ℕ
over_from b last [] = []
over_from b last (k ∷ ks) =
    elim (eqb last (k / b)) [ true ↦ over_from b last ks | false ↦ k / b ∷ over_from b (k / b) ks ]

-- the first key stands under something other than 0, which is no model and no meter
unfoldable pub meters_of : List Cert → List ℕ
meters_of cs = over_from (span Section.Certificates) 0 (keys cs)

unfoldable pub models_of : List ℕ → List ℕ
models_of meters = over_from (span Section.Meters) 0 meters

-- where a number first stands in a list, from 0
unfoldable pub place_in : ℕ → List ℕ → ℕ
place_in x [] = 0
place_in x (y ∷ ys) = elim (eqb x y) [ true ↦ 0 | false ↦ suc (place_in x ys) ]

-- an entry as an item: the place of what it stands under, the rest of its key, and its value
unfoldable pub item_of : ℕ → List ℕ → Cert → Item
item_of b over e = record { place = place_in (e.key / b) over; number = e.key % b; value = e.value }

unfoldable pub items_of : ℕ → List ℕ → List Cert → List Item
items_of b over [] = []
items_of b over (e ∷ es) = item_of b over e ∷ items_of b over es

-- models and meters as entries: they have no record
unfoldable pub bare : List ℕ → List Cert
bare [] = []
bare (k ∷ ks) = record { key = k; value = 0 } ∷ bare ks

-- a section over a list of entries
unfoldable pub section_of : Section → List ℕ → List Cert → List ℕ
section_of s over es = section_bytes s (items_of (span s) over es)

-- all models stand under one roof, 0, whose place takes no bytes
unfoldable pub roof : List ℕ
roof = 0 ∷ []

unfoldable pub file_of : List Cert → List ℕ
file_of cs =
    let meters = meters_of cs in
    let models = models_of meters in
    section_of Section.Models roof (bare models)
    ++ (section_of Section.Meters models (bare meters) ++ section_of Section.Certificates meters cs)
