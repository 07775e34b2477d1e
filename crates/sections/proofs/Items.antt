-- The items of a list of entries, and of one entry more, as bytes. Assumes nothing.
use Prim.Native.Nat.{ℕ, ◌*◌}
use mathlib.Core.Path.{◌≡◌, refl, ap, ◌∙◌}
use mathlib.Core.List.{List, [], ◌∷◌, ◌++◌, append-nil}
use lib.ListN.{length}
use Rattle.rules.specs.Entry.{Cert}
use Rattle.exchange.specs.Item.{Item, size, span, item_bytes, items_bytes}
use Rattle.exchange.specs.Written.{item_of, items_of, bare}
use Rattle.exchange.specs.declared.Section.{Section}
use Rattle.exchange.proofs.Sizes.{size-models, size-meters, size-certs}
use Rattle.exchange.proofs.Runs.{length-items}
use Rattle.exchange.proofs.Sections.{length-items_of}
use Rattle.exchange.proofs.Puts.{items-append}

pub bare-append : (xs ys : List ℕ) → bare (xs ++ ys) ≡ bare xs ++ bare ys
unfolding bare
bare-append [] ys = refl
bare-append (x ∷ xs) ys = ap (λ (l : List Cert). record { key = x; value = 0 } ∷ l) (bare-append xs ys)

pub items_of-append : (b : ℕ) (ps : List ℕ) (xs ys : List Cert) → items_of b ps (xs ++ ys) ≡ items_of b ps xs ++ items_of b ps ys
unfolding items_of
items_of-append b ps [] ys = refl
items_of-append b ps (x ∷ xs) ys = ap (λ (l : List Item). item_of b ps x ∷ l) (items_of-append b ps xs ys)

-- the bytes of a section's entries
abbrev pub entries_bytes : Section → List ℕ → List Cert → List ℕ
entries_bytes s ps es = items_bytes s (items_of (span s) ps es)

pub length-entries : (s : Section) (ps : List ℕ) (es : List Cert) → length (entries_bytes s ps es) ≡ size s * length es
length-entries s ps es =
    length-items s (items_of (span s) ps es) ∙ ap (λ (k : ℕ). size s * k) (length-items_of (span s) ps es)

pub models-long : (ps : List ℕ) (es : List Cert) → length (entries_bytes Section.Models ps es) ≡ 2 * length es
models-long ps es = length-entries Section.Models ps es ∙ ap (λ (k : ℕ). k * length es) size-models

pub meters-long : (ps : List ℕ) (es : List Cert) → length (entries_bytes Section.Meters ps es) ≡ 6 * length es
meters-long ps es = length-entries Section.Meters ps es ∙ ap (λ (k : ℕ). k * length es) size-meters

pub certs-long : (ps : List ℕ) (es : List Cert) → length (entries_bytes Section.Certificates ps es) ≡ 10 * length es
certs-long ps es = length-entries Section.Certificates ps es ∙ ap (λ (k : ℕ). k * length es) size-certs

pub entries_none : (s : Section) (ps : List ℕ) → entries_bytes s ps [] ≡ []
unfolding items_of items_bytes
entries_none s ps = refl

pub entries-more : (s : Section) (ps : List ℕ) (es : List Cert) (e : Cert)
    → entries_bytes s ps (es ++ (e ∷ [])) ≡ entries_bytes s ps es ++ item_bytes s (item_of (span s) ps e)
unfolding items_of items_bytes
entries-more s ps es e =
    ap (items_bytes s) (items_of-append (span s) ps es (e ∷ []))
    ∙ items-append s (items_of (span s) ps es) (item_of (span s) ps e ∷ [])
    ∙ ap (λ (l : List ℕ). entries_bytes s ps es ++ l) (append-nil (item_bytes s (item_of (span s) ps e)))
