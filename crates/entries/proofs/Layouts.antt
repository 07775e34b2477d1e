-- Where the entries of a page of some kind lie. Assumes nothing.
use mathlib.Core.Path.{◌≡◌, refl}
use mathlib.Core.Bool.{Bool, true, false}
use mathlib.Core.List.{List}
use Prim.Native.Nat.{ℕ}
use lib.Dec.{eqb}
use Rattle.rules.specs.Layout.{leaf_kind, leaf_header, inner_header, cert_size, child_size}
use Rattle.entries.specs.Spot.{header_size, size_of, keys_in}
use Rattle.entries.specs.Layout.{certs_of, children_of, entries_of, keys_on}
use Rattle.entries.specs.declared.layout.Entries.{Entries}

abbrev either : Bool → ℕ → Entries
either t n = elim t [ true ↦ certs_of n | false ↦ children_of n ]

module _ (kind n : ℕ) where
  pub header-entries_of : (entries_of kind n).header ≡ header_size kind
  unfolding header_size
  header-entries_of = go (eqb kind leaf_kind)
    where
      go : (t : Bool) → (either t n).header ≡ elim t [ true ↦ leaf_header | false ↦ inner_header ]
      go true = refl
      go false = refl

  pub size-entries_of : (entries_of kind n).size ≡ size_of kind
  unfolding size_of
  size-entries_of = go (eqb kind leaf_kind)
    where
      go : (t : Bool) → (either t n).size ≡ elim t [ true ↦ cert_size | false ↦ child_size ]
      go true = refl
      go false = refl

  pub count-entries_of : (entries_of kind n).count ≡ n
  count-entries_of = go (eqb kind leaf_kind)
    where
      go : (t : Bool) → (either t n).count ≡ n
      go true = refl
      go false = refl

  pub keys-entries_of : (b : List ℕ) → keys_on (entries_of kind n) b ≡ keys_in (header_size kind) (size_of kind) n b
  keys-entries_of b = rw (header-entries_of, size-entries_of, count-entries_of)
