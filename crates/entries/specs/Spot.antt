-- Where a key stands among the entries of a page.
use Rattle.std.specs.Prelude.{ℕ, zero, suc, ◌+◌, true, false, List, [], ◌∷◌, drop, eqb, leb}
use Rattle.fields.specs.Field.{le_at}
use Rattle.rules.specs.Layout.{leaf_header, inner_header, cert_size, child_size, leaf_kind}
use Rattle.rules.specs.Entry.{Cert}
use Rattle.rules.specs.Page.{read_each}

-- how many bytes the header of a page of this kind takes
unfoldable pub header_size : ℕ → ℕ
header_size kind = elim (eqb kind leaf_kind) [ true ↦ leaf_header | false ↦ inner_header ]

-- how many bytes an entry of a page of this kind takes
unfoldable pub size_of : ℕ → ℕ
size_of kind = elim (eqb kind leaf_kind) [ true ↦ cert_size | false ↦ child_size ]

-- an entry of either size starts with its key
unfoldable pub key_in : List ℕ → ℕ
key_in b = le_at b 0 8

-- the keys of a page's entries, behind a header, of one size, so many of them
unfoldable pub keys_in : ℕ → ℕ → ℕ → List ℕ → List ℕ
keys_in header size count b = read_each key_in size count (drop header b)

-- how many keys stand before the first one above k
unfoldable pub spot_of : ℕ → List ℕ → ℕ
spot_of k [] = 0
spot_of k (x ∷ xs) = elim (leb x k) [ true ↦ 1 + spot_of k xs | false ↦ 0 ]

-- how many keys stand before the first one that is not below low
unfoldable pub start_of : ℕ → List ℕ → ℕ
start_of zero ks = 0
start_of (suc l) ks = spot_of l ks

-- an entry of a leaf, from its two numbers
unfoldable pub new_cert : ℕ → ℕ → Cert
new_cert key x = record { key = key; value = x }
