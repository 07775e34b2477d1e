-- Where the entries of a page lie, and their keys there.
use Rattle.std.specs.Prelude.{ℕ, ◌+◌, ◌*◌, ◌≤◌, true, false, List, length, eqb}
use lib.Dec.{lit≤}
use Rattle.rules.specs.Layout.{leaf_header, inner_header, cert_size, child_size, leaf_kind}
use Rattle.entries.specs.Spot.{keys_in}
use Rattle.entries.specs.declared.layout.Entries.{Entries}

-- so many certificates of a leaf
abbrev pub certs_of : ℕ → Entries
certs_of n = record { header = leaf_header; size = cert_size; count = n; keyed = lit≤ tt }

-- so many entries of an inner page
abbrev pub children_of : ℕ → Entries
children_of n = record { header = inner_header; size = child_size; count = n; keyed = lit≤ tt }

-- so many entries of a page of this kind
abbrev pub entries_of : ℕ → ℕ → Entries
entries_of kind n = elim (eqb kind leaf_kind) [ true ↦ certs_of n | false ↦ children_of n ]

-- all of them lie on a page
abbrev pub LieOn : Entries → List ℕ → Type 0
LieOn e b = e.header + e.size * e.count ≤ length b

-- their keys there
abbrev pub keys_on : Entries → List ℕ → List ℕ
keys_on e b = keys_in e.header e.size e.count b
