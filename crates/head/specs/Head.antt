-- What one look at a page gives: its header, one of its entries, page 0's fields. Each is read off the page's bytes at
-- document 01's offsets, and the laws of proofs/ say that it is what the rules read there.
use Rattle.std.specs.Prelude.{ℕ, ◌+◌, ◌*◌, List, drop}
use Rattle.fields.specs.Field.{le_at}
use Rattle.rules.specs.Layout.{leaf_header, inner_header, cert_size, child_size}
use Rattle.rules.specs.Entry.{Cert, Child}
use Rattle.rules.specs.Page.{cert_in, child_in}
use Rattle.rules.specs.Table.{kind0, n0, number0, root0, previous0, birth0}
use Rattle.rules.specs.declared.Place.{Place}
use Rattle.head.specs.declared.Head.{Head}
use Rattle.head.specs.declared.ChildEntry.{ChildEntry}
use Rattle.head.specs.declared.Zero.{Zero}

unfoldable pub head_in : List ℕ → Head
head_in b = record {
  kind = le_at b 0 2;
  count = le_at b 2 2;
  birth = le_at b 4 4;
  built = le_at b 8 4;
  touched = le_at b 12 4;
  low = le_at b 16 8;
  high = le_at b 24 8;
}

-- the entry at an index, whatever the count says
unfoldable pub cert_at : List ℕ → ℕ → Cert
cert_at b j = cert_in (drop (leaf_header + cert_size * j) b)

unfoldable pub child_at : List ℕ → ℕ → Child
child_at b j = child_in (drop (inner_header + child_size * j) b)

-- an inner page's entry as one flat value
unfoldable pub entry_of : Child → ChildEntry
entry_of x = record {
  key = x.key;
  child = x.value.child;
  previous = x.value.previous;
  birth = x.value.birth;
}

unfoldable pub zero_in : List ℕ → Zero
zero_in t = record {
  kind = kind0 t;
  n = n0 t;
  number = number0 t;
  root = root0 t;
  previous = previous0 t;
  birth = birth0 t;
}

-- what stands past the end of a list of places
unfoldable pub nowhere : Place
nowhere = record { child = 0; previous = 0; birth = 0; low = 0; high = 0; want = 0 }
