-- A page's 512 bytes: a header, then entries.
--
--   0 kind (2)   2 count (2)   4 birth (4)   8 built (4)   12 touched (4)   16 low (8)   24 high (8)
--   leaf, kind 1:      each entry   0 key (8)   8 record (4)
--   inner, kind 2, 3:  each entry   0 key (8)   8 child (2)   10 previous (2)   12 child's birth (4)
use Rattle.std.specs.Prelude.{ℕ, zero, suc, ◌+◌, Bool, true, false, List, [], ◌∷◌, ◌++◌, length, drop, replicate, ◌==◌}
use Rattle.fields.specs.Field.{le, le_at}
use Rattle.rules.specs.Layout.{page_size, leaf_header, inner_header, cert_size, child_size, leaf_kind}
use Rattle.rules.specs.Entry.{Cert, Child}

-- What a page shows: its kind and its entries. A leaf has certificates and no children, an inner page children and
-- no certificates.
pub record View : Type 0 where
  pub kind : ℕ
  pub certs : List Cert
  pub children : List Child

-- A page: what it shows, when it came to be, was built and was last touched, and its range, both ends included.
pub record Page : Type 0 where
  pub view : View
  pub birth : ℕ
  pub built : ℕ
  pub touched : ℕ
  pub low : ℕ
  pub high : ℕ

unfoldable pub is_leaf : View → Bool
is_leaf v = v.kind == leaf_kind

unfoldable pub count : View → ℕ
count v = length v.certs + length v.children

-- ── Entries in bytes ────────────────────────────────────────────────────────────────────────────────────────────

-- so many entries of one size, one after the other
unfoldable pub read_each : {A : Type 0} → (List ℕ → A) → ℕ → ℕ → List ℕ → List A
read_each read size zero b = []
read_each read size (suc k) b = read b ∷ read_each read size k (drop size b)

unfoldable pub write_each : {A : Type 0} → (A → List ℕ) → List A → List ℕ
write_each write [] = []
write_each write (x ∷ xs) = write x ++ write_each write xs

unfoldable pub cert_in : List ℕ → Cert
cert_in b = record { key = le_at b 0 8; value = le_at b 8 4 }

unfoldable pub cert_bytes : Cert → List ℕ
cert_bytes x = le 8 x.key ++ le 4 x.value

unfoldable pub child_in : List ℕ → Child
child_in b = record {
  key = le_at b 0 8;
  value = record { child = le_at b 8 2; previous = le_at b 10 2; birth = le_at b 12 4 };
}

unfoldable pub child_bytes : Child → List ℕ
child_bytes x =
    le 8 x.key ++ (le 2 x.value.child ++ (le 2 x.value.previous ++ le 4 x.value.birth))

-- ── A page read ─────────────────────────────────────────────────────────────────────────────────────────────────

unfoldable pub view_in : List ℕ → View
view_in b =
    elim (le_at b 0 2 == leaf_kind) [
      | true ↦ record {
        kind = le_at b 0 2;
        certs = read_each cert_in cert_size (le_at b 2 2) (drop leaf_header b);
        children = [];
      }
      | false ↦ record {
        kind = le_at b 0 2;
        certs = [];
        children = read_each child_in child_size (le_at b 2 2) (drop inner_header b);
      }
    ]

unfoldable pub page_in : List ℕ → Page
page_in b = record {
  view = view_in b;
  birth = le_at b 4 4;
  built = le_at b 8 4;
  touched = le_at b 12 4;
  low = le_at b 16 8;
  high = le_at b 24 8;
}

-- ── A page written ──────────────────────────────────────────────────────────────────────────────────────────────

unfoldable pub header_bytes : Page → List ℕ
header_bytes p =
    le 2 p.view.kind
    ++ (le 2 (count p.view)
    ++ (le 4 p.birth ++ (le 4 p.built ++ (le 4 p.touched ++ (le 8 p.low ++ le 8 p.high)))))

unfoldable pub page_bytes : Page → List ℕ
page_bytes p =
    header_bytes p ++ (write_each cert_bytes p.view.certs ++ write_each child_bytes p.view.children)

-- bytes put over the start of others: what lies behind them stays
unfoldable pub over : {A : Type 0} → List A → List A → List A
over new old = new ++ drop (length new) old

unfoldable pub blank : List ℕ
blank = replicate page_size 0

-- a page that a call builds is zero after its last entry
unfoldable pub build_bytes : Page → List ℕ
build_bytes p = over (page_bytes p) blank

-- a page changed where it stands keeps the bytes behind its last entry
unfoldable pub change_bytes : Page → List ℕ → List ℕ
change_bytes p old = over (page_bytes p) old

-- a leaf changed where it stands that has one certificate less: the place that was the last one's is zero
unfoldable pub shrink_bytes : Page → List ℕ → List ℕ
shrink_bytes p old = over (page_bytes p ++ replicate cert_size 0) old

-- a page that a call builds: built and touched now
unfoldable pub fresh : ℕ → ℕ → ℕ → ℕ → View → Page
fresh c birth low high v = record { view = v; birth = birth; built = c; touched = c; low = low; high = high }

-- a page changed where it stands: it shows something else, and is touched now
unfoldable pub touch : ℕ → View → Page → Page
touch c v p = record {
  view = v;
  birth = p.birth;
  built = p.built;
  touched = c;
  low = p.low;
  high = p.high;
}
