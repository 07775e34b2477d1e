-- Which certificates a file tells of, as its counts and places have it. It is asked of accepted files only.
use Rattle.std.specs.Prelude.{ℕ, zero, suc, ◌+◌, ◌*◌, List, [], ◌∷◌, get_or}
use Rattle.fields.specs.Field.{le_at}
use Rattle.rules.specs.Key.{model_of, serial_of, issue_of}
use Rattle.rules.specs.Entry.{Cert, keys}
use Rattle.exchange.specs.Item.{Item, size, span, count_width, item_at}
use Rattle.exchange.specs.Written.{roof}
use Rattle.exchange.specs.Judged.{meters_at, certs_at}
use Rattle.exchange.specs.declared.Section.{Section}
use Rattle.exchange.specs.declared.Certificate.{Certificate}

-- so many items from a byte on
unfoldable pub items_from : Section → List ℕ → ℕ → ℕ → List Item
items_from s f zero at = []
items_from s f (suc left) at = item_at s f at ∷ items_from s f left (at + size s)

-- the items of the section whose count begins there
unfoldable pub items_in : Section → List ℕ → ℕ → List Item
items_in s f at = items_from s f (le_at f at count_width) (at + count_width)

-- an item as an entry: what its place names, and its number behind it, are its key
unfoldable pub entry_of : ℕ → List ℕ → Item → Cert
entry_of b over i = record { key = get_or over i.place 0 * b + i.number; value = i.value }

unfoldable pub entries_of : ℕ → List ℕ → List Item → List Cert
entries_of b over [] = []
entries_of b over (i ∷ is) = entry_of b over i ∷ entries_of b over is

unfoldable pub told_by : Section → List ℕ → List ℕ → ℕ → List Cert
told_by s over f at = entries_of (span s) over (items_in s f at)

unfoldable pub models_in : List ℕ → List ℕ
models_in f = keys (told_by Section.Models roof f 0)

unfoldable pub meters_in : List ℕ → List ℕ
meters_in f = keys (told_by Section.Meters (models_in f) f (meters_at f))

unfoldable pub certs_in : List ℕ → List Cert
certs_in f = told_by Section.Certificates (meters_in f) f (certs_at f)

-- ── One certificate ─────────────────────────────────────────────────────────────────────────────────────────────

unfoldable pub cert_parts : Cert → Certificate
cert_parts e = record { model = model_of e.key; serial = serial_of e.key; issue = issue_of e.key; «record» = e.value }

-- the certificate at a place of the last section, from 0
unfoldable pub cert_in : List ℕ → ℕ → Certificate
cert_in f i = cert_parts (get_or (certs_in f) i (record { key = 0; value = 0 }))
