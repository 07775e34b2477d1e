-- What was found as the code keeps it: two lists, and how many certificates stand in them.
use Rattle.std.specs.Prelude.{ℕ, ◌+◌, ◌-◌, ◌*◌, ◌≤◌, ◌<◌, ◌≡◌, true, false, List, length, take, drop}
use Rattle.std.proofs.Math.Seq.{paste}
use Rattle.rules.specs.Layout.{page_size, most_pages, leaf_header, cert_size, leaf_room}
use Rattle.rules.specs.Entry.{Cert, keys, cut, rising}
use Rattle.rules.specs.Page.{read_each, cert_in, over}
use Rattle.rules.specs.Report.{Reported}
use Rattle.rules.specs.Walk.{Walked}
use Rattle.rules.specs.List.{records_of}
use Rattle.rules.specs.declared.Asked.{Asked}
use Rattle.rules.specs.declared.Report.{Report}
use Rattle.rules.specs.Table.{fit0}
use Rattle.dry.specs.Walk.{marked, dry_over}
use Rattle.fill.specs.declared.Filled.{Filled}

-- ── What was found ──────────────────────────────────────────────────────────────────────────────────────────────

-- how many certificates were found, and the two lists
pub record Lists : Type 0 where
  pub filled : ℕ
  pub keys : List ℕ
  pub records : List ℕ

abbrev pub listing : ℕ → List ℕ → List ℕ → Lists
listing filled ks xs = record { filled = filled; keys = ks; records = xs }

-- the certificates found stand over the start of the lists as they came
unfoldable pub lists_of : List ℕ → List ℕ → List Cert → Lists
lists_of ks xs found = record { filled = length found; keys = over (keys found) ks; records = over (records_of found) xs }

-- the table too, and what was mended
pub record Fill : Type 0 where
  pub table : List ℕ
  pub lists : Lists
  pub report : Report

abbrev pub filling : List ℕ → Filled → List ℕ → List ℕ → Fill
filling t r ks xs = record { table = t; lists = listing r.count ks xs; report = r.report }

unfoldable pub filled_in : List ℕ → List ℕ → Walked → Fill
filled_in ks xs w = record { table = w.table; lists = lists_of ks xs w.found; report = w.report }

-- the table and what was mended alone
abbrev pub mending : List ℕ → Report → Reported (List ℕ)
mending t x = record { left = t; report = x }

abbrev pub mended_in : Walked → Reported (List ℕ)
mended_in w = mending w.table w.report

-- ── What lies ahead ─────────────────────────────────────────────────────────────────────────────────────────────

-- both lists hold as many as there is room for
pub record Roomy (a : Asked) (ks xs : List ℕ) : Type 0 where
  pub keys : a.room ≤ length ks
  pub records : a.room ≤ length xs

-- it is not for want of room that a walk ends
abbrev pub HasRoom : Asked → Walked → Type 0
HasRoom a w = w.whole ≡ true → length w.found < a.room

-- the walk ahead meets no damaged place and would mend nothing
pub record Calm (n : ℕ) (a : Asked) (t : List ℕ) : Type 0 where
  pub long : length t ≡ n * page_size
  pub most : n ≤ most_pages
  pub fit : fit0 n t ≡ true
  pub whole : (dry_over n a t).whole ≡ true
  pub still : (i : ℕ) → marked (dry_over n a t).mended i ≡ false

-- ── One page ────────────────────────────────────────────────────────────────────────────────────────────────────

-- so many certificates of a leaf, from one on
unfoldable pub certs_from : List ℕ → ℕ → ℕ → List Cert
certs_from b first many = read_each cert_in cert_size many (drop (leaf_header + cert_size * first) b)

-- certificates put into the lists behind those found
unfoldable pub listed : List Cert → ℕ → List ℕ → List ℕ → Lists
listed found filled ks xs = record {
  filled = filled + length found;
  keys = paste ks filled (keys found) (length found);
  records = paste xs filled (records_of found) (length found);
}

-- those of a page that are asked for, while there is room
unfoldable pub asked : Asked → ℕ → List Cert → List Cert
asked a filled certs = take (a.room - filled) (cut a.low a.high certs)

-- what every sound leaf's certificates are, so that they can be sought by halving
pub record Sorted (certs : List Cert) : Type 0 where
  pub room : length certs ≤ leaf_room
  pub rise : rising (keys certs) ≡ true
