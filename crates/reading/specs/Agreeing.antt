-- Lookup, newest, has-any and list answer by one list of certificates: those of the tree as it stands, as opening reads it.
use Rattle.std.specs.Prelude.{ℕ, ◌^◌, ◌≤◌, ◌<◌, min, ◌≡◌, true, ◌&&◌, List, ltb, length, take, Ok, Err}
use Rattle.std.proofs.Math.Option.{Option, some, none}
use Rattle.fields.specs.Field.{Bytes}
use Rattle.rules.specs.Layout.{last_key, largest_issue}
use Rattle.rules.specs.Key.{key_of, good_parts}
use Rattle.rules.specs.Entry.{Cert, keys, find, cut, put, rising}
use Rattle.rules.specs.Page.{over}
use Rattle.rules.specs.Table.{fit0}
use Rattle.rules.specs.Tree.{tree_of, good_tree}
use Rattle.rules.specs.Call.{lengths_for}
use Rattle.rules.specs.Lookup.{lookup}
use Rattle.rules.specs.Newest.{newest}
use Rattle.rules.specs.HasAny.{any_in, has_any}
use Rattle.rules.specs.List.{ListLeft, records_of, list}
use Rattle.rules.specs.History.{Event, State, run, start, AllProper}
use Rattle.rules.specs.Demand.{Lent}
use Rattle.rules.specs.declared.Session.{Session}
use Rattle.rules.specs.Answer.{Looked, Newest, newest_is}
use Rattle.rules.specs.declared.FindError.{FindError}
use Rattle.reading.specs.Reading.{last_issue}
use Rattle.reading.specs.Inserting.{inserted}

-- ── What the tree holds ─────────────────────────────────────────────────────────────────────────────────────────

-- the certificates of the tree as it stands in a working table
unfoldable pub held : Session → List ℕ → List Cert
held s w = (tree_of s.n w).certs

-- what a call tests of the lengths and of page 0, and what opening tests of the tree
pub record Passes (w t : List ℕ) (s : Session) : Type 0 where
  pub bytes : Bytes w
  pub counter : s.c < 256 ^ 4
  pub lengths : lengths_for s w t ≡ true
  pub fit : fit0 s.n w ≡ true
  pub good : good_tree (tree_of s.n w) ≡ true

-- ── Answers by a list of certificates ───────────────────────────────────────────────────────────────────────────

-- what a lookup answers that found this
unfoldable pub answer_for : Option ℕ → Looked
answer_for none = Err FindError.Missing
answer_for (some x) = Ok x

-- the largest issue of a meter among some certificates, and its record
pub data Largest (certs : List Cert) (model serial : ℕ) (answer : Newest) : Type 0 where
  found : (i x : ℕ) → answer ≡ Ok (newest_is i x) → 1 ≤ i → i ≤ last_issue → find (key_of model serial i) certs ≡ some x
      → ((j : ℕ) → i < j → j ≤ last_issue → find (key_of model serial j) certs ≡ none)
      → Largest certs model serial answer
  missing : answer ≡ Err FindError.Missing
      → ((j : ℕ) → 1 ≤ j → j ≤ last_issue → find (key_of model serial j) certs ≡ none)
      → Largest certs model serial answer

-- the first so many from a start on, in two lists
unfoldable pub listed_from : ℕ → List ℕ → List ℕ → List Cert → List Cert
listed_from start ks xs certs = take (min (length ks) (length xs)) (cut start last_key certs)

pub record Fills (certs : List Cert) (start : ℕ) (ks xs : List ℕ) (r : ListLeft) : Type 0 where
  pub answer : r.answer ≡ Ok (length (listed_from start ks xs certs))
  pub keys : r.keys ≡ over (keys (listed_from start ks xs certs)) ks
  pub records : r.records ≡ over (records_of (listed_from start ks xs certs)) xs

-- what a listing from a meter's first issue on shows of the meter
unfoldable pub listed_of : ℕ → ℕ → List ℕ → List ℕ → List Cert → List Cert
listed_of model serial ks xs certs =
    cut (key_of model serial 1) (key_of model serial largest_issue) (listed_from (key_of model serial 1) ks xs certs)

-- ── The promises ────────────────────────────────────────────────────────────────────────────────────────────────

pub record Agree (w t : List ℕ) (s : Session) : Type 0 where
  -- no key stands twice
  pub rises : rising (keys (held s w)) ≡ true
  pub lookup_agrees : (model serial issue : ℕ) → model < 2 ^ 16 → serial < 2 ^ 32 → issue < 2 ^ 16 → good_parts model serial issue ≡ true
      → (lookup w t s model serial issue).answer ≡ answer_for (find (key_of model serial issue) (held s w))
  pub newest_agrees : (model serial : ℕ) → serial < 2 ^ 32 → (ltb 0 model && ltb 0 serial) ≡ true
      → Largest (held s w) model serial (newest w t s model serial).answer
  pub list_agrees : (start : ℕ) (ks xs : List ℕ) → Fills (held s w) start ks xs (list w t s start ks xs)
  -- yes exactly if a listing of the meter shows something, into lists with a place at least
  pub any_agrees : (model serial : ℕ) → model < 2 ^ 16 → serial < 2 ^ 32 → (ltb 0 model && ltb 0 serial) ≡ true
      → (ks xs : List ℕ) → 0 < min (length ks) (length xs)
      → (has_any w t s model serial).answer ≡ any_in (listed_of model serial ks xs (held s w))
  -- and none of them changes what the tree holds
  pub after_lookup : (model serial issue : ℕ) → model < 2 ^ 16 → serial < 2 ^ 32 → issue < 2 ^ 16
      → held s (lookup w t s model serial issue).working ≡ held s w
  pub after_newest : (model serial : ℕ) → held s (newest w t s model serial).working ≡ held s w
  pub after_any : (model serial : ℕ) → held s (has_any w t s model serial).working ≡ held s w
  pub after_list : (start : ℕ) (ks xs : List ℕ) → held s (list w t s start ks xs).working ≡ held s w

-- a store of a history
pub record AgreeIn (m : State) : Type 0 where
  pub passes : Passes m.working m.stable m.session
  pub agree : Agree m.working m.stable m.session

-- in tables of any bytes that pass the tests
unfoldable pub ReadersAgree : Type 0
ReadersAgree = (w t : List ℕ) (s : Session) → Passes w t s → Agree w t s

-- at every point of every history while the last opening was done
unfoldable pub HistoriesAgree : Type 0
HistoriesAgree =
    (n : ℕ) (w s : List ℕ) → Lent n w s → (h : List Event) → AllProper n h → (run h (start w s)).session.n ≡ n
    → AgreeIn (run h (start w s))

-- and an insert that is done there puts one certificate into the tree, in key order
unfoldable pub InsertPuts : Type 0
InsertPuts =
    (n : ℕ) (w s : List ℕ) → Lent n w s → (h : List Event) → AllProper n h → (run h (start w s)).session.n ≡ n
    → (model serial issue x : ℕ) → model < 65536 → serial < 4294967296 → issue < 65536 → x < 4294967296
    → (inserted (run h (start w s)) model serial issue x).answer ≡ Ok tt
    → held (inserted (run h (start w s)) model serial issue x).session (inserted (run h (start w s)) model serial issue x).working
    ≡ put (record { key = key_of model serial issue; value = x }) (held (run h (start w s)).session (run h (start w s)).working)
