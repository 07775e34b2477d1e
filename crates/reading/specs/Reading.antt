-- What a reader may rely on.
use Rattle.std.specs.Prelude.{ℕ, ◌^◌, ◌≤◌, ◌<◌, ◌≡◌, true, length, take, Ok}
use mathlib.Core.List.{List, ◌∷◌, Memᴰ}
use Rattle.std.proofs.Math.Option.{some}
use Rattle.rules.specs.Key.{key_of, model_of, serial_of, issue_of, good_key}
use Rattle.rules.specs.Entry.{Cert, keys}
use Rattle.rules.specs.Page.{Page, is_leaf}
use Rattle.rules.specs.Enter.{enter}
use Rattle.rules.specs.Walk.{Step, way_of, Walked, enters}
use Rattle.rules.specs.Lookup.{lookup}
use Rattle.rules.specs.Newest.{meter, newest}
use Rattle.rules.specs.HasAny.{first_of, has_any}
use Rattle.rules.specs.List.{ListLeft, up_from, records_of, list}
use Rattle.rules.specs.declared.Place.{Place}
use Rattle.rules.specs.declared.Asked.{Asked}
use Rattle.rules.specs.declared.Session.{Session}
use Rattle.rules.specs.Answer.{newest_is}
use Rattle.answers.specs.Range.{Parent, numbers_of, Comes}

-- the last issue that newest asks for, where the range of every meter ends: 32,767
unfoldable pub last_issue : ℕ
last_issue = issue_of (meter 1 1).high

-- ── A record that is found ──────────────────────────────────────────────────────────────────────────────────────

-- x is the record of an entry with exactly these parts, in the leaf that the walk of the key read last
pub record Exact (s : Session) (w : List ℕ) (model serial issue x : ℕ) : Type 0 where
  pub leaf : Step
  pub above : List Step
  pub way : (way_of s.n s.c (key_of model serial issue) w).steps ≡ some (leaf ∷ above)
  pub is_leaf_lem : is_leaf leaf.page.view ≡ true
  pub entry : Cert
  pub held : Memᴰ entry leaf.page.view.certs
  pub same_model : model_of entry.key ≡ model
  pub same_serial : serial_of entry.key ≡ serial
  pub same_issue : issue_of entry.key ≡ issue
  pub value : entry.value ≡ x

-- in tables of any bytes, with any session
unfoldable pub LookupExact : Type 0
LookupExact =
    (w t : List ℕ) (s : Session) (model serial issue x : ℕ) → serial < 2 ^ 32 → issue < 2 ^ 16
    → (lookup w t s model serial issue).answer ≡ Ok x → Exact s w model serial issue x

-- ── Certificates of a range ─────────────────────────────────────────────────────────────────────────────────────

-- an entry of a leaf that the walk over a range came to, entered and read; its key was asked for, and no part of it is 0
pub record ReadFrom (n c : ℕ) (a : Asked) (w : List ℕ) (entry : Cert) : Type 0 where
  pub above : List Parent
  pub so_far : Walked
  pub place : Place
  pub comes : Comes n c a w above so_far place
  pub entered : enters a place so_far ≡ true
  pub leaf : Page
  pub found : (enter n c (numbers_of above) so_far.table place).page ≡ some leaf
  pub is_leaf_lem : is_leaf leaf.view ≡ true
  pub held : Memᴰ entry leaf.view.certs
  pub from : a.low ≤ entry.key
  pub to : entry.key ≤ a.high
  pub good : good_key entry.key ≡ true

-- i and x are issue and record of one such entry, of exactly this meter
pub record ExactNewest (s : Session) (w : List ℕ) (model serial i x : ℕ) : Type 0 where
  pub entry : Cert
  pub read_from : ReadFrom s.n s.c (meter model serial) w entry
  pub of_model : model_of entry.key ≡ model
  pub of_serial : serial_of entry.key ≡ serial
  pub of_issue : issue_of entry.key ≡ i
  pub value : entry.value ≡ x
  pub first : 1 ≤ i
  pub last : i ≤ last_issue

-- one such entry, of exactly this meter
pub record ExactAny (s : Session) (w : List ℕ) (model serial : ℕ) : Type 0 where
  pub entry : Cert
  pub read_from : ReadFrom s.n s.c (first_of model serial) w entry
  pub of_model : model_of entry.key ≡ model
  pub of_serial : serial_of entry.key ≡ serial

-- the k places that are filled have key and record of such entries
pub record ExactList (s : Session) (w : List ℕ) (start : ℕ) (ks xs : List ℕ) (k : ℕ) (r : ListLeft) : Type 0 where
  pub entries : List Cert
  pub many : length entries ≡ k
  pub in_keys : take k r.keys ≡ keys entries
  pub in_records : take k r.records ≡ records_of entries
  pub read_from : (entry : Cert) → Memᴰ entry entries → ReadFrom s.n s.c (up_from start ks xs) w entry

-- in tables of any bytes, with any session
unfoldable pub NewestExact : Type 0
NewestExact =
    (w t : List ℕ) (s : Session) (model serial i x : ℕ) → serial < 2 ^ 32
    → (newest w t s model serial).answer ≡ Ok (newest_is i x) → ExactNewest s w model serial i x

unfoldable pub AnyExact : Type 0
AnyExact =
    (w t : List ℕ) (s : Session) (model serial : ℕ) → serial < 2 ^ 32
    → (has_any w t s model serial).answer ≡ Ok true → ExactAny s w model serial

unfoldable pub ListExact : Type 0
ListExact =
    (w t : List ℕ) (s : Session) (start : ℕ) (ks xs : List ℕ) (k : ℕ)
    → (list w t s start ks xs).answer ≡ Ok k → ExactList s w start ks xs k (list w t s start ks xs)
