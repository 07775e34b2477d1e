-- Demand 3 as a statement about histories: what holds of a store at every point of every history. Its proof is the
-- theorem of that name in proofs/.
use Rattle.std.specs.Prelude.{◌≡◌, ℕ, ◌*◌, ◌<◌, ◌≤◌, min, Bool, true, false, not, ◌⊎◌, List, [], ◌∷◌, length, replicate, ◌≢◌, nat_le, Ok, Err}
use Rattle.std.proofs.Math.Option.{Option, some, none}
use Rattle.fields.specs.Field.{Bytes}
use Rattle.rules.specs.Layout.{page_size, fewest_pages, most_pages, last_key, last_number, last_final, largest_issue}
use Rattle.rules.specs.Test.{all, mem}
use Rattle.rules.specs.Key.{key_of, good_key}
use Rattle.rules.specs.Entry.{Cert, keys, find, rising}
use Rattle.rules.specs.Page.{over}
use Rattle.rules.specs.Table.{number0}
use Rattle.rules.specs.Call.{Left}
use Rattle.rules.specs.Open.{opening}
use Rattle.rules.specs.Insert.{insert}
use Rattle.rules.specs.Withdraw.{withdraw}
use Rattle.rules.specs.Lookup.{lookup}
use Rattle.rules.specs.Newest.{newest}
use Rattle.rules.specs.HasAny.{has_any}
use Rattle.rules.specs.List.{ListLeft, records_of, list}
use Rattle.rules.specs.History.{Event, State, inserts, withdraws, looks, asks_newest, asks_any, lists, syncs, opens, crashes, crashes_in_sync, step, run, start, AllProper, crash_now, crash_in_sync_now, content, latest, earliest}
use Rattle.rules.specs.Answer.{Opened, Inserted, Withdrawn, Looked, Newest, Any, newest_is}
use Rattle.rules.specs.declared.OpenError.{OpenError}
use Rattle.rules.specs.declared.FindError.{FindError}
use Rattle.rules.specs.declared.AnyError.{AnyError}
use Rattle.rules.specs.declared.ListError.{ListError}

-- ── Words ───────────────────────────────────────────────────────────────────────────────────────────────────────

-- the stable tables that a crash of a store can leave, between two calls or inside a sync
pub data CrashOf (m : State) : List ℕ → Type 0 where
  between_calls : (written : List Bool) → CrashOf m (crash_now written m)
  in_sync : (written : List Bool) → CrashOf m (crash_in_sync_now written m)

-- a state is one of those that a key has had
pub data OneOf (x : Option ℕ) : List (Option ℕ) → Type 0 where
  first : {xs : List (Option ℕ)} → OneOf x (x ∷ xs)
  later : {y : Option ℕ} {xs : List (Option ℕ)} → OneOf x xs → OneOf x (y ∷ xs)

-- a call on a store as it is now
abbrev pub lookup_now : State → ℕ → ℕ → ℕ → Left Looked
lookup_now m model serial issue = lookup m.working m.stable m.session model serial issue

abbrev pub newest_now : State → ℕ → ℕ → Left Newest
newest_now m model serial = newest m.working m.stable m.session model serial

abbrev pub has_any_now : State → ℕ → ℕ → Left Any
has_any_now m model serial = has_any m.working m.stable m.session model serial

abbrev pub list_now : State → ℕ → List ℕ → List ℕ → ListLeft
list_now m from ks xs = list m.working m.stable m.session from ks xs

abbrev pub insert_now : State → ℕ → ℕ → ℕ → ℕ → Left Inserted
insert_now m model serial issue x = insert m.working m.stable m.session model serial issue x

abbrev pub withdraw_now : State → ℕ → ℕ → ℕ → Left Withdrawn
withdraw_now m model serial issue = withdraw m.working m.stable m.session model serial issue

-- the events that only read
pub data Reads : Event → Type 0 where
  look : {model serial issue : ℕ} → Reads (looks model serial issue)
  ask : {model serial : ℕ} → Reads (asks_newest model serial)
  ask_any : {model serial : ℕ} → Reads (asks_any model serial)
  listing : {from : ℕ} {ks xs : List ℕ} → Reads (lists from ks xs)

-- two listings show the same; the pages they mended may differ
pub record SameListing (a b : ListLeft) : Type 0 where
  pub answer : a.answer ≡ b.answer
  pub keys : a.keys ≡ b.keys
  pub records : a.records ≡ b.records

-- a list shows entries, each with the record that its key has now
pub record ListTells (state : ℕ → Option ℕ) (from : ℕ) (ks xs : List ℕ) (r : ListLeft) : Type 0 where
  pub entries : List Cert
  pub answer : r.answer ≡ Ok (length entries)
  pub in_keys : r.keys ≡ over (keys entries) ks
  pub in_records : r.records ≡ over (records_of entries) xs
  -- in key order, none twice
  pub rise : rising (keys entries) ≡ true
  -- none but those from the start on that a lookup finds
  pub shown : (k x : ℕ) → find k entries ≡ some x → (from ≤ k) × (k ≤ last_key) × (good_key k ≡ true) × (state k ≡ some x)
  -- and all of them: one that is not shown stands behind those that are, where a list is full
  pub whole : (k x : ℕ) → from ≤ k → k ≤ last_key → state k ≡ some x
      → (find k entries ≡ some x)
      ⊎ ((length entries ≡ min (length ks) (length xs)) × ((j : ℕ) → mem j (keys entries) ≡ true → j < k))

-- newest shows the largest issue of a meter that is not provisional and has a record now, with it, or that none has
pub data NewestTells (state : ℕ → Option ℕ) (model serial : ℕ) (answer : Newest) : Type 0 where
  largest : (issue x : ℕ) → answer ≡ Ok (newest_is issue x) → 1 ≤ issue → issue ≤ last_final → state (key_of model serial issue) ≡ some x
      → ((j : ℕ) → issue < j → j ≤ last_final → state (key_of model serial j) ≡ none) → NewestTells state model serial answer
  missing : answer ≡ Err FindError.Missing → ((j : ℕ) → 1 ≤ j → j ≤ last_final → state (key_of model serial j) ≡ none)
      → NewestTells state model serial answer

-- has-any says yes exactly if an issue of the meter has a record now, a provisional one too
pub data AnyTells (state : ℕ → Option ℕ) (model serial : ℕ) (answer : Any) : Type 0 where
  some_issue : (issue x : ℕ) → answer ≡ Ok true → 1 ≤ issue → issue ≤ largest_issue → state (key_of model serial issue) ≡ some x
      → AnyTells state model serial answer
  no_issue : answer ≡ Ok false → ((j : ℕ) → 1 ≤ j → j ≤ largest_issue → state (key_of model serial j) ≡ none)
      → AnyTells state model serial answer

-- done, or spent exactly where the number is too high
unfoldable pub open_answer : List ℕ → Opened
open_answer s = elim (nat_le (number0 s) last_number) [ true ↦ Ok tt | false ↦ Err OpenError.Spent ]

-- what is found of a key after the opening of two tables
unfoldable pub after : List ℕ → List ℕ → ℕ → Option ℕ
after w s k =
    let r = opening w s in
    content r.session r.working r.stable k

-- ── What holds ──────────────────────────────────────────────────────────────────────────────────────────────────

-- of a crash now, and of the opening after it, which is lent the working table w
pub record Survives (m : State) (w : List ℕ) : Type 0 where
  pub opens : (s : List ℕ) → CrashOf m s → (opening w s).answer ≡ open_answer s
  -- every key shows one of the states it has had
  pub shows : (s : List ℕ) → CrashOf m s → (opening w s).answer ≡ Ok tt
      → (k : ℕ) → k ≤ last_key → OneOf (after w s k) (m.past k)
  -- one that was neither inserted nor withdrawn since the last sync or opening has had one state, and is found, or not, as it
  -- was then
  pub stays : (s : List ℕ) → CrashOf m s → (opening w s).answer ≡ Ok tt
      → (k : ℕ) (state : Option ℕ) → k ≤ last_key → m.past k ≡ state ∷ [] → after w s k ≡ state
  -- one that was there then and was not withdrawn since is there
  pub keeps : (s : List ℕ) → CrashOf m s → (opening w s).answer ≡ Ok tt
      → (k x : ℕ) → k ≤ last_key → earliest (m.past k) ≡ some x → (OneOf none (m.past k) → ⊥) → after w s k ≡ some x
  -- no page written: the set of the sync or opening; all written: that of the crash
  pub nothing_written : (opening w m.stable).answer ≡ Ok tt
      → (k : ℕ) → k ≤ last_key → after w m.stable k ≡ earliest (m.past k)
  pub all_written : (s : List ℕ) → s ≡ crash_now (replicate most_pages true) m → (opening w s).answer ≡ Ok tt
      → (k : ℕ) → k ≤ last_key → after w s k ≡ latest (m.past k)
  pub all_written_in_sync : (s : List ℕ) → s ≡ crash_in_sync_now (replicate most_pages true) m
      → (opening w s).answer ≡ Ok tt → (k : ℕ) → k ≤ last_key → after w s k ≡ latest (m.past k)

-- between crashes, while the last opening was done
pub record Serves (m : State) : Type 0 where
  -- the store is a map: a lookup answers by what was inserted and withdrawn
  pub looks_up : (k : ℕ) → k ≤ last_key → content m.session m.working m.stable k ≡ latest (m.past k)
  -- list, newest and has-any tell of the same entries, so what is said of lookups after a crash is said of them
  pub list_tells : (from : ℕ) (ks xs : List ℕ) → ListTells (λ k. latest (m.past k)) from ks xs (list_now m from ks xs)
  pub newest_tells : (model serial : ℕ) → 0 < model → model < 65536 → 0 < serial → serial < 4294967296
      → NewestTells (λ k. latest (m.past k)) model serial (newest_now m model serial).answer
  pub any_tells : (model serial : ℕ) → 0 < model → model < 65536 → 0 < serial → serial < 4294967296
      → AnyTells (λ k. latest (m.past k)) model serial (has_any_now m model serial).answer
  -- the session's total is the length of a full listing: a list from key 0 shows so many, or as many as it has room for
  pub counts : (ks xs : List ℕ) → (list_now m 0 ks xs).answer ≡ Ok (min (min (length ks) (length xs)) m.session.total)
  -- no reading call meets damage
  pub lookup_whole : (model serial issue : ℕ) → (lookup_now m model serial issue).answer ≢ Err FindError.Damaged
  pub newest_whole : (model serial : ℕ) → (newest_now m model serial).answer ≢ Err FindError.Damaged
  pub any_whole : (model serial : ℕ) → (has_any_now m model serial).answer ≢ Err AnyError.Damaged
  pub list_whole : (from : ℕ) (ks xs : List ℕ) → (list_now m from ks xs).answer ≢ Err ListError.Damaged
  -- none changes what a call answers after it: so the order of reading calls changes no answer of theirs, nor of an
  -- insert or a withdrawal
  pub lookup_stays : (e : Event) → Reads e → (model serial issue : ℕ)
      → (lookup_now (step e m) model serial issue).answer ≡ (lookup_now m model serial issue).answer
  pub newest_stays : (e : Event) → Reads e → (model serial : ℕ)
      → (newest_now (step e m) model serial).answer ≡ (newest_now m model serial).answer
  pub any_stays : (e : Event) → Reads e → (model serial : ℕ)
      → (has_any_now (step e m) model serial).answer ≡ (has_any_now m model serial).answer
  pub list_stays : (e : Event) → Reads e → (from : ℕ) (ks xs : List ℕ)
      → SameListing (list_now (step e m) from ks xs) (list_now m from ks xs)
  pub insert_stays : (e : Event) → Reads e → (model serial issue x : ℕ)
      → (insert_now (step e m) model serial issue x).answer ≡ (insert_now m model serial issue x).answer
  pub withdraw_stays : (e : Event) → Reads e → (model serial issue : ℕ)
      → (withdraw_now (step e m) model serial issue).answer ≡ (withdraw_now m model serial issue).answer

-- ── The demand ──────────────────────────────────────────────────────────────────────────────────────────────────

-- two lent tables of n pages
pub record Lent (n : ℕ) (w s : List ℕ) : Type 0 where
  pub few : fewest_pages ≤ n
  pub most : n ≤ most_pages
  pub working : length w ≡ n * page_size
  pub stable : length s ≡ n * page_size
  pub bytes : Bytes w
  pub bytes' : Bytes s

-- of a crash nothing is remembered but the stable table: the working table that is lent next is any of n pages
unfoldable pub Demand3 : Type 0
Demand3 =
    (n : ℕ) (w s : List ℕ) → Lent n w s → (h : List Event) → AllProper n h
    → ((u : List ℕ) → length u ≡ n * page_size → Survives (run h (start w s)) u)
    × ((run h (start w s)).opened ≡ Ok tt → Serves (run h (start w s)))

-- ── Without withdrawals ─────────────────────────────────────────────────────────────────────────────────────────

unfoldable pub is_withdrawal : Event → Bool
is_withdrawal (inserts model serial issue x) = false
is_withdrawal (withdraws model serial issue) = true
is_withdrawal (looks model serial issue) = false
is_withdrawal (asks_newest model serial) = false
is_withdrawal (asks_any model serial) = false
is_withdrawal (lists from ks xs) = false
is_withdrawal syncs = false
is_withdrawal opens = false
is_withdrawal (crashes written w) = false
is_withdrawal (crashes_in_sync written w) = false

-- in a history without them, every entry present at the last successful sync or opening before a crash is found with its
-- record
unfoldable pub AllKept : Type 0
AllKept =
    (n : ℕ) (w s : List ℕ) → Lent n w s → (h : List Event) → AllProper n h → all (λ e. not (is_withdrawal e)) h ≡ true
    → (u : List ℕ) → length u ≡ n * page_size → (t : List ℕ) → CrashOf (run h (start w s)) t → (opening u t).answer ≡ Ok tt
    → (k x : ℕ) → k ≤ last_key → earliest ((run h (start w s)).past k) ≡ some x → after u t k ≡ some x

-- ── The last opening ────────────────────────────────────────────────────────────────────────────────────────────

-- the session tells whether the last opening was done: it has the tables' n pages then, and else none
pub record SessionTells (n : ℕ) (m : State) : Type 0 where
  pub pages : m.opened ≡ Ok tt → m.session.n ≡ n
  pub done : m.session.n ≡ n → m.opened ≡ Ok tt
  pub refused : (m.opened ≢ Ok tt) → m.session.n ≡ 0

unfoldable pub OpenedTold : Type 0
OpenedTold = (n : ℕ) (w s : List ℕ) → Lent n w s → (h : List Event) → AllProper n h → SessionTells n (run h (start w s))
