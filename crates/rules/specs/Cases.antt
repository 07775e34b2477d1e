-- The bench cases of document 01 that are marked P, as one statement about the rules. Its proof computes; see proofs/.
--
-- Model 7, issue 1, serials upwards from 1, stores fresh from format and open.
use Rattle.std.specs.Prelude.{◌≡◌, ℕ, zero, suc, ◌+◌, ◌*◌, ◌^◌, ◌≤◌, Bool, true, false, ◌&&◌, List, [], ◌∷◌, length, replicate, ◌==◌, nat_eq, Ok, Err}
use Rattle.std.proofs.Math.Option.{some, none}
use Rattle.rules.specs.Layout.{page_size, fewest_pages, most_pages}
use Rattle.rules.specs.Key.{key_of}
use Rattle.rules.specs.Entry.{Child}
use Rattle.rules.specs.Page.{count}
use Rattle.rules.specs.Table.{read, number0, root0, set_number}
use Rattle.rules.specs.Marks.{free_pages, marks}
use Rattle.rules.specs.Walk.{Step, numbers, way_of}
use Rattle.rules.specs.Call.{Left, formatted_no, opened_no, inserted_no, withdrawn_no, looked_no, synced_no}
use Rattle.rules.specs.Format.{format}
use Rattle.rules.specs.Open.{opening}
use Rattle.rules.specs.Insert.{insert, new_pages}
use Rattle.rules.specs.Withdraw.{withdraw}
use Rattle.rules.specs.Lookup.{lookup}
use Rattle.rules.specs.Sync.{sync}
use Rattle.rules.specs.Crash.{mix}
use Rattle.rules.specs.declared.Session.{Session}
use Rattle.rules.specs.Answer.{Opened, Inserted, Withdrawn, Looked, Synced}

-- ── Stores and what is done to them ─────────────────────────────────────────────────────────────────────────────

-- a store between two calls
pub record Store : Type 0 where
  pub session : Session
  pub working : List ℕ
  pub stable : List ℕ

abbrev pub left : {A : Type 0} → Left A → Store
left r = record { session = r.session; working = r.working; stable = r.stable }

-- tables of n pages as they come, never written
unfoldable pub table : ℕ → List ℕ
table n = replicate (n * page_size) 0

-- fresh from format and open
unfoldable pub store : ℕ → Left Opened
store n = opening (table n) (format (table n) (table n)).stable

-- the insert of one serial; its record is its serial and 900
unfoldable pub inserting : Store → ℕ → Left Inserted
inserting m serial = insert m.working m.stable m.session 7 serial 1 (serial + 900)

-- serials from one on, so many, inserted one after the other
unfoldable pub loaded : Store → ℕ → ℕ → Store
loaded m from zero = m
loaded m from (suc more) = loaded (left (inserting m from)) (suc from) more

-- the lookup of one serial
unfoldable pub finding : Store → ℕ → Left Looked
finding m serial = lookup m.working m.stable m.session 7 serial 1

-- a lookup found this record
unfoldable pub is_found : ℕ → Looked → Bool
is_found y (Ok x) = x == y
is_found y (Err e) = false

-- so many serials, from one on, are found, each with its own record
unfoldable pub all_found : Store → ℕ → ℕ → Bool
all_found m from zero = true
all_found m from (suc more) = is_found (from + 900) (finding m from).answer && all_found m (suc from) more

-- the pages on the way of a serial's key
unfoldable pub way_to : Store → ℕ → List Step
way_to m serial =
    elim (way_of m.session.n m.session.c (key_of 7 serial 1) m.working).steps
    [ some steps ↦ steps | none ↦ [] ]

-- how many entries a working page has, and its kind
unfoldable pub entries_at : Store → ℕ → ℕ
entries_at m i = count (read m.working i).view

unfoldable pub kind_at : Store → ℕ → ℕ
kind_at m i = (read m.working i).view.kind

-- the pages that its entries name
unfoldable pub named : List Child → List ℕ
named [] = []
named (x ∷ xs) = x.value.child ∷ named xs

unfoldable pub children_at : Store → ℕ → List ℕ
children_at m i = named (read m.working i).view.children

-- how many new pages an insert needs, and how many are free for it
unfoldable pub needed : Store → ℕ → ℕ
needed m serial = new_pages (way_to m serial)

unfoldable pub unused : Store → ℕ → ℕ
unused m serial = length (free_pages m.session (numbers (way_to m serial)))

-- 40 serials in a store of n pages
unfoldable pub forty : ℕ → Store
forty n = loaded (left (store n)) 1 40

-- 40 inserts, a sync, the 41st at n = 5
unfoldable pub synced40 : Left Synced
synced40 =
    let m = forty 5 in
    sync m.working m.stable m.session

unfoldable pub synced41 : Left Inserted
synced41 = inserting (left synced40) 41

-- and then a crash with some pages written, and an opening
unfoldable pub reopened : List Bool → Left Opened
reopened written = opening synced41.working (mix written synced41.working synced41.stable)

-- the 41st insert in a store of 5 pages
unfoldable pub split41 : Left Inserted
split41 = inserting (forty 5) 41

-- the pages of a store of 5 that a crash wrote
unfoldable pub pages04 : List Bool
pages04 = true ∷ (false ∷ (false ∷ (false ∷ (true ∷ []))))

unfoldable pub page0 : List Bool
page0 = true ∷ []

unfoldable pub page1 : List Bool
page1 = false ∷ (true ∷ [])

unfoldable pub pages23 : List Bool
pages23 = false ∷ (false ∷ (true ∷ (true ∷ [])))

unfoldable pub all_pages : List Bool
all_pages = replicate 5 true

-- serial 1 withdrawn after the 41st insert, and then a crash that writes page 1 alone, the page that was split, and an opening
unfoldable pub recalled : Left Withdrawn
recalled = withdraw split41.working split41.stable split41.session 7 1 1

unfoldable pub restored : Left Opened
restored = opening recalled.working (mix page1 recalled.working recalled.stable)

-- a stable table of 4 pages, fresh but for its number
unfoldable pub numbered : ℕ → List ℕ
numbered number = set_number (format (table 4) (table 4)).stable number

-- ── The cases ───────────────────────────────────────────────────────────────────────────────────────────────────

-- 1: format then open gives c = 2 and number 3 in both tables, of any n from 4 to 128
pub record Case1 (n : ℕ) : Type 0 where
  pub c : (store n).session.c ≡ 2
  pub working : number0 (store n).working ≡ 3
  pub stable : number0 (store n).stable ≡ 3

-- 2: the key of 7, 1, 1
pub record Case2 : Type 0 where
  pub key : key_of 7 1 1 ≡ 7 * 2 ^ 48 + 65537

-- 3: n = 3 and 129 answer 1, n = 4 and 128 are done
pub record Case3 : Type 0 where
  pub format_3 : formatted_no (format (table 3) (table 3)).answer ≡ 1
  pub format_4 : formatted_no (format (table 4) (table 4)).answer ≡ 0
  pub format_128 : formatted_no (format (table 128) (table 128)).answer ≡ 0
  pub format_129 : formatted_no (format (table 129) (table 129)).answer ≡ 1
  pub open_3 : opened_no (store 3).answer ≡ 1
  pub open_4 : opened_no (store 4).answer ≡ 0
  pub open_128 : opened_no (store 128).answer ≡ 0
  pub open_129 : opened_no (store 129).answer ≡ 1

-- 4: n = 4, the 41st insert answers 7: 3 new pages, 2 free
pub record Case4 : Type 0 where
  pub held : all_found (forty 4) 1 40 ≡ true
  pub answer : inserted_no (inserting (forty 4) 41).answer ≡ 7
  pub new : needed (forty 4) 41 ≡ 3
  pub free : unused (forty 4) 41 ≡ 2

-- 5: n = 5, the 41st is done: halves on pages 2 and 3 with 20 and 21 entries, root on page 4, page 1 waiting
pub record Case5 : Type 0 where
  pub answer : inserted_no split41.answer ≡ 0
  pub lower : entries_at (left split41) 2 ≡ 20
  pub upper : entries_at (left split41) 3 ≡ 21
  pub leaves : (kind_at (left split41) 2 ≡ 1) × (kind_at (left split41) 3 ≡ 1)
  pub root : root0 split41.working ≡ 4
  pub over : kind_at (left split41) 4 ≡ 2
  pub children : children_at (left split41) 4 ≡ 2 ∷ (3 ∷ [])
  pub waiting : split41.session.waiting ≡ marks (nat_eq 1)

-- 6 to 9: 40 inserts, then the sync and the 41st, both done
pub record Before6 : Type 0 where
  pub synced : synced_no synced40.answer ≡ 0
  pub inserted : inserted_no synced41.answer ≡ 0

-- 6: crash with pages 0 and 4: serial 21 is found, and so are all of the 40, page 3 is mended to 20 entries,
-- serial 41 answers 4
pub record Case6 : Type 0 where
  pub opened : opened_no (reopened pages04).answer ≡ 0
  pub held : all_found (left (reopened pages04)) 1 40 ≡ true
  pub mended : entries_at (left (finding (left (reopened pages04)) 21)) 3 ≡ 20
  pub missing : looked_no (finding (left (reopened pages04)) 41).answer ≡ 4

-- 7: the same with page 0 only: page 4 becomes a leaf of 40
pub record Case7 : Type 0 where
  pub opened : opened_no (reopened page0).answer ≡ 0
  pub leaf : kind_at (left (finding (left (reopened page0)) 21)) 4 ≡ 1
  pub mended : entries_at (left (finding (left (reopened page0)) 21)) 4 ≡ 40

-- 8: the same with pages 2 and 3 only: root 1, 40 found, the 41st not
pub record Case8 : Type 0 where
  pub opened : opened_no (reopened pages23).answer ≡ 0
  pub root : root0 (reopened pages23).working ≡ 1
  pub held : all_found (left (reopened pages23)) 1 40 ≡ true
  pub missing : looked_no (finding (left (reopened pages23)) 41).answer ≡ 4

-- 9: the same with all: 41 found, no 42nd
pub record Case9 : Type 0 where
  pub opened : opened_no (reopened all_pages).answer ≡ 0
  pub held : all_found (left (reopened all_pages)) 1 41 ≡ true
  pub missing : looked_no (finding (left (reopened all_pages)) 42).answer ≡ 4

-- 11: number 4,294,967,293 opens; 4,294,967,294 answers 8
pub record Case11 : Type 0 where
  pub opens : opened_no (opening (table 4) (numbered 4294967293)).answer ≡ 0
  pub spent : opened_no (opening (table 4) (numbered 4294967294)).answer ≡ 8

-- beside document 01's cases: a withdrawal is done, and the lower half has 19 entries; after the crash serial 1 is found with
-- its record, though it was there neither at the opening nor at the crash
pub record Recall : Type 0 where
  pub answer : withdrawn_no recalled.answer ≡ 0
  pub lower : entries_at (left recalled) 2 ≡ 19
  pub total : recalled.session.total ≡ 40
  pub missing : looked_no (finding (left recalled) 1).answer ≡ 4
  pub opened : opened_no restored.answer ≡ 0
  pub found : is_found 901 (finding (left restored) 1).answer ≡ true

pub record Cases : Type 0 where
  pub case1 : (n : ℕ) → fewest_pages ≤ n → n ≤ most_pages → Case1 n
  pub case2 : Case2
  pub case3 : Case3
  pub case4 : Case4
  pub case5 : Case5
  pub before6 : Before6
  pub case6 : Case6
  pub case7 : Case7
  pub case8 : Case8
  pub case9 : Case9
  pub case11 : Case11
  pub recall : Recall
