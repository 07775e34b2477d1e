-- What a call leaves: its answer, the session, both tables. And the paper's number for each answer, with the numbers
-- beside it, which are 0 with any answer but 0.
use Rattle.std.specs.Prelude.{◌≡◌, ℕ, Bool, ◌&&◌, List, ◌==◌, Ok, Err, Result, true, false}
use Rattle.rules.specs.Table.{good_lengths, pages}
use Rattle.rules.specs.declared.Session.{Session}
use Rattle.rules.specs.Answer.{Batched, Formatted, Opened, Inserted, Withdrawn, Looked, Newest, Any, Listed, Synced}
use Rattle.rules.specs.declared.LengthError.{LengthError}
use Rattle.rules.specs.declared.OpenError.{OpenError}
use Rattle.rules.specs.declared.InsertError.{InsertError}
use Rattle.rules.specs.declared.FindError.{FindError}
use Rattle.rules.specs.declared.AnyError.{AnyError}
use Rattle.rules.specs.declared.ListError.{ListError}
use Rattle.rules.specs.declared.SyncError.{SyncError}

pub record Left (A : Type 0) : Type 0 where
  pub answer : A
  pub session : Session
  pub working : List ℕ
  pub stable : List ℕ

-- no byte changed, and the session is as it came
pub record Unchanged {A : Type 0} (w t : List ℕ) (s : Session) (r : Left A) : Type 0 where
  pub working : r.working ≡ w
  pub stable : r.stable ≡ t
  pub session : r.session ≡ s

-- what a call with a session tests first
unfoldable pub lengths_for : Session → List ℕ → List ℕ → Bool
lengths_for s w t = good_lengths w t && s.n == pages w

-- ── The paper's numbers ─────────────────────────────────────────────────────────────────────────────────────────

-- of each refusal
unfoldable pub length_error_no : LengthError → ℕ
length_error_no LengthError.Length = 1

unfoldable pub open_error_no : OpenError → ℕ
open_error_no OpenError.Length = 1
open_error_no OpenError.Damaged = 3
open_error_no OpenError.Spent = 8

unfoldable pub insert_error_no : InsertError → ℕ
insert_error_no InsertError.Length = 1
insert_error_no InsertError.BadKey = 2
insert_error_no InsertError.Damaged = 3
insert_error_no InsertError.Present = 5
insert_error_no InsertError.SyncFirst = 6
insert_error_no InsertError.Full = 7

unfoldable pub find_error_no : FindError → ℕ
find_error_no FindError.Length = 1
find_error_no FindError.BadKey = 2
find_error_no FindError.Damaged = 3
find_error_no FindError.Missing = 4

unfoldable pub any_error_no : AnyError → ℕ
any_error_no AnyError.Length = 1
any_error_no AnyError.BadKey = 2
any_error_no AnyError.Damaged = 3

unfoldable pub list_error_no : ListError → ℕ
list_error_no ListError.Length = 1
list_error_no ListError.Damaged = 3

unfoldable pub sync_error_no : SyncError → ℕ
sync_error_no SyncError.Length = 1
sync_error_no SyncError.Spent = 8

-- of an answer: 0 is done
abbrev pub answer_no : {A E : Type 0} → (E → ℕ) → Result A E → ℕ
answer_no error_no (Ok x) = 0
answer_no error_no (Err e) = error_no e

abbrev pub formatted_no : Formatted → ℕ
formatted_no = answer_no length_error_no

abbrev pub batched_no : Batched → ℕ
batched_no = answer_no length_error_no

abbrev pub opened_no : Opened → ℕ
opened_no = answer_no open_error_no

abbrev pub inserted_no : Inserted → ℕ
inserted_no = answer_no insert_error_no

abbrev pub withdrawn_no : Withdrawn → ℕ
withdrawn_no = answer_no find_error_no

abbrev pub looked_no : Looked → ℕ
looked_no = answer_no find_error_no

abbrev pub newest_no : Newest → ℕ
newest_no = answer_no find_error_no

abbrev pub any_no : Any → ℕ
any_no = answer_no any_error_no

abbrev pub listed_no : Listed → ℕ
listed_no = answer_no list_error_no

abbrev pub synced_no : Synced → ℕ
synced_no = answer_no sync_error_no

-- ── The numbers beside it ───────────────────────────────────────────────────────────────────────────────────────

unfoldable pub looked_record : Looked → ℕ
looked_record (Ok x) = x
looked_record (Err e) = 0

unfoldable pub newest_issue : Newest → ℕ
newest_issue (Ok x) = x.issue
newest_issue (Err e) = 0

unfoldable pub newest_record : Newest → ℕ
newest_record (Ok x) = x.value
newest_record (Err e) = 0

-- 1 is yes, 0 is no
unfoldable pub any_yes : Any → ℕ
any_yes (Ok true) = 1
any_yes (Ok false) = 0
any_yes (Err e) = 0

unfoldable pub listed_count : Listed → ℕ
listed_count (Ok k) = k
listed_count (Err e) = 0
