-- Demand 1 about the rules, and what document 01 says beside its table of answers. For any page bytes, length, session
-- and key: nothing is asked of them.
use Rattle.std.specs.Prelude.{ℕ, ◌≡◌, true, List, [], ◌∷◌}
use Rattle.fields.specs.Field.{Bytes}
use Rattle.rules.specs.Test.{mem}
use Rattle.rules.specs.Key.{key_of}
use Rattle.rules.specs.Table.{fit0}
use Rattle.rules.specs.Marks.{nobody}
use Rattle.rules.specs.Call.{batched_no, Left, formatted_no, opened_no, inserted_no, withdrawn_no, looked_no, looked_record, newest_no, newest_issue, newest_record, any_no, any_yes, listed_no, listed_count, synced_no, Unchanged}
use Rattle.rules.specs.Format.{format}
use Rattle.rules.specs.Open.{opening}
use Rattle.rules.specs.Insert.{insert}
use Rattle.rules.specs.Withdraw.{withdraw}
use Rattle.rules.specs.Batch.{Between, item_no, BatchLeft, batch}
use Rattle.rules.specs.Lookup.{lookup}
use Rattle.rules.specs.Newest.{newest, meter}
use Rattle.rules.specs.HasAny.{has_any, first_of}
use Rattle.rules.specs.List.{list, up_from}
use Rattle.rules.specs.Sync.{sync}
use Rattle.rules.specs.declared.Session.{Session}
use Rattle.exchange.specs.ReadFile.{Read, read_no, read_count, read_place, read_file}
use Rattle.rules.specs.declared.Item.{Item}
use Rattle.rules.specs.declared.Asked.{Asked}
use Rattle.rules.specs.Answer.{Looked, Newest, Any, Listed}
use Rattle.answers.specs.OneKey.{EndsIn, MendedBy}
use Rattle.answers.specs.Range.{StopsIn, MendedIn}
use Rattle.answers.specs.Causes.{BeforeWalk}

-- ── Words ───────────────────────────────────────────────────────────────────────────────────────────────────────

-- a number stands in a list of numbers
abbrev pub Among : ℕ → List ℕ → Type 0
Among k ks = mem k ks ≡ true

-- any answer but 0
abbrev pub Refused : ℕ → Type 0
Refused k = k ≡ 0 → ⊥

-- nothing changed but pages that the walk of key k had to mend, each by the mending rule
pub record WalkMended {A : Type 0} (k : ℕ) (w t : List ℕ) (s : Session) (r : Left A) : Type 0 where
  pub working : MendedBy s.n s.c k w r.working
  pub stable : r.stable ≡ t
  pub session : r.session ≡ s

-- the same of a walk over a range, told of what a call leaves
pub record RangeMended (a : Asked) (w t : List ℕ) (s : Session) (w' t' : List ℕ) (s' : Session) : Type 0 where
  pub working : MendedIn s.n s.c a w w'
  pub stable : t' ≡ t
  pub session : s' ≡ s

-- no byte and no item changed, and the session is as it came
pub record BatchUnchanged (w t : List ℕ) (s : Session) (xs : List Item) (r : BatchLeft) : Type 0 where
  pub working : r.working ≡ w
  pub stable : r.stable ≡ t
  pub session : r.session ≡ s
  pub items : r.items ≡ xs

-- ── The demand ──────────────────────────────────────────────────────────────────────────────────────────────────

pub record Demand1 : Type 0 where
  -- every call ends with an answer from the table, and one that it can give
  pub format_answers : (w s : List ℕ) → Among (formatted_no (format w s).answer) (0 ∷ 1 ∷ [])
  pub open_answers : (w s : List ℕ) → Among (opened_no (opening w s).answer) (0 ∷ 1 ∷ 3 ∷ 8 ∷ [])
  pub insert_answers : (w t : List ℕ) (s : Session) (model serial issue x : ℕ)
      → Among (inserted_no (insert w t s model serial issue x).answer) (0 ∷ 1 ∷ 2 ∷ 3 ∷ 5 ∷ 6 ∷ 7 ∷ [])
  pub withdraw_answers : (w t : List ℕ) (s : Session) (model serial issue : ℕ)
      → Among (withdrawn_no (withdraw w t s model serial issue).answer) (0 ∷ 1 ∷ 2 ∷ 3 ∷ 4 ∷ [])
  pub batch_answers : (w t : List ℕ) (s : Session) (xs : List Item)
      → Among (batched_no (batch w t s xs).left.answer) (0 ∷ 1 ∷ [])
  pub item_answers : (t : List ℕ) (m : Between) (x : Item) → Among (item_no t m x) (0 ∷ 1 ∷ 2 ∷ 3 ∷ 5 ∷ 6 ∷ 7 ∷ [])
  pub read_answers : (w t : List ℕ) (s : Session) (f : List ℕ) → Bytes f
      → Among (read_no (read_file w t s f).left.answer) (0 ∷ 1 ∷ 11 ∷ [])
  pub lookup_answers : (w t : List ℕ) (s : Session) (model serial issue : ℕ)
      → Among (looked_no (lookup w t s model serial issue).answer) (0 ∷ 1 ∷ 2 ∷ 3 ∷ 4 ∷ [])
  pub newest_answers : (w t : List ℕ) (s : Session) (model serial : ℕ)
      → Among (newest_no (newest w t s model serial).answer) (0 ∷ 1 ∷ 2 ∷ 3 ∷ 4 ∷ [])
  pub any_answers : (w t : List ℕ) (s : Session) (model serial : ℕ)
      → Among (any_no (has_any w t s model serial).answer) (0 ∷ 1 ∷ 2 ∷ 3 ∷ [])
  pub list_answers : (w t : List ℕ) (s : Session) (start : ℕ) (ks xs : List ℕ)
      → Among (listed_no (list w t s start ks xs).answer) (0 ∷ 1 ∷ 3 ∷ [])
  pub sync_answers : (w t : List ℕ) (s : Session) → Among (synced_no (sync w t s).answer) (0 ∷ 1 ∷ 8 ∷ [])
  -- a refused insert or withdrawal changes nothing but the pages its walk had to mend, each by the mending rule
  pub insert_refused_lem : (w t : List ℕ) (s : Session) (model serial issue x : ℕ)
      → Refused (inserted_no (insert w t s model serial issue x).answer)
      → WalkMended (key_of model serial issue) w t s (insert w t s model serial issue x)
  pub withdraw_refused_lem : (w t : List ℕ) (s : Session) (model serial issue : ℕ)
      → Refused (withdrawn_no (withdraw w t s model serial issue).answer)
      → WalkMended (key_of model serial issue) w t s (withdraw w t s model serial issue)
  -- and nothing at all where it is refused before its walk
  pub insert_unwalked : (w t : List ℕ) (s : Session) (model serial issue x : ℕ) → BeforeWalk w t s model serial issue
      → Unchanged w t s (insert w t s model serial issue x)
  pub withdraw_unwalked : (w t : List ℕ) (s : Session) (model serial issue : ℕ) → BeforeWalk w t s model serial issue
      → Unchanged w t s (withdraw w t s model serial issue)
  -- a refused batch changes nothing
  pub batch_refused : (w t : List ℕ) (s : Session) (xs : List Item) → Refused (batched_no (batch w t s xs).left.answer)
      → BatchUnchanged w t s xs (batch w t s xs).left
  -- nor does a file that is refused
  pub read_refused_lem : (w t : List ℕ) (s : Session) (f : List ℕ) → Refused (read_no (read_file w t s f).left.answer)
      → Unchanged w t s (read_file w t s f).left
  -- a call that reads changes no more, whatever it answers
  pub lookup_mends : (w t : List ℕ) (s : Session) (model serial issue : ℕ)
      → WalkMended (key_of model serial issue) w t s (lookup w t s model serial issue)
  pub newest_mends : (w t : List ℕ) (s : Session) (model serial : ℕ)
      → let r = newest w t s model serial in
      RangeMended (meter model serial) w t s r.working r.stable r.session
  pub any_mends : (w t : List ℕ) (s : Session) (model serial : ℕ)
      → let r = has_any w t s model serial in
      RangeMended (first_of model serial) w t s r.working r.stable r.session
  pub list_mends_lem : (w t : List ℕ) (s : Session) (start : ℕ) (ks xs : List ℕ)
      → let r = list w t s start ks xs in
      RangeMended (up_from start ks xs) w t s r.working r.stable r.session
  -- mends made before the refusal stand: what is left is the table in which the walk ended
  pub insert_stands : (w t : List ℕ) (s : Session) (model serial issue x : ℕ) → (BeforeWalk w t s model serial issue → ⊥)
      → Refused (inserted_no (insert w t s model serial issue x).answer)
      → EndsIn s.n s.c (key_of model serial issue) w (insert w t s model serial issue x).working
  pub withdraw_stands : (w t : List ℕ) (s : Session) (model serial issue : ℕ) → (BeforeWalk w t s model serial issue → ⊥)
      → Refused (withdrawn_no (withdraw w t s model serial issue).answer)
      → EndsIn s.n s.c (key_of model serial issue) w (withdraw w t s model serial issue).working
  pub lookup_stands : (w t : List ℕ) (s : Session) (model serial issue : ℕ) → (BeforeWalk w t s model serial issue → ⊥)
      → EndsIn s.n s.c (key_of model serial issue) w (lookup w t s model serial issue).working
  pub newest_stands : (w t : List ℕ) (s : Session) (model serial : ℕ) → fit0 s.n w ≡ true
      → newest_no (newest w t s model serial).answer ≡ 3
      → StopsIn s.n s.c (meter model serial) w (newest w t s model serial).working
  pub any_stands : (w t : List ℕ) (s : Session) (model serial : ℕ) → fit0 s.n w ≡ true
      → any_no (has_any w t s model serial).answer ≡ 3
      → StopsIn s.n s.c (first_of model serial) w (has_any w t s model serial).working
  pub list_stands : (w t : List ℕ) (s : Session) (start : ℕ) (ks xs : List ℕ) → fit0 s.n w ≡ true
      → listed_no (list w t s start ks xs).answer ≡ 3
      → StopsIn s.n s.c (up_from start ks xs) w (list w t s start ks xs).working
  -- a refused opening or sync changes no byte; the one hands out nobody's session, the other the one that it got
  pub open_refused_lem : (w s : List ℕ) → Refused (opened_no (opening w s).answer) → Unchanged w s nobody (opening w s)
  pub sync_refused_lem : (w t : List ℕ) (s : Session) → Refused (synced_no (sync w t s).answer) → Unchanged w t s (sync w t s)
  -- a refused listing changes none of the lent lists
  pub list_refused_keys : (w t : List ℕ) (s : Session) (start : ℕ) (ks xs : List ℕ)
      → Refused (listed_no (list w t s start ks xs).answer) → (list w t s start ks xs).keys ≡ ks
  pub list_refused_records : (w t : List ℕ) (s : Session) (start : ℕ) (ks xs : List ℕ)
      → Refused (listed_no (list w t s start ks xs).answer) → (list w t s start ks xs).records ≡ xs
  -- with any answer but 0, the numbers beside it are 0
  pub record_zero : (a : Looked) → Refused (looked_no a) → looked_record a ≡ 0
  pub newest_issue_zero : (a : Newest) → Refused (newest_no a) → newest_issue a ≡ 0
  pub newest_record_zero : (a : Newest) → Refused (newest_no a) → newest_record a ≡ 0
  pub any_zero : (a : Any) → Refused (any_no a) → any_yes a ≡ 0
  pub count_zero : (a : Listed) → Refused (listed_no a) → listed_count a ≡ 0
  pub read_count_zero : (a : Read) → Refused (read_no a) → read_count a ≡ 0
  -- but for the byte place, which is told with 11
  pub read_place_zero : (a : Read) → (read_no a ≡ 11 → ⊥) → read_place a ≡ 0
  -- stable bytes change only in format, open and sync that answer 0; of the other calls, see above
  pub format_stable : (w s : List ℕ) → Refused (formatted_no (format w s).answer) → (format w s).stable ≡ s
  pub insert_stable : (w t : List ℕ) (s : Session) (model serial issue x : ℕ)
      → (insert w t s model serial issue x).stable ≡ t
  pub withdraw_stable : (w t : List ℕ) (s : Session) (model serial issue : ℕ)
      → (withdraw w t s model serial issue).stable ≡ t
  pub batch_stable : (w t : List ℕ) (s : Session) (xs : List Item) → (batch w t s xs).left.stable ≡ t
  pub read_stable : (w t : List ℕ) (s : Session) (f : List ℕ) → (read_file w t s f).left.stable ≡ t
