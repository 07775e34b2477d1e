-- What a call leaves for a caller in C: what it hands back, and both tables. Answers are document 01's numbers; the
-- numbers beside a refusal are 0.
use Rattle.std.specs.Prelude.{ℕ, List}
use Rattle.rules.specs.Report.{Reported, reason_no}
use Rattle.rules.specs.Call.{batched_no, Left, formatted_no, inserted_no, withdrawn_no, looked_no, looked_record, newest_no, newest_issue, newest_record, any_no, any_yes, listed_no, listed_count}
use Rattle.rules.specs.Batch.{BatchLeft}
use Rattle.rules.specs.Format.{Formatting}
use Rattle.rules.specs.List.{ListLeft}
use Rattle.rules.specs.declared.Session.{Session}
use Rattle.rules.specs.declared.Report.{Report}
use Rattle.rules.specs.Answer.{Inserted, Withdrawn, Batched, Looked, Newest, Any, Listed}
use Rattle.rules.specs.declared.Item.{Item}
use Rattle.exchange.specs.ReadFile.{Read, read_no, read_count, read_place}
use Rattle.exports.specs.declared.KhAnswered.{KhAnswered}
use Rattle.exports.specs.declared.KhChanged.{KhChanged}
use Rattle.exports.specs.declared.KhRead.{KhRead}
use Rattle.exports.specs.declared.KhLooked.{KhLooked}
use Rattle.exports.specs.declared.KhNewest.{KhNewest}
use Rattle.exports.specs.declared.KhAny.{KhAny}
use Rattle.exports.specs.declared.KhListed.{KhListed}
use Rattle.exports.specs.declared.KhWritten.{KhWritten}
use Rattle.write.specs.WriteFile.{Written, WriteLeft, written_no, written_length}

pub record Leaves (A : Type 0) : Type 0 where
  pub back : A
  pub working : List ℕ
  pub stable : List ℕ

abbrev pub leaves : {A : Type 0} → A → List ℕ → List ℕ → Leaves A
leaves back working stable = record { back = back; working = working; stable = stable }

-- a format leaves working as it is
pub record Formats : Type 0 where
  pub answer : ℕ
  pub stable : List ℕ

abbrev pub formatting : ℕ → List ℕ → Formats
formatting answer stable = record { answer = answer; stable = stable }

-- a batch leaves its items too
pub record Batches : Type 0 where
  pub back : KhChanged
  pub working : List ℕ
  pub stable : List ℕ
  pub items : List Item

abbrev pub batching : KhChanged → List ℕ → List ℕ → List Item → Batches
batching back working stable items = record { back = back; working = working; stable = stable; items = items }

-- a list leaves both lists too
pub record Lists : Type 0 where
  pub back : KhListed
  pub working : List ℕ
  pub stable : List ℕ
  pub keys : List ℕ
  pub records : List ℕ

abbrev pub listing : KhListed → List ℕ → List ℕ → List ℕ → List ℕ → Lists
listing back working stable keys records = record {
  back = back;
  working = working;
  stable = stable;
  keys = keys;
  records = records;
}

-- a writer leaves the output too
pub record Writes : Type 0 where
  pub back : KhWritten
  pub working : List ℕ
  pub stable : List ℕ
  pub out : List ℕ

abbrev pub writing : KhWritten → List ℕ → List ℕ → List ℕ → Writes
writing back working stable out = record { back = back; working = working; stable = stable; out = out }

-- ── What is handed back ─────────────────────────────────────────────────────────────────────────────────────────

abbrev pub answered_back : ℕ → Session → KhAnswered
answered_back answer session = record { answer = answer; session = session }

abbrev pub changed_back : ℕ → Report → Session → KhChanged
changed_back answer x session = record {
  answer = answer;
  mended = x.mended;
  reason = reason_no x.reason;
  session = session;
}

abbrev pub batched_back : Batched → Report → Session → KhChanged
batched_back a x session = record {
  answer = batched_no a;
  mended = x.mended;
  reason = reason_no x.reason;
  session = session;
}

abbrev pub read_back : Read → Report → Session → KhRead
read_back a x session = record {
  answer = read_no a;
  done = read_count a;
  place = read_place a;
  mended = x.mended;
  reason = reason_no x.reason;
  session = session;
}

abbrev pub looked_back : Looked → Report → Session → KhLooked
looked_back a x session = record {
  answer = looked_no a;
  «record» = looked_record a;
  mended = x.mended;
  reason = reason_no x.reason;
  session = session;
}

abbrev pub newest_back : Newest → Report → Session → KhNewest
newest_back a x session = record {
  answer = newest_no a;
  issue = newest_issue a;
  «record» = newest_record a;
  mended = x.mended;
  reason = reason_no x.reason;
  session = session;
}

abbrev pub any_back : Any → Report → Session → KhAny
any_back a x session = record {
  answer = any_no a;
  any = any_yes a;
  mended = x.mended;
  reason = reason_no x.reason;
  session = session;
}

abbrev pub listed_back : Listed → Report → Session → KhListed
listed_back a x session = record {
  answer = listed_no a;
  count = listed_count a;
  mended = x.mended;
  reason = reason_no x.reason;
  session = session;
}

abbrev pub written_back : Written → Report → Session → KhWritten
written_back a x session = record {
  answer = written_no a;
  length = written_length a;
  mended = x.mended;
  reason = reason_no x.reason;
  session = session;
}

-- ── The same of what the rules say ──────────────────────────────────────────────────────────────────────────────

abbrev pub formatted : Formatting → Formats
formatted l = formatting (formatted_no l.answer) l.stable

abbrev pub answered : {A : Type 0} → (A → ℕ) → Left A → Leaves KhAnswered
answered number l = leaves (answered_back (number l.answer) l.session) l.working l.stable

abbrev pub inserted : Reported (Left Inserted) → Leaves KhChanged
inserted r = leaves (changed_back (inserted_no r.left.answer) r.report r.left.session) r.left.working r.left.stable

abbrev pub withdrawn : Reported (Left Withdrawn) → Leaves KhChanged
withdrawn r = leaves (changed_back (withdrawn_no r.left.answer) r.report r.left.session) r.left.working r.left.stable

abbrev pub batched : Reported BatchLeft → Batches
batched r =
    batching (batched_back r.left.answer r.report r.left.session) r.left.working r.left.stable r.left.items

abbrev pub read : Reported (Left Read) → Leaves KhRead
read r = leaves (read_back r.left.answer r.report r.left.session) r.left.working r.left.stable

abbrev pub looked : Reported (Left Looked) → Leaves KhLooked
looked r = leaves (looked_back r.left.answer r.report r.left.session) r.left.working r.left.stable

abbrev pub newest : Reported (Left Newest) → Leaves KhNewest
newest r = leaves (newest_back r.left.answer r.report r.left.session) r.left.working r.left.stable

abbrev pub any : Reported (Left Any) → Leaves KhAny
any r = leaves (any_back r.left.answer r.report r.left.session) r.left.working r.left.stable

abbrev pub listed : Reported ListLeft → Lists
listed r =
    listing
    (listed_back r.left.answer r.report r.left.session)
    r.left.working
    r.left.stable
    r.left.keys
    r.left.records

abbrev pub written : Reported WriteLeft → Writes
written r =
    writing
    (written_back r.left.answer r.report r.left.session)
    r.left.working
    r.left.stable
    r.left.out
