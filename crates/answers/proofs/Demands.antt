-- Demand 1. Assumes nothing.
use Rattle.std.specs.Prelude.{Ok, Err, true}
use mathlib.Core.Path.{◌≡◌, refl, ap}
use mathlib.Core.Bool.{false}
use Rattle.rules.specs.Call.{batched_no, formatted_no, opened_no, inserted_no, withdrawn_no, looked_no, looked_record, newest_no, newest_issue, newest_record, any_no, any_yes, listed_no, listed_count, synced_no, any_error_no, find_error_no, length_error_no, list_error_no, open_error_no, sync_error_no}
use Rattle.rules.specs.Format.{format}
use Rattle.rules.specs.Open.{opening}
use Rattle.rules.specs.Insert.{insert}
use Rattle.rules.specs.Withdraw.{withdraw}
use Rattle.exchange.specs.ReadFile.{read_no, read_file}
use Rattle.rules.specs.Batch.{item_no, batch}
use Rattle.rules.specs.Lookup.{lookup}
use Rattle.rules.specs.Newest.{newest}
use Rattle.rules.specs.HasAny.{has_any}
use Rattle.rules.specs.List.{list}
use Rattle.rules.specs.Sync.{sync}
use Rattle.rules.specs.Answer.{Formatted, Opened, Looked, Newest, Any, Listed, Synced, newest_is}
use Rattle.rules.specs.declared.FindError.{FindError}
use Rattle.rules.specs.declared.AnyError.{AnyError}
use Rattle.rules.specs.declared.ListError.{ListError}
use Rattle.rules.proofs.Demand1.Refusals as rules
use Rattle.rules.proofs.Demand1.Withdrawals.{withdraw_stable}
use Rattle.rules.proofs.Demand1.Batches.{batch_stable}
use Rattle.answers.specs.Causes.{format_causes, open_causes, insert_causes, withdraw_causes, batch_causes, read_causes, lookup_causes, newest_causes, any_causes, list_causes, sync_causes}
use Rattle.answers.specs.Demand1.{Refused, Demand1}
use Rattle.answers.proofs.Exactly.{given-number}
use Rattle.answers.proofs.Ends.{format-given, open-given, sync-given}
use Rattle.answers.proofs.Looks.{lookup-given}
use Rattle.answers.proofs.Inserts.{insert-given}
use Rattle.answers.proofs.Batches.{batch-given, item-given, batch-unchanged}
use Rattle.answers.proofs.Readings.{read-given, read-unchanged, done-zero, place-zero, read_stable}
use Rattle.answers.proofs.Ranges.{newest-given, any-given, list-given}
use Rattle.answers.proofs.Refused.{insert-mended, insert_unwalked, insert_stands, lookup-mended, lookup_stands}
use Rattle.answers.proofs.Withdraws.{withdraw-given, withdraw-mended, withdraw_unwalked, withdraw_stands}
use Rattle.answers.proofs.Lefts.{newest-mended, newest_stands, any-mended, any_stands, list-mended, list_stands}

-- ── The numbers beside a refusal ────────────────────────────────────────────────────────────────────────────────

looked-zero : (a : Looked) → Refused (looked_no a) → looked_record a ≡ 0
unfolding find_error_no looked_record
looked-zero (Ok x) h = absurd (h refl)
looked-zero (Err e) h = refl

issue-zero : (a : Newest) → Refused (newest_no a) → newest_issue a ≡ 0
unfolding find_error_no newest_issue
issue-zero (Ok x) h = absurd (h refl)
issue-zero (Err e) h = refl

record_of-newest-zero : (a : Newest) → Refused (newest_no a) → newest_record a ≡ 0
unfolding find_error_no newest_record
record_of-newest-zero (Ok x) h = absurd (h refl)
record_of-newest-zero (Err e) h = refl

no_yes : (a : Any) → Refused (any_no a) → any_yes a ≡ 0
unfolding any_error_no any_yes
no_yes (Ok true) h = absurd (h refl)
no_yes (Ok false) h = absurd (h refl)
no_yes (Err e) h = refl

listed-zero : (a : Listed) → Refused (listed_no a) → listed_count a ≡ 0
unfolding list_error_no listed_count
listed-zero (Ok k) h = absurd (h refl)
listed-zero (Err e) h = refl

-- a refused listing has filled nothing
not_filled : (a : Listed) → Refused (listed_no a) → rules.is_filled a ≡ false
unfolding list_error_no rules.is_filled
not_filled (Ok k) h = absurd (h refl)
not_filled (Err e) h = refl

-- ── A refusal is no done ────────────────────────────────────────────────────────────────────────────────────────

not_formatted : (a : Formatted) → Refused (formatted_no a) → a ≡ Ok tt → ⊥
unfolding length_error_no
not_formatted a h e = h (ap formatted_no e)

not_opened : (a : Opened) → Refused (opened_no a) → a ≡ Ok tt → ⊥
unfolding open_error_no
not_opened a h e = h (ap opened_no e)

not_synced : (a : Synced) → Refused (synced_no a) → a ≡ Ok tt → ⊥
unfolding sync_error_no
not_synced a h e = h (ap synced_no e)

-- ── The demand ──────────────────────────────────────────────────────────────────────────────────────────────────

pub demand1 : Demand1
demand1 = record {
  format_answers = λ w s. given-number (format_causes w s) (formatted_no (format w s).answer) (format-given w s);
  open_answers = λ w s. given-number (open_causes w s) (opened_no (opening w s).answer) (open-given w s);
  insert_answers = λ w t s model serial issue x.
      given-number (insert_causes w t s model serial issue) (inserted_no (insert w t s model serial issue x).answer)
      (insert-given w t s model serial issue x);
  withdraw_answers = λ w t s model serial issue.
      given-number (withdraw_causes w t s model serial issue) (withdrawn_no (withdraw w t s model serial issue).answer)
      (withdraw-given w t s model serial issue);
  batch_answers = λ w t s xs.
      given-number (batch_causes w t s) (batched_no (batch w t s xs).left.answer) (batch-given w t s xs);
  item_answers = λ t m x.
      given-number (insert_causes m.working t m.session x.model x.serial x.issue) (item_no t m x)
      (item-given t m x);
  read_answers = λ w t s f b.
      given-number (read_causes w t s f) (read_no (read_file w t s f).left.answer) (read-given w t s f b);
  lookup_answers = λ w t s model serial issue.
      given-number (lookup_causes w t s model serial issue) (looked_no (lookup w t s model serial issue).answer)
      (lookup-given w t s model serial issue);
  newest_answers = λ w t s model serial.
      given-number (newest_causes w t s model serial) (newest_no (newest w t s model serial).answer)
      (newest-given w t s model serial);
  any_answers = λ w t s model serial.
      given-number (any_causes w t s model serial) (any_no (has_any w t s model serial).answer)
      (any-given w t s model serial);
  list_answers = λ w t s start ks xs.
      given-number (list_causes w t s start ks xs) (listed_no (list w t s start ks xs).answer)
      (list-given w t s start ks xs);
  sync_answers = λ w t s. given-number (sync_causes w t s) (synced_no (sync w t s).answer) (sync-given w t s);
  insert_refused_lem = insert-mended;
  withdraw_refused_lem = withdraw-mended;
  insert_unwalked = insert_unwalked;
  withdraw_unwalked = withdraw_unwalked;
  batch_refused = batch-unchanged;
  read_refused_lem = read-unchanged;
  lookup_mends = lookup-mended;
  newest_mends = newest-mended;
  any_mends = any-mended;
  list_mends_lem = list-mended;
  insert_stands = insert_stands;
  withdraw_stands = withdraw_stands;
  lookup_stands = lookup_stands;
  newest_stands = newest_stands;
  any_stands = any_stands;
  list_stands = list_stands;
  open_refused_lem = λ w s h. rules.opening-refused w s (not_opened (opening w s).answer h);
  sync_refused_lem = λ w t s h. rules.sync_refused_lem w t s (not_synced (sync w t s).answer h);
  list_refused_keys = λ w t s start ks xs h.
      (rules.list_refused_lem s w t start ks xs (not_filled (list w t s start ks xs).answer h)).keys;
  list_refused_records = λ w t s start ks xs h.
      (rules.list_refused_lem s w t start ks xs (not_filled (list w t s start ks xs).answer h)).records;
  record_zero = looked-zero;
  newest_issue_zero = issue-zero;
  newest_record_zero = record_of-newest-zero;
  any_zero = no_yes;
  count_zero = listed-zero;
  read_count_zero = done-zero;
  read_place_zero = place-zero;
  format_stable = λ w s h. rules.format-refused w s (not_formatted (format w s).answer h);
  insert_stable = rules.insert_stable;
  withdraw_stable = withdraw_stable;
  batch_stable = batch_stable;
  read_stable = read_stable;
}
