-- Document 01's table of answers: each number of each call is given exactly when it says. Assumes nothing.
use Rattle.std.specs.Prelude.{Ok}
use Prim.Native.Nat.{ℕ}
use mathlib.Core.Path.{◌≡◌, refl, sym, ap, ◌∙◌}
use mathlib.Core.Logic.{◌↔◌}
use mathlib.Core.List.{List}
use mathlib.Core.Option.{some}
use lib.ListN.{length}
use Rattle.rules.specs.Test.{every}
use Rattle.rules.specs.Key.{key_of}
use Rattle.rules.specs.Entry.{rising, rises_from}
use Rattle.rules.specs.Walk.{walk_of}
use Rattle.rules.specs.Call.{batched_no, formatted_no, opened_no, inserted_no, withdrawn_no, looked_no, newest_no, any_no, listed_no, listed_count, synced_no, find_error_no, list_error_no}
use Rattle.rules.specs.Format.{format}
use Rattle.rules.specs.Open.{opening}
use Rattle.rules.specs.Insert.{insert}
use Rattle.rules.specs.Withdraw.{withdraw}
use Rattle.exchange.specs.ReadFile.{read_no, read_file}
use Rattle.rules.specs.Batch.{item_no, batch}
use Rattle.rules.specs.Lookup.{lookup}
use Rattle.rules.specs.Newest.{newest, newest_in, meter}
use Rattle.rules.specs.HasAny.{has_any, any_in, first_of}
use Rattle.rules.specs.List.{list, up_from}
use Rattle.rules.specs.Sync.{sync}
use Rattle.rules.specs.declared.Session.{Session}
use Rattle.rules.specs.Answer.{Any, newest_is}
use Rattle.answers.specs.Given.{Given}
use Rattle.answers.specs.Causes.{under, format_causes, open_causes, insert_causes, withdraw_causes, batch_causes, read_causes, lookup_causes, newest_causes, any_causes, list_causes, sync_causes}
use Rattle.answers.specs.When.{When}
use Rattle.answers.proofs.Exactly.{exactly}
use Rattle.answers.proofs.Ends.{format-given, open-given, sync-given}
use Rattle.answers.proofs.Looks.{lookup-given, lookup-done}
use Rattle.answers.proofs.Inserts.{insert-given}
use Rattle.answers.proofs.Withdraws.{withdraw-given}
use Rattle.answers.proofs.Batches.{batch-given, item-given}
use Rattle.answers.proofs.Readings.{read-given}
use Rattle.answers.proofs.Ranges.{newest-given, newest-done, any-given, any-done, list-given, list_done_lem}

-- ── What is answered beside 0 ───────────────────────────────────────────────────────────────────────────────────

module _ (w t : List ℕ) (s : Session) (model serial issue x : ℕ) where
  found_exactly : ((lookup w t s model serial issue).answer ≡ Ok x)
      ↔ (Given (lookup_causes w t s model serial issue) 0 × (under s (key_of model serial issue) w ≡ some x))
  unfolding find_error_no
  found_exactly = (to, from)
    where
      is : (looked_no (lookup w t s model serial issue).answer ≡ 0) ↔ Given (lookup_causes w t s model serial issue) 0
      is = exactly (lookup_causes w t s model serial issue) (looked_no (lookup w t s model serial issue).answer) 0
          (lookup-given w t s model serial issue)

      to : (lookup w t s model serial issue).answer ≡ Ok x
          → Given (lookup_causes w t s model serial issue) 0 × (under s (key_of model serial issue) w ≡ some x)
      to e =
          let z : looked_no (lookup w t s model serial issue).answer ≡ 0 = ap looked_no e in
          let r = lookup-done w t s model serial issue z in
          (is.0 z, cc (r.1, r.2, e))

      from : Given (lookup_causes w t s model serial issue) 0 × (under s (key_of model serial issue) w ≡ some x)
          → (lookup w t s model serial issue).answer ≡ Ok x
      from g = let r = lookup-done w t s model serial issue (is.1 g.0) in cc (r.1, r.2, g.1)

module _ (w t : List ℕ) (s : Session) (model serial i x : ℕ) where
  newest_exactly : ((newest w t s model serial).answer ≡ Ok (newest_is i x))
      ↔ (Given (newest_causes w t s model serial) 0
      × (newest_in (walk_of s.n s.c (meter model serial) w).found ≡ Ok (newest_is i x)))
  unfolding find_error_no
  newest_exactly =
      let is = exactly (newest_causes w t s model serial) (newest_no (newest w t s model serial).answer) 0
      (newest-given w t s model serial) in (
        (λ e. let z : newest_no (newest w t s model serial).answer ≡ 0 = ap newest_no e in
            (is.0 z, sym (newest-done w t s model serial z) ∙ e)),
        (λ g. newest-done w t s model serial (is.1 g.0) ∙ g.1),
      )

module _ (w t : List ℕ) (s : Session) (model serial : ℕ) (yes_or_no : Any) (done : any_no yes_or_no ≡ 0) where
  any_exactly : ((has_any w t s model serial).answer ≡ yes_or_no)
      ↔ (Given (any_causes w t s model serial) 0 × (any_in (walk_of s.n s.c (first_of model serial) w).found ≡ yes_or_no))
  any_exactly =
      let is = exactly (any_causes w t s model serial) (any_no (has_any w t s model serial).answer) 0
      (any-given w t s model serial) in (
        (λ e. let z : any_no (has_any w t s model serial).answer ≡ 0 = ap any_no e ∙ done in
            (is.0 z, sym (any-done w t s model serial z) ∙ e)),
        (λ g. any-done w t s model serial (is.1 g.0) ∙ g.1),
      )

module _ (w t : List ℕ) (s : Session) (start : ℕ) (ks xs : List ℕ) (k : ℕ) where
  filled_exactly : ((list w t s start ks xs).answer ≡ Ok k)
      ↔ (Given (list_causes w t s start ks xs) 0
      × (length (walk_of s.n s.c (up_from start ks xs) w).found ≡ k))
  unfolding list_error_no listed_count
  filled_exactly =
      let is = exactly (list_causes w t s start ks xs) (listed_no (list w t s start ks xs).answer) 0
      (list-given w t s start ks xs) in (
        (λ e. let z : listed_no (list w t s start ks xs).answer ≡ 0 = ap listed_no e in
            (is.0 z, ap listed_count (sym (list_done_lem w t s start ks xs z) ∙ e))),
        (λ g. list_done_lem w t s start ks xs (is.1 g.0) ∙ ap Ok g.1),
      )

-- ── The table ───────────────────────────────────────────────────────────────────────────────────────────────────

pub whens : When
unfolding every rising rises_from
whens = record {
  lower_first = λ w t s model serial issue start ks xs. refl;
  format_when = λ w s k. exactly (format_causes w s) (formatted_no (format w s).answer) k (format-given w s);
  open_when = λ w s k. exactly (open_causes w s) (opened_no (opening w s).answer) k (open-given w s);
  insert_when = λ w t s model serial issue x k.
      exactly (insert_causes w t s model serial issue) (inserted_no (insert w t s model serial issue x).answer) k
      (insert-given w t s model serial issue x);
  withdraw_when = λ w t s model serial issue k.
      exactly (withdraw_causes w t s model serial issue) (withdrawn_no (withdraw w t s model serial issue).answer) k
      (withdraw-given w t s model serial issue);
  batch_when = λ w t s xs k.
      exactly (batch_causes w t s) (batched_no (batch w t s xs).left.answer) k (batch-given w t s xs);
  item_when = λ t m x k.
      exactly (insert_causes m.working t m.session x.model x.serial x.issue) (item_no t m x) k
      (item-given t m x);
  read_when = λ w t s f b k.
      exactly (read_causes w t s f) (read_no (read_file w t s f).left.answer) k (read-given w t s f b);
  lookup_when = λ w t s model serial issue k.
      exactly (lookup_causes w t s model serial issue) (looked_no (lookup w t s model serial issue).answer) k
      (lookup-given w t s model serial issue);
  newest_when = λ w t s model serial k.
      exactly (newest_causes w t s model serial) (newest_no (newest w t s model serial).answer) k
      (newest-given w t s model serial);
  any_when = λ w t s model serial k.
      exactly (any_causes w t s model serial) (any_no (has_any w t s model serial).answer) k
      (any-given w t s model serial);
  list_when = λ w t s start ks xs k.
      exactly (list_causes w t s start ks xs) (listed_no (list w t s start ks xs).answer) k
      (list-given w t s start ks xs);
  sync_when = λ w t s k. exactly (sync_causes w t s) (synced_no (sync w t s).answer) k (sync-given w t s);
  found_when = found_exactly;
  newest_found_when = newest_exactly;
  any_told_when = any_exactly;
  filled_when = filled_exactly;
}
