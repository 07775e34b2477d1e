-- In every history a withdrawal that is done takes its key away and nothing else: a lookup of it answers 4, one of any other key as
-- before, and the tree holds what it held but the key.
use Rattle.std.specs.Prelude.{Ok, Err}
use Prim.Native.Nat.{ℕ, ◌<◌}
use native.Mathlib.Omega.{arith}
use mathlib.Core.Path.{◌≡◌, sym, ap, ◌∙◌, subst}
use mathlib.Core.Logic.{◌≢◌}
use mathlib.Core.Bool.{true}
use mathlib.Core.List.{List, [], ◌∷◌, ◌++◌}
use mathlib.Core.Option.{Option, none}
use Rattle.rules.specs.Key.{key_of}
use Rattle.rules.specs.Entry.{without}
use Rattle.rules.specs.Call.{Left, lengths_for}
use Rattle.rules.specs.Withdraw.{withdraw_done}
use Rattle.rules.specs.Lookup.{lookup}
use Rattle.rules.specs.History.{Event, withdraws, State, latest, gains, after_withdraw, step, run, start, Proper, AllProper}
use Rattle.rules.specs.Demand.{Lent, withdraw_now, Serves, Demand3, OpenedTold}
use Rattle.rules.specs.Answer.{Withdrawn}
use Rattle.rules.specs.declared.FindError.{FindError}
use Rattle.rules.proofs.Entries.Withouts.{find-without-same, find-without-other, without-rising}
use Rattle.rules.proofs.Demand3.Histories.Histories.{demand3, session-tells}
use Rattle.reading.specs.Agreeing.{held, answer_for, AgreeIn, HistoriesAgree}
use Rattle.reading.specs.Withdrawing.{Takes, WithdrawTakes, WithdrawRemoves}
use Rattle.reading.proofs.Adds.{lookup_for, content-of, key-within, run-then, proper_then, gains-own, gains-other, answer-stays}
use Rattle.reading.proofs.HistoriesAgree.{histories_agree}
use Rattle.reading.proofs.Puts.{held-is}
use Rattle.reading.proofs.TakenOut.{Took, withdraw_took}

-- ── One withdrawal ──────────────────────────────────────────────────────────────────────────────────────────────

past-done : (k : ℕ) (m : State) (r : Left Withdrawn) → r.answer ≡ Ok tt → (after_withdraw k m r).past ≡ gains k none m.past
unfolding after_withdraw
past-done k m r h = rw (h, after_withdraw)

-- with the store before it, and after it
module _ (m : State) (model serial issue : ℕ) (wide_model : model < 65536) (wide_serial : serial < 4294967296) (wide_issue : issue < 65536)
    (before : Serves m) (after : Serves (step (withdraws model serial issue) m)) (agree : AgreeIn (step (withdraws model serial issue) m))
    (done : (withdraw_now m model serial issue).answer ≡ Ok tt) where
  abbrev k : ℕ
  k = key_of model serial issue

  abbrev r : Left Withdrawn
  r = withdraw_now m model serial issue

  abbrev next : State
  next = step (withdraws model serial issue) m

  took : Took m.working m.stable m.session model serial issue r
  took = withdraw_took m.working m.stable m.session model serial issue done

  past-now : (j : ℕ) → latest (next.past j) ≡ latest (gains k none m.past j)
  unfolding step
  past-now j = ap (λ (p : ℕ → List (Option ℕ)). latest (p j)) (past-done k m r done)

  lengths-after : lengths_for r.session r.working r.stable ≡ true
  unfolding step after_withdraw
  lengths-after = agree.passes.lengths

  own : (lookup r.working r.stable r.session model serial issue).answer ≡ Err FindError.Missing
  unfolding step after_withdraw answer_for
  own =
      lookup_for r.working r.stable r.session model serial issue lengths-after took.good (after.lookup_whole model serial issue)
      ∙ ap answer_for
      (sym (content-of r.session r.working r.stable model serial issue (omega arith) (omega arith))
      ∙ (after.looks_up k (key-within model serial issue wide_model wide_serial wide_issue) ∙ (past-now k ∙ gains-own k none m.past)))

  others : (model' serial' issue' : ℕ) → model' < 65536 → serial' < 4294967296 → issue' < 65536 → key_of model' serial' issue' ≢ k
      → (lookup r.working r.stable r.session model' serial' issue').answer
      ≡ (lookup m.working m.stable m.session model' serial' issue').answer
  unfolding step after_withdraw
  others model' serial' issue' a b c d =
      answer-stays m next before after took.lengths lengths-after model' serial' issue' a b c
      (past-now (key_of model' serial' issue') ∙ gains-other k none (key_of model' serial' issue') m.past d)

  takes : Takes m model serial issue r
  takes = record { own = own; others = others }

-- ── In every history ────────────────────────────────────────────────────────────────────────────────────────────

module _ (n : ℕ) (w s : List ℕ) (l : Lent n w s) (h : List Event) (t : AllProper n h) (z : (run h (start w s)).session.n ≡ n)
    (model serial issue : ℕ) (a : model < 65536) (b : serial < 4294967296) (c : issue < 65536)
    (done : (withdraw_now (run h (start w s)) model serial issue).answer ≡ Ok tt) where
  abbrev e : Event
  e = withdraws model serial issue

  abbrev m : State
  m = run h (start w s)

  more : AllProper n (h ++ (e ∷ []))
  unfolding Proper
  more = proper_then n h e t (a, b, c)

  -- a withdrawal that is done leaves the session's number of pages
  pages : (run (h ++ (e ∷ [])) (start w s)).session.n ≡ n
  unfolding step after_withdraw withdraw_done
  pages =
      ap (λ (q : State). q.session.n) (run-then h e (start w s))
      ∙ (ap (λ (q : Left Withdrawn). q.session.n) (withdraw_took m.working m.stable m.session model serial issue done).is ∙ z)

  agree_after : AgreeIn (step e m)
  unfolding HistoriesAgree
  agree_after = subst AgreeIn (run-then h e (start w s)) (histories_agree n w s l (h ++ (e ∷ [])) more pages)

  takes-then : Takes m model serial issue (withdraw_now m model serial issue)
  unfolding Demand3 OpenedTold
  takes-then =
      takes m model serial issue a b c ((demand3 n w s l h t).1 ((session-tells n w s l h t).done z))
      (subst Serves (run-then h e (start w s)) ((demand3 n w s l (h ++ (e ∷ [])) more).1 ((session-tells n w s l (h ++ (e ∷ [])) more).done pages)))
      agree_after done

  removes_then : held (withdraw_now m model serial issue).session (withdraw_now m model serial issue).working
      ≡ without (key_of model serial issue) (held m.session m.working)
  unfolding HistoriesAgree step after_withdraw answer_for
  removes_then =
      let k = key_of model serial issue in
      let A = histories_agree n w s l h t z in
      let before = held m.session m.working in
      held-is m (step e m) model serial issue a b c (withdraw_took m.working m.stable m.session model serial issue done).good A agree_after
      (without k before) (without-rising k before A.agree.rises)
      (takes-then.own ∙ ap answer_for (sym (find-without-same k before A.agree.rises))) takes-then.others
      (λ j q. find-without-other j k before q)

pub withdraw-takes : WithdrawTakes
unfolding WithdrawTakes
withdraw-takes = takes-then

pub withdraw_removes : WithdrawRemoves
unfolding WithdrawRemoves
withdraw_removes = removes_then
