-- A store's file, read into a fresh store, gives the same listing and the same file again. Assumes nothing.
use Rattle.std.specs.Prelude.{Ok, Err}
use Prim.Native.Nat.{ℕ}
use mathlib.Core.Path.{◌≡◌, refl, sym, ap, ◌∙◌, subst}
use mathlib.Core.Bool.{true}
use mathlib.Core.List.{List, []}
use lib.ListN.{length}
use Rattle.rules.specs.Entry.{Cert, keys}
use Rattle.rules.specs.Report.{Reported, nothing}
use Rattle.rules.specs.Call.{Left, lengths_for}
use Rattle.rules.specs.List.{ListLeft, list}
use Rattle.rules.specs.Batch.{Between, between, after_items, items_answered}
use Rattle.rules.specs.History.{State, run, start, AllProper}
use Rattle.rules.specs.Demand.{Lent, SameListing}
use Rattle.rules.proofs.Entries.Tests.{every_true}
use Rattle.exchange.specs.Written.{is_set, file_of}
use Rattle.exchange.specs.ReadFile.{Read, as_items, done_in, read_file}
use Rattle.exchange.specs.declared.ReadError.{ReadError}
use Rattle.exchange.proofs.Exact.{exact}
use Rattle.exchange.proofs.ReadBy.{read_fine}
use Rattle.reading.specs.Agreeing.{held, Passes, Fills, ReadersAgree, HistoriesAgree}
use Rattle.reading.proofs.Agrees.{readers_agree}
use Rattle.reading.proofs.HistoriesAgree.{histories_agree}
use Rattle.roundtrip.specs.RoundTrip.{file_in, carried, HeldIsSet, RoundTrip}
use Rattle.roundtrip.proofs.Held.{held-set}
use Rattle.roundtrip.proofs.Fresh.{start-pages, start-holds}
use Rattle.roundtrip.proofs.Rows.{put_all, put_all-rising, Row, row_held, row_ends}

-- stores that hold the same list the same
same_lists : (a b : ListLeft) (cs ds : List Cert) (from : ℕ) (ks xs : List ℕ) → cs ≡ ds → Fills cs from ks xs a → Fills ds from ks xs b → SameListing a b
same_lists a b cs ds from ks xs e f g =
    let h = subst (λ (zs : List Cert). Fills zs from ks xs a) e f in
    record { answer = h.answer ∙ sym g.answer; keys = h.keys ∙ sym g.keys; records = h.records ∙ sym g.records }

same_count : (m n : ℕ) → ◌≡◌ {A = Read} (Ok m) (Ok n) → m ≡ n
same_count m n h = cc

-- ── A set's file, read into a fresh store ───────────────────────────────────────────────────────────────────────

module _ (n : ℕ) (w s : List ℕ) (l : Lent n w s) (cs : List Cert) (set : is_set cs ≡ true) where
  abbrev m : State
  m = start w s

  abbrev from : Between
  from = between m.working m.session nothing

  abbrev to : Between
  to = after_items m.stable from (as_items cs)

  abbrev r : Left Read
  r = (read_file m.working m.stable m.session (file_of cs)).left

  lengths : lengths_for m.session m.working m.stable ≡ true
  unfolding HistoriesAgree run AllProper
  lengths = (histories_agree n w s l [] tt (start-pages n w s l)).passes.lengths

  read_is : read_file m.working m.stable m.session (file_of cs)
      ≡ record {
        left = record { answer = Ok (done_in (items_answered m.stable from (as_items cs))); session = to.session; working = to.working; stable = m.stable };
        report = to.report;
      }
  read_is =
      read_fine m.working m.stable m.session (file_of cs) lengths (exact.written cs set)
      ∙ ap after (exact.told cs set)
    where
      after : List Cert → Reported (Left Read)
      after ds = record {
        left = record {
          answer = Ok (done_in (items_answered m.stable from (as_items ds)));
          session = (after_items m.stable from (as_items ds)).session;
          working = (after_items m.stable from (as_items ds)).working;
          stable = m.stable;
        };
        report = (after_items m.stable from (as_items ds)).report;
      }

  module _ (done : r.answer ≡ Ok (length cs)) where
    row : Row n w s l m.stable [] from cs
    unfolding is_set run AllProper
    row = record {
      proper = tt;
      pages = start-pages n w s l;
      stands = record { working = refl; stable = refl; session = refl };
      good = (every_true _ set).1.0;
      done = same_count _ _ (sym (ap (λ (x : Reported (Left Read)). x.left.answer) read_is) ∙ done);
    }

    -- it holds the set
    pub holds-set : held r.session r.working ≡ cs
    unfolding is_set
    holds-set =
        ap (λ (x : Reported (Left Read)). held x.left.session x.left.working) read_is
        ∙ (row_held n w s l m.stable cs [] from row
        ∙ (ap (put_all cs) (start-holds n w s l) ∙ put_all-rising cs (every_true _ set).0))

    -- and passes opening's tests, so its calls answer by what it holds
    pub passes : Passes r.working r.stable r.session
    unfolding HistoriesAgree
    passes =
        let e = row_ends n w s l m.stable cs [] from row in
        let x = (histories_agree n w s l e.history e.proper e.pages).passes in
        let y : Passes to.working m.stable to.session
        = subst (λ (z : Left Read). Passes z.working z.stable z.session)
        (λ i. record { answer = Err ReadError.Length; session = e.stands.session i; working = e.stands.working i; stable = e.stands.stable i }) x in
        subst (λ (z : Reported (Left Read)). Passes z.left.working z.left.stable z.left.session) (sym read_is) y

-- ── The round trip ──────────────────────────────────────────────────────────────────────────────────────────────

pub round_trip : RoundTrip
unfolding RoundTrip HistoriesAgree ReadersAgree HeldIsSet file_in
round_trip n w s l h t z p w' s' l' done =
    let m = run h (start w s) in
    let A = histories_agree n w s l h t z in
    let cs = held m.session m.working in
    let set = held-set m.working m.stable m.session A.passes in
    let e = holds-set p w' s' l' cs set done in
    let r = (carried m (start w' s')).left in
    let q = passes p w' s' l' cs set done in
    let B = readers_agree r.working r.stable r.session q in
    record {
      passes = q;
      holds = e;
      lists = λ from ks xs. same_lists _ _ _ cs from ks xs e (B.list_agrees from ks xs) (A.agree.list_agrees from ks xs);
      bytes = ap file_of e;
    }
