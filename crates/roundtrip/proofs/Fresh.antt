-- A store fresh from format and open holds nothing. Assumes nothing.
use Prim.Native.Nat.{ℕ, ◌≤◌}
use mathlib.Core.Path.{◌≡◌, refl, sym, ap, ◌∙◌, subst}
use mathlib.Core.Bool.{true}
use mathlib.Core.List.{List, [], ◌∷◌}
use mathlib.Core.Option.{none, none-ne-some}
use lib.ListN.{length}
use Rattle.rules.specs.Layout.{last_key}
use Rattle.rules.specs.Test.{all, between}
use Rattle.rules.specs.Entry.{Cert, keys, find}
use Rattle.rules.specs.Table.{good_lengths}
use Rattle.rules.specs.Tree.{tree_of}
use Rattle.rules.specs.Marks.{opened}
use Rattle.rules.specs.Call.{Left}
use Rattle.rules.specs.Format.{formatted, format}
use Rattle.rules.specs.Open.{opening}
use Rattle.rules.specs.History.{State, start, run, AllProper, after_open}
use Rattle.rules.specs.Demand.{Lent}
use Rattle.rules.specs.Answer.{Opened}
use Rattle.rules.proofs.Entries.Tests.{all_head, between-high}
use Rattle.rules.proofs.Entries.Entries.{find_head}
use Rattle.rules.proofs.Bytes.Lengths.{tables-good, pages-of}
use Rattle.rules.proofs.Demand3.Ways.Nodes.{tells}
use Rattle.rules.proofs.Demand3.Ways.Invariant.{Good}
use Rattle.rules.proofs.Demand3.Epochs.Openings.{raise, done}
use Rattle.rules.proofs.Demand3.Epochs.Formats.{fresh-table, first_opening, first-told}
use Rattle.rules.proofs.Demand3.Reads.TreeCerts.{all_ordered, tree-tells}
use Rattle.reading.specs.Agreeing.{held, HistoriesAgree}
use Rattle.reading.proofs.Agrees.{passing}
use Rattle.reading.proofs.HistoriesAgree.{histories_agree}

-- entries none of whose keys is found are none
none_found : (cs : List Cert) → all (between 0 last_key) (keys cs) ≡ true → ((k : ℕ) → k ≤ last_key → find k cs ≡ none) → cs ≡ []
unfolding keys
none_found [] r h = refl
none_found (c ∷ cs) r h =
    absurd (none-ne-some c.value
    (sym (h c.key (between-high 0 last_key c.key (all_head (between 0 last_key) c.key (keys cs) r))) ∙ find_head c.key c cs refl))

module _ (n : ℕ) (w s : List ℕ) (l : Lent n w s) where
  abbrev table : List ℕ
  table = fresh-table n l.few l.most

  pub start_is : start w s ≡ after_open (λ k. []) (done n table)
  unfolding start format
  start_is =
      ap (λ (t : List ℕ). after_open (λ k. []) (opening w t)) formats
      ∙ ap (λ (r : Left Opened). after_open (λ k. []) r) (first_opening n l.few l.most w l.working)
    where
      lengths : good_lengths w s ≡ true
      lengths = tables-good (record { least = l.few; most = l.most; working = l.working; stable = l.stable })

      formats : (format w s).stable ≡ table
      formats =
          rw (lengths, format)
          (ap (λ (i : ℕ). formatted i (length s)) (pages-of s n l.stable) ∙ ap (formatted n) l.stable)

  pub start-pages : (start w s).session.n ≡ n
  unfolding after_open opened
  start-pages = ap (λ (m : State). m.session.n) start_is

  working-is : (start w s).working ≡ raise table
  unfolding after_open
  working-is = ap (λ (m : State). m.working) start_is

  good : Good n (raise table)
  unfolding HistoriesAgree run AllProper
  good =
      subst (Good n) working-is
      (subst (λ (i : ℕ). Good i (start w s).working) start-pages
      (passing (histories_agree n w s l [] tt start-pages).passes).good)

  pub start-holds : held (start w s).session (start w s).working ≡ []
  unfolding held
  start-holds =
      ap (λ (i : ℕ). (tree_of i (start w s).working).certs) start-pages
      ∙ (ap (λ (t : List ℕ). (tree_of n t).certs) working-is
      ∙ none_found (tree_of n (raise table)).certs (all_ordered good).within
      (λ k h. let o = tells good k h in tree-tells good o.1 ∙ first-told n l.few l.most o.1))
