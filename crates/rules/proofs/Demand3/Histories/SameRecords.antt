-- Two stores of histories in which every key has the same record answer every call that reads alike, and have the same total.
use Rattle.std.proofs.Common.{◌≡◌, ℕ, ◌≤◌, List, [], length, sym, ap, ◌∙◌, subst, Ok}
use mathlib.Core.Option.{Option}
use Rattle.rules.specs.Layout.{last_key}
use Rattle.rules.specs.Entry.{Cert, keys}
use Rattle.rules.specs.Page.{over}
use Rattle.rules.specs.Tree.{tree_of}
use Rattle.rules.specs.List.{up_from, records_of}
use Rattle.rules.specs.History.{State, latest}
use Rattle.rules.specs.Demand.{SameListing, list_now}
use Rattle.rules.specs.Quiet.{content_now, SameEntries}
use Rattle.rules.proofs.Demand3.Ways.Ways.{Tells}
use Rattle.rules.proofs.Demand3.Ways.Invariant.{Good}
use Rattle.rules.proofs.Demand3.Ways.Nodes.{tells-one}
use Rattle.rules.proofs.Demand3.Epochs.Epochs.{working-good}
use Rattle.rules.proofs.Demand3.Steps.Mended.{tells-bound}
use Rattle.rules.proofs.Demand3.Reads.Enters.{calm}
use Rattle.rules.proofs.Demand3.Reads.Gathers.{gather}
use Rattle.rules.proofs.Demand3.Reads.Lists.{newest_of_same, newest_answers, list_answers}
use Rattle.rules.proofs.Demand3.Reads.Anys.{any_of_same, any_answers}
use Rattle.rules.proofs.Demand3.Reads.Totals.{same-tree}
use Rattle.rules.proofs.Demand3.Histories.Fates.{Alive}
use Rattle.rules.proofs.Demand3.Histories.Servings.{alive_serves}

module _ {n : ℕ} {a b : State} (x : Alive n a) (y : Alive n b) (same : (k : ℕ) → k ≤ last_key → content_now b k ≡ content_now a k) where
  told : (k : ℕ) (o : Option ℕ) → Tells n a.working k o → Tells n b.working k o
  told k o z =
      let h = tells-bound z in
      subst (Tells n b.working k)
      (sym ((alive_serves y).looks_up k h) ∙ (same k h ∙ ((alive_serves x).looks_up k h
      ∙ tells-one (subst (λ (i : ℕ). Tells i a.working k (latest (a.past k))) x.pages (x.now k h)) z)))
      (subst (λ (i : ℕ). Tells i b.working k (latest (b.past k))) y.pages (y.now k h))

  certs : (tree_of b.session.n b.working).certs ≡ (tree_of a.session.n a.working).certs
  certs =
      ap (λ (i : ℕ). (tree_of i b.working).certs) y.pages
      ∙ (same-tree (subst (λ (i : ℕ). Good i a.working) x.pages (working-good x.safe.inv))
      (subst (λ (i : ℕ). Good i b.working) y.pages (working-good y.safe.inv)) told
      ∙ sym (ap (λ (i : ℕ). (tree_of i a.working).certs) x.pages))

  same-listing : (from : ℕ) (ks xs : List ℕ) → SameListing (list_now b from ks xs) (list_now a from ks xs)
  same-listing from ks xs =
      let q = up_from from ks xs in
      let v = list_answers y.safe (calm y.safe) from ks xs in
      let u = list_answers x.safe (calm x.safe) from ks xs in
      record {
        answer = v.answer ∙ (ap (λ (cs : List Cert). Ok (length (gather q [] cs))) certs ∙ sym u.answer);
        keys = v.keys ∙ (ap (λ (cs : List Cert). over (keys (gather q [] cs)) ks) certs ∙ sym u.keys);
        records = v.records ∙ (ap (λ (cs : List Cert). over (records_of (gather q [] cs)) xs) certs ∙ sym u.records);
      }

  pub same_entries : SameEntries b a
  same_entries = record {
    looks_up = same;
    lists = same-listing;
    newest = λ model serial.
        (newest_answers y.safe (calm y.safe) model serial).answer
        ∙ (newest_of_same a.session.n b.session.n a.working b.working model serial certs
        ∙ sym (newest_answers x.safe (calm x.safe) model serial).answer);
    any = λ model serial.
        (any_answers y.safe (calm y.safe) model serial).answer
        ∙ (any_of_same a.session.n b.session.n a.working b.working model serial certs
        ∙ sym (any_answers x.safe (calm x.safe) model serial).answer);
    total = y.total ∙ (ap length certs ∙ sym x.total);
  }
