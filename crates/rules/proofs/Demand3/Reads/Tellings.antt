-- List and newest in a safe store tell of the entries that lookups find.
use Rattle.std.proofs.Common.{◌≡◌, ℕ, ◌<◌, ◌≤◌, List, sym, subst, arith, lt-ltb}
use mathlib.Core.Option.{Option}
use Rattle.rules.specs.Layout.{last_key}
use Rattle.rules.specs.Entry.{Cert, find}
use Rattle.rules.specs.Tree.{tree_of}
use Rattle.rules.specs.Newest.{newest}
use Rattle.rules.specs.List.{up_from, list}
use Rattle.rules.specs.Demand.{ListTells, NewestTells}
use Rattle.rules.specs.declared.Session.{Session}
use Rattle.rules.proofs.Entries.Tests.{and_of}
use Rattle.rules.proofs.Demand3.Ways.Ways.{Tells}
use Rattle.rules.proofs.Demand3.Ways.Invariant.{Good, States}
use Rattle.rules.proofs.Demand3.Epochs.Epochs.{working-good}
use Rattle.rules.proofs.Demand3.Epochs.Store.{Safe}
use Rattle.rules.proofs.Demand3.Reads.Enters.{calm}
use Rattle.rules.proofs.Demand3.Reads.TreeCerts.{all_ordered, all-good, tree-tells}
use Rattle.rules.proofs.Demand3.Reads.Shown.{shown-rise, shown-held, shown-whole, newest-last}
use Rattle.rules.proofs.Demand3.Reads.Walks.{sought}
use Rattle.rules.proofs.Demand3.Reads.Lists.{newest-finds, list_answers}

module _ {s : Session} {W S : List ℕ} {Been : States} (x : Safe s W S Been) (state : ℕ → Option ℕ)
    (told : (k : ℕ) → k ≤ last_key → Tells s.n W k (state k)) where
  good : Good s.n W
  good = working-good x.inv

  abbrev certs : List Cert
  certs = (tree_of s.n W).certs

  held : (k : ℕ) → k ≤ last_key → find k certs ≡ state k
  held k h = tree-tells good (told k h)

  pub list-told : (from : ℕ) (ks xs : List ℕ) → ListTells state from ks xs (list W S s from ks xs)
  unfolding up_from
  list-told from ks xs =
      let l = list_answers x (calm x) from ks xs in
      let a = up_from from ks xs in
      record {
        entries = sought s.n W a;
        answer = l.answer;
        in_keys = l.keys;
        in_records = l.records;
        rise = shown-rise certs (all_ordered good).rise (all-good good) state held a (omega arith);
        shown = shown-held certs (all_ordered good).rise (all-good good) state held a (omega arith);
        whole = shown-whole certs (all_ordered good).rise (all-good good) state held a (omega arith);
      }

  pub newest-told : (model serial : ℕ) → 0 < model → model < 65536 → 0 < serial → serial < 4294967296
      → NewestTells state model serial (newest W S s model serial).answer
  newest-told model serial a b c d =
      subst (NewestTells state model serial) (sym (newest-finds x model serial (and_of (lt-ltb 0 model a) (lt-ltb 0 serial c))))
      (newest-last certs (all_ordered good).rise (all-good good) state held model serial b d)
