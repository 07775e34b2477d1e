-- Where opening answers 0, entering page after page shows what it read off the table as that stands.
use Rattle.std.specs.Prelude.{Ok}
use Prim.Native.Nat.{ℕ, ◌*◌, ◌≤◌}
use native.Mathlib.Omega.{arith}
use mathlib.Core.Path.{◌≡◌, refl, sym, ap, ◌∙◌, subst}
use mathlib.Core.Bool.{Bool, true, false, ◌&&◌}
use mathlib.Core.List.{List, []}
use mathlib.Core.Option.{some}
use lib.ListN.{length}
use Rattle.rules.specs.Layout.{page_size, last_key}
use Rattle.rules.specs.Test.{mem}
use Rattle.rules.specs.Entry.{Cert, cut}
use Rattle.rules.specs.Page.{View}
use Rattle.rules.specs.Table.{pages, good_lengths, fit0}
use Rattle.rules.specs.Place.{show}
use Rattle.rules.specs.Enter.{enter}
use Rattle.rules.specs.Walk.{walk_of}
use Rattle.rules.specs.Tree.{tree_of, good_tree}
use Rattle.rules.specs.Call.{opened_no, open_error_no}
use Rattle.rules.specs.Open.{opening, open_refused}
use Rattle.rules.specs.declared.Asked.{Asked}
use Rattle.rules.specs.declared.Place.{Place}
use Rattle.rules.proofs.Entries.Tests.{and_left, and_right}
use Rattle.rules.proofs.Entries.Entries.{cut_all}
use Rattle.rules.proofs.Bytes.Lengths.{pages-of, good_lengths_true}
use Rattle.rules.proofs.Demand3.Ways.Ways.{Node}
use Rattle.rules.proofs.Demand3.Ways.Nodes.{node-root}
use Rattle.rules.proofs.Demand3.Epochs.Opens.{kid-node}
use Rattle.answers.specs.AsItStands.{InTree, at_root_lem, below}
use Rattle.reading.specs.Entering.{EnteredFrom, none_yet, one_more_lem, Gives, Alike, OpeningEnters}
use Rattle.reading.proofs.Soundly.{Passing, Shows, shows_itself, enter-seen}
use Rattle.rules.proofs.Demand3.Reads.TreeCerts.{all_ordered}
use Rattle.reading.proofs.SameTree.{same-held}
use Rattle.rules.proofs.Demand3.Reads.Gathers.{gather}
use Rattle.reading.proofs.Gathers.{walk_gathers}
use Rattle.reading.proofs.Passes.{good_of}
use Rattle.reading.proofs.Largest.{gather_all}

-- ── A table that passes ─────────────────────────────────────────────────────────────────────────────────────────

module _ {n c : ℕ} {t : List ℕ} (p : Passing n c t) where
  -- a place of the tree is a node
  placed : {e : Place} → InTree n t e → (k : ℕ) × Node n t k e
  placed {e} (at_root_lem q) = (0, subst (Node n t 0) (sym q) (node-root n t 0 (omega arith)))
  placed {e} (below d v x s m) = (e.low, (kid-node v e (placed x).1 s m).1)

  reached : {u : List ℕ} → EnteredFrom n c t u → Shows n c t u
  reached (none_yet q) = subst (Shows n c t) (sym q) (shows_itself p)
  reached (one_more_lem b e above x y m q) =
      let z = placed y in
      let w = p.good.whole z.1 in
      subst (Shows n c t) (sym q) (enter-seen w.view above (reached x) z.1 w.shows m).left

  gives : (u : List ℕ) → EnteredFrom n c t u → (e : Place) → InTree n t e → (v : View) → show n t e ≡ some v
      → (above : List ℕ) → mem e.child above ≡ false → Gives v (enter n c above u e)
  gives u x e y v s above m =
      let r = enter-seen v above (reached x) (placed y).1 s m in
      record { page = r.page; given = r.given; view = r.view }

  module _ (room : ℕ) (h : length (tree_of n t).certs ≤ room) where
    abbrev asked : Asked
    asked = record { low = 0; high = last_key; room = room }

    all-kept : cut 0 last_key (tree_of n t).certs ≡ (tree_of n t).certs
    all-kept = cut_all 0 last_key (tree_of n t).certs (all_ordered p.good).within

    found_all : gather asked [] (tree_of n t).certs ≡ (tree_of n t).certs
    found_all = gather_all asked (tree_of n t).certs (subst (λ (xs : List Cert). length xs ≤ room) (sym all-kept) h) ∙ all-kept

    walks : ((walk_of n c asked t).whole ≡ true) × ((walk_of n c asked t).found ≡ (tree_of n t).certs)
    walks = let w = walk_gathers p asked in (w.whole, w.found ∙ found_all)

  pub alike : Alike n c t
  alike = record {
    shown = λ e x. let w = p.good.whole (placed x).1 in (w.view, w.shows);
    gives = gives;
    holds = λ u x. same-held p.good (reached x).steady;
    walks = walks;
  }

-- ── Opening ─────────────────────────────────────────────────────────────────────────────────────────────────────

opening-tests : (w s : List ℕ) → (opening w s).answer ≡ Ok tt → (good_lengths w s ≡ true) × ((fit0 (pages s) s && good_tree (tree_of (pages s) s)) ≡ true)
unfolding opening open_refused open_error_no
opening-tests w s h = go (good_lengths w s) refl (fit0 (pages s) s && good_tree (tree_of (pages s) s)) refl
  where
    go : (a : Bool) → good_lengths w s ≡ a → (b : Bool) → (fit0 (pages s) s && good_tree (tree_of (pages s) s)) ≡ b
        → (good_lengths w s ≡ true) × ((fit0 (pages s) s && good_tree (tree_of (pages s) s)) ≡ true)
    go true p true q = (p, q)
    go true p false q = absurd (omega (arith, ap opened_no (rw (opening, p, q) at h)))
    go false p b q = absurd (omega (arith, ap opened_no (rw (opening, p) at h)))

pub opening-enters : OpeningEnters
unfolding OpeningEnters
opening-enters w s b h c m =
    let x = opening-tests w s h in
    let l = good_lengths_true w s x.0 in
    let n : pages s ≡ pages w = pages-of s (pages w) l.stable in
    let f = and_left (fit0 (pages s) s) (good_tree (tree_of (pages s) s)) x.1 in
    let g = and_right (fit0 (pages s) s) (good_tree (tree_of (pages s) s)) x.1 in
    alike (record {
      long = l.stable ∙ ap (λ (i : ℕ). i * page_size) (sym n);
      bytes = b;
      counter = m;
      good = good_of (pages s) s f g;
    })
