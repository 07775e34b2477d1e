-- A table as format leaves it: page 0 asks for an empty leaf on page 1. It is good, older than 2, and tells of every key
-- that it is absent.
use Rattle.std.proofs.Common.{◌≡◌, ℕ, zero, suc, ◌<◌, ◌≤◌, Bool, true, false, ltb, List, sym, refl, ap, ◌∙◌, subst, arith, ltb-false, ltb-true}
use mathlib.Core.Bool.{false≢true}
use mathlib.Core.Option.{Option, some, none, some-injective}
use Rattle.rules.specs.Entry.{find}
use Rattle.rules.specs.Page.{View, Page, fresh}
use Rattle.rules.specs.Table.{read}
use Rattle.rules.specs.Place.{root_place, fits, show}
use Rattle.rules.specs.Format.{empty_leaf}
use Rattle.rules.specs.declared.Place.{Place}
use Rattle.rules.proofs.Bytes.Fresh.{fresh_leaf, fresh_root, first_fits}
use Rattle.rules.proofs.Entries.Places.{fits_true, shows}
use Rattle.rules.proofs.Demand3.Ways.Ways.{at, Node, Found, Tells}
use Rattle.rules.proofs.Demand3.Ways.Invariant.{Good}
use Rattle.rules.proofs.Demand3.Ways.Kids.{none_picked, leaf_kids}
use Rattle.rules.proofs.Demand3.Ways.Nodes.{above, at_root_lem}
use Rattle.rules.proofs.Demand3.Mix.MixTheorem.{Older}
use Rattle.rules.proofs.Demand3.Epochs.Epochs.{Alike}

pub record FirstLeaf (n : ℕ) (t : List ℕ) : Type 0 where
  pub two : 2 ≤ n
  pub root : root_place t ≡ fresh_root
  pub leaf : read t 1 ≡ fresh_leaf
  pub others : (i : ℕ) → 2 ≤ i → i < n → (read t i).birth ≡ 0

pub first_alike : {n : ℕ} {t u : List ℕ} → Alike n t u → FirstLeaf n t → FirstLeaf n u
first_alike a f = record {
  two = f.two;
  root = a.root ∙ f.root;
  leaf = a.pages 1 (omega arith) (omega (arith, f.two)) ∙ f.leaf;
  others = λ i p q. ap (λ (x : Page). x.birth) (a.pages i (omega arith) q) ∙ f.others i p q;
}

module _ {n : ℕ} {t : List ℕ} (f : FirstLeaf n t) where
  first_found : Found n t fresh_root
  first_found = ap (fits n fresh_root) f.leaf ∙ first_fits n

  first-shows : show n t fresh_root ≡ some empty_leaf
  unfolding fresh
  first-shows = shows n t fresh_root fresh_leaf f.leaf (fits_true n fresh_root fresh_leaf (first_fits n))

  -- the root is the only node
  only : (k i : ℕ) (e : Place) → at n t k i ≡ some e → fresh_root ≡ e
  unfolding empty_leaf
  only k zero e h = sym f.root ∙ at_root_lem n t k e h
  only k (suc i) e h =
      let a = above n t k i e h in
      let p = only k i a.parent a.stands in
      let v : empty_leaf ≡ a.view = some-injective empty_leaf a.view (sym first-shows ∙ (ap (show n t) p ∙ a.shows)) in
      absurd
      (none_picked k a.parent e a.view
      (leaf_kids n t a.parent a.view a.shows (ap (λ (u : View). u.kind) (sym v))) a.picks)

  only-node : {k : ℕ} {e : Place} → Node n t k e → fresh_root ≡ e
  only-node {k} {e} x = only k x.depth e x.here

  pub first_good : Good n t
  first_good = record {
    rooted = record {
      some_page = subst (λ (p : Place). 1 ≤ p.child) (sym f.root) (omega arith);
      in_table = subst (λ (p : Place). p.child < n) (sym f.root) (omega (arith, f.two));
      previous_in = subst (λ (p : Place). p.previous < n) (sym f.root) (omega (arith, f.two));
    };
    whole = λ x. record { view = empty_leaf; shows = ap (show n t) (sym (only-node x)) ∙ first-shows };
    once = λ x y h. sym (only-node x) ∙ only-node y;
    apart = λ x l y h. false≢true (sym l ∙ subst (Found n t) (only-node x) first_found);
  }

  pub first_older : Older n t 2
  unfolding fresh
  first_older = record {
    good = first_good;
    births = λ i p q. young i p q (ltb i 2) refl;
    born = λ x. subst (λ (p : Place). p.birth < 2) (only-node x) (omega arith);
    built = λ x g. subst (λ (p : Place). (read t p.child).built < 2) (only-node x) (subst (λ (q : Page). q.built < 2) (sym f.leaf) (omega arith));
  }
    where
      young : (i : ℕ) → 1 ≤ i → i < n → (b : Bool) → ltb i 2 ≡ b → (read t i).birth < 2
      young i p q true e =
          let one : i ≡ 1 = omega (arith, ltb-true i 2 e) in
          subst (λ (j : ℕ). (read t j).birth < 2) (sym one) (subst (λ (x : Page). x.birth < 2) (sym f.leaf) (omega arith))
      young i p q false e = omega (arith, f.others i (ltb-false i 2 e) q)

  pub first-tells : {k : ℕ} {state : Option ℕ} → Tells n t k state → state ≡ none
  unfolding empty_leaf find
  first-tells {k} x =
      let v : empty_leaf ≡ x.view = some-injective empty_leaf x.view (sym first-shows ∙ (ap (show n t) (only-node x.node) ∙ x.shows)) in
      sym x.finds ∙ ap (λ (u : View). find k u.certs) (sym v)
