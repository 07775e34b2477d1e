-- A table that shows the same at every node holds the same certificates.
use Prim.Native.Nat.{ℕ, zero, suc}
use native.Mathlib.Omega.{arith}
use mathlib.Core.Path.{◌≡◌, refl, sym, ap, ◌∙◌}
use mathlib.Core.List.{List, [], ◌∷◌, ◌++◌, Memᴰ}
use mathlib.Core.Option.{some}
use Rattle.rules.specs.Layout.{top_kind}
use Rattle.rules.specs.Entry.{Cert}
use Rattle.rules.specs.Page.{View}
use Rattle.rules.specs.Place.{root_place, kids, show}
use Rattle.rules.specs.Tree.{Tree, empty, join, here, tree_each, tree, tree_of}
use Rattle.rules.specs.declared.Place.{Place}
use Rattle.rules.proofs.Demand3.Ways.Ways.{Node}
use Rattle.rules.proofs.Demand3.Ways.Invariant.{Good}
use Rattle.rules.proofs.Demand3.Ways.Nodes.{node-root}
use Rattle.rules.proofs.Demand3.Epochs.Opens.{tree-shown, kid-node}
use Rattle.rules.proofs.Demand3.Steps.Mended.{Steady}

each_same : (f g : Place → Tree) (es : List Place) → ((d : Place) → Memᴰ d es → (f d).certs ≡ (g d).certs)
    → (tree_each f es).certs ≡ (tree_each g es).certs
unfolding tree_each join empty
each_same f g [] h = refl
each_same f g (e ∷ es) h =
    ap (λ (xs : List Cert). xs ++ (tree_each f es).certs) (h e (Memᴰ.head refl))
    ∙ ap (λ (xs : List Cert). (g e).certs ++ xs) (each_same f g es (λ d m. h d (Memᴰ.tail m)))

module _ {n : ℕ} {t u : List ℕ} (g : Good n t) (h : Steady n t u) where
  abbrev Same : ℕ → Type 0
  Same level = (k : ℕ) (e : Place) (v : View) → Node n t k e → show n t e ≡ some v → (tree level n u e).certs ≡ (tree level n t e).certs

  -- the kids of a node are nodes
  kids-same : (level k : ℕ) (e : Place) (v : View) → Node n t k e → show n t e ≡ some v → Same level
      → (tree_each (tree level n u) (kids e v)).certs ≡ (tree_each (tree level n t) (kids e v)).certs
  kids-same level k e v x s ih =
      each_same (tree level n u) (tree level n t) (kids e v)
      (λ d m.
      let y = kid-node v d x s m in
      let w = g.whole y.1 in
      ih d.low d w.view y.1 w.shows)

  zero_same : (e : Place) → (tree zero n u e).certs ≡ (tree zero n t e).certs
  unfolding tree
  zero_same e = refl

  same-certs : (level : ℕ) → Same level
  unfolding join here
  same-certs zero k e v x s = zero_same e
  same-certs (suc level) k e v x s =
      ap (λ (y : Tree). y.certs) (tree-shown level n u e v (h.shows x ∙ s))
      ∙ (ap (λ (xs : List Cert). v.certs ++ xs) (kids-same level k e v x s (same-certs level))
      ∙ sym (ap (λ (y : Tree). y.certs) (tree-shown level n t e v s)))

  pub same-held : (tree_of n u).certs ≡ (tree_of n t).certs
  unfolding tree_of
  same-held =
      let x = node-root n t 0 (omega arith) in
      let w = g.whole x in
      ap (λ (e : Place). (tree top_kind n u e).certs) h.root ∙ same-certs top_kind 0 (root_place t) w.view x w.shows
