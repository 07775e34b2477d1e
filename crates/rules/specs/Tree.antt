-- The tree as it stands: what entering every page would show, read off a table that stays as it is.
use Rattle.std.specs.Prelude.{ℕ, zero, suc, Bool, true, false, not, ◌&&◌, List, [], ◌∷◌, ◌++◌}
use Rattle.std.proofs.Math.Option.{some, none}
use Rattle.rules.specs.Layout.{top_kind}
use Rattle.rules.specs.Test.{every, all, mem, distinct}
use Rattle.rules.specs.Entry.{Cert}
use Rattle.rules.specs.Page.{View}
use Rattle.rules.specs.Table.{read}
use Rattle.rules.specs.Place.{root_place, kids, fits, show}
use Rattle.rules.specs.declared.Place.{Place}

-- whether no place is damaged, the numbers named as child, the previous pages of lost entries, and the certificates
pub record Tree : Type 0 where
  pub whole : Bool
  pub children : List ℕ
  pub spared : List ℕ
  pub certs : List Cert

unfoldable pub broken : Tree
broken = record { whole = false; children = []; spared = []; certs = [] }

unfoldable pub empty : Tree
empty = record { whole = true; children = []; spared = []; certs = [] }

unfoldable pub join : Tree → Tree → Tree
join a b = record {
  whole = a.whole && b.whole;
  children = a.children ++ b.children;
  spared = a.spared ++ b.spared;
  certs = a.certs ++ b.certs;
}

-- the previous page of a place that is lost
unfoldable pub spared_at : ℕ → List ℕ → Place → List ℕ
spared_at n t e = elim (fits n e (read t e.child)) [ true ↦ [] | false ↦ e.previous ∷ [] ]

unfoldable pub here : ℕ → List ℕ → Place → View → Tree
here n t e v = record {
  whole = true;
  children = e.child ∷ [];
  spared = spared_at n t e;
  certs = v.certs;
}

-- each entry of an inner page is walked as a page one level lower
unfoldable pub tree_each : (Place → Tree) → List Place → Tree
tree_each tree [] = empty
tree_each tree (e ∷ es) = join (tree e) (tree_each tree es)

unfoldable pub tree : ℕ → ℕ → List ℕ → Place → Tree
tree zero n t e = broken
tree (suc level) n t e =
    elim (show n t e) [ none ↦ broken | some v ↦ join (here n t e v) (tree_each (tree level n t) (kids e v)) ]

unfoldable pub tree_of : ℕ → List ℕ → Tree
tree_of n t = tree top_kind n t (root_place t)

-- what opening asks of the tree. A child with the number of a page above it is named twice.
unfoldable pub good_tree : Tree → Bool
good_tree s =
    every (s.whole ∷ distinct s.children ∷ all (λ i. not (mem i s.children)) s.spared ∷ [])
