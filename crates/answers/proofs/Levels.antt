-- One level more changes nothing, where a place is within the levels there are. Assumes nothing.
use Prim.Native.Nat.{ℕ, zero, suc, ◌+◌}
use native.Mathlib.Nat.{suc-add}
use native.Mathlib.Omega.{arith}
use mathlib.Core.Path.{◌≡◌, refl, ap, ◌∙◌}
use mathlib.Core.Logic.{inl}
use mathlib.Core.Bool.{Bool, true, false}
use mathlib.Core.List.{List, [], ◌∷◌, Memᴰ}
use mathlib.Core.Option.{Option, some, none}
use Rattle.rules.specs.Layout.{top_kind}
use Rattle.rules.specs.Page.{View, Page}
use Rattle.rules.specs.Place.{root_place, kids, pick, show}
use Rattle.rules.specs.Enter.{enter}
use Rattle.rules.specs.Walk.{Step, numbers, descend, way_of, Walked, enters, finds, walk_each, walk, walk_of, unwalked, noted}
use Rattle.rules.specs.Tree.{Tree, join, here, tree_each, tree, tree_of}
use Rattle.rules.specs.declared.Place.{Place}
use Rattle.rules.specs.declared.Asked.{Asked}
use Rattle.rules.proofs.Entries.Picks.{pick-mem}
use Rattle.answers.specs.Levels.{Levels}
use Rattle.answers.proofs.Deep.{Deep, not_out, enter-shows, kid-deep}

-- ── The way of one key ──────────────────────────────────────────────────────────────────────────────────────────

way_step : (level n c k : ℕ) (above : List Step) (t : List ℕ) (e : Place) → Deep (suc level) e
    → ((above' : List Step) (t' : List ℕ) (e' : Place) → Deep level e'
    → descend (suc level) n c k above' t' e' ≡ descend level n c k above' t' e')
    → descend (suc (suc level)) n c k above t e ≡ descend (suc level) n c k above t e
unfolding descend
way_step level n c k above t e deep rest = found (enter n c (numbers above) t e).page refl
  where
    picked : (p : Page) → (enter n c (numbers above) t e).page ≡ some p
        → (o : Option Place) → pick k (kids e p.view) ≡ o
        → descend (suc (suc level)) n c k above t e ≡ descend (suc level) n c k above t e
    picked p h none q = rw (descend, h, q)
    picked p h (some e') q =
        rw (descend, h, q)
        (rest (record { place = e; page = p } ∷ above) (enter n c (numbers above) t e).table e'
        (kid-deep n t level e p.view deep (enter-shows n c (numbers above) t e p h) e'
        (pick-mem k (kids e p.view) e' q)))

    found : (o : Option Page) → (enter n c (numbers above) t e).page ≡ o
        → descend (suc (suc level)) n c k above t e ≡ descend (suc level) n c k above t e
    found none h = rw (descend, h)
    found (some p) h = picked p h (pick k (kids e p.view)) refl

way-more : (level n c k : ℕ) (above : List Step) (t : List ℕ) (e : Place) → Deep level e
    → descend (suc level) n c k above t e ≡ descend level n c k above t e
way-more zero n c k above t e deep = absurd (not_out e deep)
way-more (suc level) n c k above t e deep =
    way_step level n c k above t e deep (way-more level n c k)

-- ── The pages that meet a range ─────────────────────────────────────────────────────────────────────────────────

pub each_same : (f g : Place → Walked → Walked) (es : List Place)
    → ((e : Place) → Memᴰ e es → (w : Walked) → f e w ≡ g e w) → (w : Walked) → walk_each f es w ≡ walk_each g es w
unfolding walk_each
each_same f g [] h w = refl
each_same f g (e ∷ es) h w =
    each_same f g es (λ d m. h d (Memᴰ.tail m)) (f e w)
    ∙ ap (walk_each g es) (h e (Memᴰ.head refl) w)

range-step : (level n c : ℕ) (a : Asked) (above : List ℕ) (e : Place) (w : Walked) → Deep (suc level) e
    → ((above' : List ℕ) (e' : Place) (w' : Walked) → Deep level e'
    → walk (suc level) n c a above' e' w' ≡ walk level n c a above' e' w')
    → walk (suc (suc level)) n c a above e w ≡ walk (suc level) n c a above e w
unfolding walk
range-step level n c a above e w deep rest = go (enters a e w) refl (enter n c above w.table e).page refl
  where
    go : (b : Bool) → enters a e w ≡ b → (o : Option Page) → (enter n c above w.table e).page ≡ o
        → walk (suc (suc level)) n c a above e w ≡ walk (suc level) n c a above e w
    go false p o q = rw (walk, p)
    go true p none q = rw (walk, p, q)
    go true p (some x) q =
        rw (walk, p, q)
        (each_same (walk (suc level) n c a (e.child ∷ above)) (walk level n c a (e.child ∷ above)) (kids e x.view)
        (λ d m w'. rest (e.child ∷ above) d w'
        (kid-deep n w.table level e x.view deep (enter-shows n c above w.table e x q) d m))
        (finds a x.view (noted n e w) (enter n c above w.table e).table))

pub range-more : (level n c : ℕ) (a : Asked) (above : List ℕ) (e : Place) (w : Walked) → Deep level e
    → walk (suc level) n c a above e w ≡ walk level n c a above e w
range-more zero n c a above e w deep = absurd (not_out e deep)
range-more (suc level) n c a above e w deep = range-step level n c a above e w deep (range-more level n c a)

-- ── The tree as it stands ───────────────────────────────────────────────────────────────────────────────────────

trees_same : (f g : Place → Tree) (es : List Place) → ((e : Place) → Memᴰ e es → f e ≡ g e)
    → tree_each f es ≡ tree_each g es
unfolding tree_each
trees_same f g [] h = refl
trees_same f g (e ∷ es) h =
    ap (λ (x : Tree). join x (tree_each f es)) (h e (Memᴰ.head refl))
    ∙ ap (join (g e)) (trees_same f g es (λ d m. h d (Memᴰ.tail m)))

tree-step : (level n : ℕ) (t : List ℕ) (e : Place) → Deep (suc level) e
    → ((e' : Place) → Deep level e' → tree (suc level) n t e' ≡ tree level n t e')
    → tree (suc (suc level)) n t e ≡ tree (suc level) n t e
unfolding tree
tree-step level n t e deep rest = go (show n t e) refl
  where
    go : (o : Option View) → show n t e ≡ o → tree (suc (suc level)) n t e ≡ tree (suc level) n t e
    go none s = rw (tree, s)
    go (some v) s =
        rw (tree, s)
        (ap (join (here n t e v))
        (trees_same (tree (suc level) n t) (tree level n t) (kids e v)
        (λ d m. rest d (kid-deep n t level e v deep s d m))))

tree-more : (level n : ℕ) (t : List ℕ) (e : Place) → Deep level e → tree (suc level) n t e ≡ tree level n t e
tree-more zero n t e deep = absurd (not_out e deep)
tree-more (suc level) n t e deep = tree-step level n t e deep (tree-more level n t)

-- ── From the root, any levels more ──────────────────────────────────────────────────────────────────────────────

root-deep : (t : List ℕ) (more : ℕ) → Deep (more + top_kind) (root_place t)
unfolding root_place
root-deep t more = inl (refl, omega arith)

way-levels : (n c k : ℕ) (t : List ℕ) (more : ℕ) → descend (more + top_kind) n c k [] t (root_place t) ≡ way_of n c k t
unfolding way_of
way-levels n c k t zero = refl
way-levels n c k t (suc more) =
    rw suc-add (way-more (more + top_kind) n c k [] t (root_place t) (root-deep t more) ∙ way-levels n c k t more)

range-levels : (n c : ℕ) (a : Asked) (t : List ℕ) (more : ℕ)
    → walk (more + top_kind) n c a [] (root_place t) (unwalked t) ≡ walk_of n c a t
unfolding walk_of
range-levels n c a t zero = refl
range-levels n c a t (suc more) =
    rw suc-add
    (range-more (more + top_kind) n c a [] (root_place t) (unwalked t) (root-deep t more)
    ∙ range-levels n c a t more)

tree-levels : (n : ℕ) (t : List ℕ) (more : ℕ) → tree (more + top_kind) n t (root_place t) ≡ tree_of n t
unfolding tree_of
tree-levels n t zero = refl
tree-levels n t (suc more) =
    rw suc-add (tree-more (more + top_kind) n t (root_place t) (root-deep t more) ∙ tree-levels n t more)

pub levels : Levels
levels = record { way = way-levels; range = range-levels; whole_tree = tree-levels }
