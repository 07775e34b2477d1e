-- Noting one tree after the other is noting them joined. Assumes nothing.
use Rattle.std.proofs.Common.{◌≡◌, ℕ, ◌+◌, Bool, true, false, not, ◌&&◌, List, [], ◌∷◌, ◌++◌, get_or, set, sym, refl, ap, ◌∙◌, eq-eqb, ne_eqb}
use mathlib.Core.Bool.{and-true, and-false}
use Rattle.rules.specs.Entry.{Cert}
use Rattle.rules.specs.Marks.{wraps}
use Rattle.rules.specs.Tree.{Tree, join, empty, broken}
use Rattle.seen.specs.declared.Seen.{Seen}
use Rattle.seen.specs.Note.{count_on, tally, seen_of, mark, unmarked, note, named}

pub same_seen : {a b : Bool} {i j : ℕ} {cs ds xs ys : List Bool} → a ≡ b → i ≡ j → cs ≡ ds → xs ≡ ys
    → seen_of (tally a i) cs xs ≡ seen_of (tally b j) ds ys
same_seen p k q r = cc

pub count-append : (total : ℕ) (xs ys : List Cert) → count_on total (xs ++ ys) ≡ count_on (count_on total xs) ys
unfolding count_on
count-append total [] ys = refl
count-append total (x ∷ xs) ys = count-append (wraps (total + 1)) xs ys

pub mark-append : (m : List Bool) (xs ys : List ℕ) → mark m (xs ++ ys) ≡ mark (mark m xs) ys
unfolding mark
mark-append m [] ys = refl
mark-append m (x ∷ xs) ys = mark-append (set m x true) xs ys

and_assoc : (a b c : Bool) → (a && (b && c)) ≡ ((a && b) && c)
and_assoc true b c = refl
and_assoc false b c = refl

pub unmarked-append : (m : List Bool) (xs ys : List ℕ) → unmarked m (xs ++ ys) ≡ (unmarked m xs && unmarked (mark m xs) ys)
unfolding mark unmarked
unmarked-append m [] ys = refl
unmarked-append m (x ∷ xs) ys =
    ap (λ (b : Bool). not (get_or m x false) && b) (unmarked-append (set m x true) xs ys)
    ∙ and_assoc (not (get_or m x false)) (unmarked (set m x true) xs) (unmarked (mark (set m x true) xs) ys)

-- the order in which the tests are made does not matter
regroup : (s a b f g : Bool) → (s && ((a && b) && (f && g))) ≡ ((s && (a && f)) && (b && g))
regroup false a b f g = refl
regroup true false b f g = refl
regroup true true false f g = sym (and-false f)
regroup true true true f g = refl

pub note-join : (s : Seen) (a b : Tree) → note s (join a b) ≡ note (note s a) b
unfolding note join
note-join s a b =
    same_seen
    (ap (λ (t : Bool). s.whole && ((a.whole && b.whole) && t)) (unmarked-append s.children a.children b.children)
    ∙ regroup s.whole a.whole b.whole (unmarked s.children a.children) (unmarked (mark s.children a.children) b.children))
    (count-append s.total a.certs b.certs)
    (mark-append s.children a.children b.children)
    (mark-append s.spared a.spared b.spared)

pub note-empty : (s : Seen) → note s empty ≡ s
unfolding note empty mark unmarked count_on
note-empty s = same_seen (and-true s.whole) refl refl refl

pub note-broken : (s : Seen) → seen_of (tally false s.total) s.children s.spared ≡ note s broken
unfolding note broken mark unmarked count_on
note-broken s = same_seen (sym (and-false s.whole)) refl refl refl

-- trees are noted the same field by field
pub note-same : (s : Seen) (a b : Tree) → a.whole ≡ b.whole → a.children ≡ b.children → a.spared ≡ b.spared → a.certs ≡ b.certs
    → note s a ≡ note s b
unfolding note
note-same s a b p q r c = cc

-- ── One place ───────────────────────────────────────────────────────────────────────────────────────────────────

module _ (s : Seen) (child page : ℕ) (certs : List Cert) where
  once : (s.whole && not (get_or s.children child false)) ≡ (s.whole && (true && (not (get_or s.children child false) && true)))
  once = ap (λ (b : Bool). s.whole && b) (sym (and-true (not (get_or s.children child false))))

  -- the page that shows the place, if it is not the child
  sparing : Bool → List Bool
  sparing b = mark s.spared (elim b [ true ↦ [] | false ↦ page ∷ [] ])

  pub note-child : page ≡ child
      → seen_of (tally (s.whole && not (get_or s.children child false)) (count_on s.total certs)) (set s.children child true) s.spared ≡ note s (named child page certs)
  unfolding note named mark unmarked sparing
  note-child h = same_seen once refl refl (ap sparing (sym (eq-eqb page child h)))

  pub note-lost : (page ≡ child → ⊥)
      → seen_of (tally (s.whole && not (get_or s.children child false)) (count_on s.total certs)) (set s.children child true) (set s.spared page true) ≡ note s (named child page certs)
  unfolding note named mark unmarked sparing
  note-lost h = same_seen once refl refl (ap sparing (sym (ne_eqb page child h)))
