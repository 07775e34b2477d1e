-- What the way of a key gives a lookup: nothing, or the leaf to look in. Assumes nothing.
use mathlib.Core.Path.{◌≡◌, refl, sym, ap, ◌∙◌, subst}
use mathlib.Core.List.{List, [], ◌∷◌}
use mathlib.Core.Option.{Option, some, none}
use Prim.Native.Nat.{ℕ, ◌≤◌, ◌<◌}
use native.Mathlib.Omega.{arith}
use lib.ListN.{length}
use Rattle.std.specs.Prelude.{Some, None, Err}
use Rattle.rules.specs.Layout.{leaf_room}
use Rattle.rules.specs.Entry.{find}
use Rattle.rules.specs.Page.{Page, page_in}
use Rattle.rules.specs.Table.{page_at, read}
use Rattle.rules.specs.Walk as rules
use Rattle.rules.specs.Lookup.{found_in}
use Rattle.rules.specs.Answer.{Looked}
use Rattle.rules.specs.declared.FindError.{FindError}
use Rattle.rules.specs.declared.Report.{Report}
use Rattle.rules.proofs.Bytes.All.{All, all_head}
use Rattle.head.proofs.Headers.{head_of}
use Rattle.way.specs.Ways.{Holds, step_of, spot_at, Ending, ending, end_or, end_in, reported}
use Rattle.way.specs.declared.End.{End}
use Rattle.way.specs.declared.Step.{Step}
use Rattle.way.proofs.Stood.{Stood, WayStands}
use Rattle.lookup.specs.Looks.{Look, found_before, looked_in, looked, answer_on, looked_along}
use Rattle.lookup.proofs.Leaf.{spot-room, found-leaf}

-- what was looked for and what was mended, together
pub reported_too : {a b : Look} {x y : Report} → x ≡ y → a ≡ b → reported a x ≡ reported b y
reported_too p q = cc

module _ (n k : ℕ) (x : rules.Way) (u : List ℕ) (a : (steps : List rules.Step) → x.steps ≡ some steps → WayStands n k x.table steps) where
  not_empty : x.steps ≡ some [] → ⊥
  not_empty q = omega (arith, ap length (a [] q).are)

  -- no end: a damaged place was met
  pub no_leaf : ending u None ≡ end_in k x → looked u (Err FindError.Damaged) ≡ looked_along k x
  unfolding end_in end_or looked_along answer_on
  no_leaf h = go x.steps refl (ap (λ (y : Ending). y.end) h)
    where
      go : (o : Option (List rules.Step)) → x.steps ≡ o → None ≡ end_or k x.table o → looked u (Err FindError.Damaged) ≡ looked_along k x
      go none q f = rw q (ap (λ (y : Ending). looked y.table (Err FindError.Damaged)) h)
      go (some []) q f = absurd (not_empty q)
      go (some (s ∷ ss)) q f = absurd (let z : ◌≡◌ {A = ℕ} 0 1 = cc in omega arith)

  -- the leaf at the end of a whole way
  pub record Ended (e : End) : Type 0 where
    pub steps : List rules.Step
    pub found : x.steps ≡ some steps
    pub stands : WayStands n k x.table steps
    pub table : u ≡ x.table
    pub leaf : e.leaf ≡ step_of stands.leaf
    pub spot : e.spot ≡ spot_at k u e.leaf

  pub ended : (e : End) → ending u (Some e) ≡ end_in k x → Ended e
  unfolding end_in end_or
  ended e h = go x.steps refl (ap (λ (y : Ending). y.end) h)
    where
      go : (o : Option (List rules.Step)) → x.steps ≡ o → Some e ≡ end_or k x.table o → Ended e
      go none q f = absurd (let z : ◌≡◌ {A = ℕ} 0 1 = cc in omega arith)
      go (some []) q f = absurd (not_empty q)
      go (some (s ∷ ss)) q f =
          let v = a (s ∷ ss) q in
          let g : e ≡ record { len = length (s ∷ ss); leaf = step_of s; spot = spot_at k x.table (step_of s) } = cc in
          let i : s ≡ v.leaf = cc (v.are) in
          let t : u ≡ x.table = ap (λ (y : Ending). y.table) h in
          let l : e.leaf ≡ step_of s = ap (λ (y : End). y.leaf) g in
          record {
            steps = s ∷ ss;
            found = q;
            stands = v;
            table = t;
            leaf = l ∙ ap step_of i;
            spot = ap (λ (y : End). y.spot) g ∙ sym (λ j. spot_at k (t j) (l j));
          }

  module _ (e : End) (d : Ended e) where
    stood : Stood n k x.table d.stands.leaf
    stood = all_head (subst (λ (ss : List rules.Step). All (Stood n k x.table) ss) d.stands.are d.stands.all)

    place : e.leaf.place.child ≡ d.stands.leaf.place.child
    place = ap (λ (s : Step). s.place.child) d.leaf

    page : read u e.leaf.place.child ≡ d.stands.leaf.page
    page = ap (λ (t : List ℕ). read t e.leaf.place.child) d.table ∙ (ap (read x.table) place ∙ stood.here)

    pub leaf-below : e.leaf.place.child < n
    leaf-below = omega (arith, place, stood.child_below)

    pub leaf-head : e.leaf.head ≡ head_of (read u e.leaf.place.child)
    leaf-head = ap (λ (s : Step). s.head) d.leaf ∙ ap head_of (sym page)

    pub leaf-holds : Holds (read u e.leaf.place.child).view
    leaf-holds =
        let s = stood.fits.sound in
        let l : Holds d.stands.leaf.page.view = record { leaf = d.stands.ends; room = s.certs_room; rise = s.certs_rise } in
        subst (λ (p : Page). Holds p.view) (sym page) l

    found_in_lem : (s : rules.Step) (ss : List rules.Step) → looked_in (find k s.page.view.certs) ≡ found_in k (s ∷ ss)
    unfolding looked_in found_in rules.certs_at
    found_in_lem s ss = go (find k s.page.view.certs) refl
      where
        go : (o : Option ℕ) → find k s.page.view.certs ≡ o → looked_in (find k s.page.view.certs) ≡ found_in k (s ∷ ss)
        go none q = rw (q, found_in)
        go (some v) q = rw (q, found_in)

    looked-leaf : (r : Looked) → r ≡ looked_in (find k (read u e.leaf.place.child).view.certs) → looked u r ≡ looked_along k x
    unfolding looked_along answer_on
    looked-leaf r f =
        let g : r ≡ found_in k d.steps = f ∙ (ap (λ (p : Page). looked_in (find k p.view.certs)) page ∙ (found_in_lem d.stands.leaf d.stands.rest ∙ ap (found_in k) (sym d.stands.are))) in
        rw d.found (cc (d.table, g))

    -- the key's spot in that leaf
    pub spot-within : e.spot ≤ leaf_room
    unfolding read page_in spot_at
    spot-within = spot-room (page_at u e.leaf.place.child) e.leaf.head leaf-head leaf-holds k e.spot d.spot

    pub looked-before : (r : Looked) → r ≡ found_before k e.spot (page_at u e.leaf.place.child) → looked u r ≡ looked_along k x
    unfolding read page_in spot_at
    looked-before r f =
        looked-leaf r (f ∙ found-leaf (page_at u e.leaf.place.child) e.leaf.head leaf-head leaf-holds k e.spot d.spot)
