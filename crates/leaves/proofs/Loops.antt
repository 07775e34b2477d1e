-- What a loop from leaf to leaf knows behind each step, and that it can make the next one. Assumes nothing.
use Prim.Native.Nat.{ℕ, ◌≤◌, ◌<◌}
use native.Mathlib.Omega.{arith}
use mathlib.Core.Path.{◌≡◌, refl, sym, ap, ◌∙◌, subst}
use mathlib.Core.Bool.{true}
use mathlib.Core.List.{List, [], ◌∷◌}
use mathlib.Core.Option.{Option, some, none}
use Rattle.std.specs.Prelude.{Result, Ok, Err}
use Rattle.rules.specs.Layout.{last_key}
use Rattle.rules.specs.Test.{mem}
use Rattle.rules.specs.Entry.{keys}
use Rattle.rules.specs.Page.{Page, count}
use Rattle.rules.specs.Table.{read}
use Rattle.rules.specs.Place.{root_place}
use Rattle.rules.specs.Walk as rules
use Rattle.rules.specs.declared.Report.{Report}
use Rattle.rules.proofs.Entries.Places.{Fits}
use Rattle.entries.specs.Spot.{spot_of}
use Rattle.enter.specs.declared.Above.{Above}
use Rattle.way.specs.Ways.{Holds}
use Rattle.way.proofs.Linked.{way-linked}
use Rattle.climbs.specs.Ground.{Ground}
use Rattle.climbs.proofs.Ground.{way-ground, no_way-empty, leaf-stood, leaf-ends, leaf-range}
use Rattle.leaves.specs.Kept.{KeptSteps}
use Rattle.leaves.specs.Cursors.{no_cursor, Kept, Nexting, nexting, leaf_of, next_or, next_of}
use Rattle.leaves.specs.declared.Leaf.{Leaf}
use Rattle.leaves.proofs.Keeps.{way-keeps, kept_same}

-- ── The cursor ──────────────────────────────────────────────────────────────────────────────────────────────────

-- the first one
pub kept-start : (n : ℕ) (t : List ℕ) (x : Above) → x ≡ no_cursor → Kept n t x
kept-start n t x h = record { steps = []; are = h; short = omega arith; kept = tt }

-- in a table where page 0 asks for the same root and the pages kept are read as before
pub kept_on : (n : ℕ) (t u : List ℕ) (x : Above) (K : Kept n t x) → root_place u ≡ root_place t
    → ((j : ℕ) → mem j (rules.numbers K.steps) ≡ true → read u j ≡ read t j) → Kept n u x
kept_on n t u x K z f = record {
  steps = K.steps;
  are = K.are;
  short = K.short;
  kept = kept_same n t u K.steps z f K.kept;
}

-- ── A step that met a damaged place, and one to a leaf ──────────────────────────────────────────────────────────

-- the leaf that the rules' way ends with, as it stands in the table left, the cursor behind it, and the report after x
pub record Reached (n c k upto : ℕ) (x : Report) (t u : List ℕ) (l : Leaf) : Type 0 where
  pub leaf : rules.Step
  pub above : List rules.Step
  pub way : rules.way_of n c k t ≡ record { table = u; steps = some (leaf ∷ above) }
  pub child : l.child ≡ leaf.place.child
  pub from : l.from ≡ k
  pub count : l.count ≡ count leaf.page.view
  pub high : l.high ≡ leaf.place.high
  pub spot : l.spot ≡ spot_of upto (keys leaf.page.view.certs)
  pub report : l.report ≡ rules.way_report n c k t x
  pub here : read u l.child ≡ leaf.page
  pub fits : Fits n leaf.place leaf.page
  pub holds : Holds (read u l.child).view
  pub child_from : 1 ≤ l.child
  pub child_below : l.child < n
  pub low : leaf.place.low ≤ k
  pub up : k ≤ leaf.place.high
  pub last : leaf.place.high ≤ last_key
  pub kept : Kept n u l.behind
  pub ground : Ground n c u

-- the steps, and what the answer says of them
record Told (n c k upto : ℕ) (x : Report) (t : List ℕ) (l : Leaf) : Type 0 where
  leaf : rules.Step
  above : List rules.Step
  steps : (rules.way_of n c k t).steps ≡ some (leaf ∷ above)
  are : l ≡ leaf_of k upto leaf above (rules.way_report n c k t x)

way_same : {t u : List ℕ} {o p : Option (List rules.Step)} → t ≡ u → o ≡ p
    → ◌≡◌ {A = rules.Way} (record { table = t; steps = o }) (record { table = u; steps = p })
way_same f g = cc

module _ {n c k : ℕ} {t u : List ℕ} (g : Ground n c t) (h : k ≤ last_key) (upto : ℕ) (x : Report) where
  table_is : (r : Result Leaf Report) → nexting u r ≡ next_of k upto (rules.way_of n c k t) (rules.way_report n c k t x) → u ≡ (rules.way_of n c k t).table
  unfolding next_of
  table_is r f = ap (λ (y : Nexting). y.table) f

  pub next-damaged : (y : Report) → nexting u (Err y) ≡ next_of k upto (rules.way_of n c k t) (rules.way_report n c k t x)
      → (rules.way_of n c k t ≡ rules.no_way u) × (y ≡ rules.way_report n c k t x)
  unfolding next_of next_or
  next-damaged y f =
      let s = go (rules.way_of n c k t).steps refl (ap (λ (z : Nexting). z.next) f) in
      (way_same (sym (table_is (Err y) f)) s.0, s.1)
    where
      go : (o : Option (List rules.Step)) → (rules.way_of n c k t).steps ≡ o → Err y ≡ next_or k upto o (rules.way_report n c k t x)
          → ((rules.way_of n c k t).steps ≡ none) × (y ≡ rules.way_report n c k t x)
      go none q e = (q, cc)
      go (some []) q e = absurd (no_way-empty g k h q)
      go (some (s ∷ above)) q e = absurd (let z : ◌≡◌ {A = ℕ} 0 1 = cc in omega arith)

  told : (l : Leaf) → nexting u (Ok l) ≡ next_of k upto (rules.way_of n c k t) (rules.way_report n c k t x) → Told n c k upto x t l
  unfolding next_of next_or
  told l f = go (rules.way_of n c k t).steps refl (ap (λ (y : Nexting). y.next) f)
    where
      go : (o : Option (List rules.Step)) → (rules.way_of n c k t).steps ≡ o → Ok l ≡ next_or k upto o (rules.way_report n c k t x) → Told n c k upto x t l
      go none q e = absurd (let z : ◌≡◌ {A = ℕ} 0 1 = cc in omega arith)
      go (some []) q e = absurd (no_way-empty g k h q)
      go (some (s ∷ above)) q e = record { leaf = s; above = above; steps = q; are = cc }

  module _ (l : Leaf) (f : nexting u (Ok l) ≡ next_of k upto (rules.way_of n c k t) (rules.way_report n c k t x)) where
    told_here : Told n c k upto x t l
    told_here = told l f

    left : (rules.way_of n c k t).table ≡ u
    left = sym (table_is (Ok l) f)

    way-is : rules.way_of n c k t ≡ record { table = u; steps = some (told_here.leaf ∷ told_here.above) }
    way-is = way_same left told_here.steps

    here : read u l.child ≡ told_here.leaf.page
    here =
        ap (λ (y : Leaf). read u y.child) told_here.are
        ∙ (ap (λ (v : List ℕ). read v told_here.leaf.place.child) (sym left)
        ∙ (leaf-stood g k h told_here.leaf told_here.above told_here.steps).here)

    holds-here : Holds (read u l.child).view
    holds-here =
        let s = (leaf-stood g k h told_here.leaf told_here.above told_here.steps).fits.sound in
        let v : Holds told_here.leaf.page.view = record {
          leaf = leaf-ends g k h told_here.leaf told_here.above told_here.steps;
          room = s.certs_room;
          rise = s.certs_rise;
        } in
        subst (λ (y : Page). Holds y.view) (sym here) v

    kept_here : Kept n u l.behind
    kept_here =
        let w = way-linked n c k t g.long g.fit g.bytes g.counter h (told_here.leaf ∷ told_here.above) told_here.steps in
        record {
          steps = told_here.above;
          are = ap (λ (y : Leaf). y.behind) told_here.are;
          short = omega (arith, w.short);
          kept = subst (λ (v : List ℕ). KeptSteps n v told_here.above) left (way-keeps g k h (told_here.leaf ∷ told_here.above) told_here.steps);
        }

    pub next-leaf : Reached n c k upto x t u l
    next-leaf =
        let a = told_here.are in
        let s = leaf-stood g k h told_here.leaf told_here.above told_here.steps in
        let r = leaf-range g k h told_here.leaf told_here.above told_here.steps in
        let i = ap (λ (y : Leaf). y.child) a in
        record {
          leaf = told_here.leaf;
          above = told_here.above;
          way = way-is;
          child = i;
          from = ap (λ (y : Leaf). y.from) a;
          count = ap (λ (y : Leaf). y.count) a;
          high = ap (λ (y : Leaf). y.high) a;
          spot = ap (λ (y : Leaf). y.spot) a;
          report = ap (λ (y : Leaf). y.report) a;
          here = here;
          fits = s.fits;
          holds = holds-here;
          child_from = omega (arith, i, s.child_from);
          child_below = omega (arith, i, s.child_below);
          low = r.0;
          up = r.1;
          last = r.2;
          kept = kept_here;
          ground = subst (Ground n c) left (way-ground g k h);
        }
