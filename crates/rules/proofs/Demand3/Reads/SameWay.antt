-- The way of any key in a safe store: it meets no damage, and its steps are read off the tree as it stands, whatever was mended
-- before or is mended on the way.
use Rattle.std.proofs.Common.{◌≡◌, ℕ, zero, suc, ◌≤◌, List, [], ◌∷◌, sym, refl, ap, ◌∙◌, subst, arith}
use mathlib.Core.Option.{Option, some, none}
use Rattle.rules.specs.Layout.{top_kind}
use Rattle.rules.specs.Page.{View, Page}
use Rattle.rules.specs.Place.{root_place, kids, pick, show}
use Rattle.rules.specs.Enter.{enter}
use Rattle.rules.specs.Walk.{Step, Way, numbers, descend, way_of}
use Rattle.rules.specs.declared.Place.{Place}
use Rattle.rules.specs.declared.Session.{Session}
use Rattle.rules.proofs.Entries.Picks.{pick-mem}
use Rattle.rules.proofs.Demand1.WalkSteps.{descend-ends, descend-below}
use Rattle.rules.proofs.Demand3.Ways.Ways.{Node}
use Rattle.rules.proofs.Demand3.Ways.Invariant.{States}
use Rattle.rules.proofs.Demand3.Ways.Kids.{shown-kind}
use Rattle.rules.proofs.Demand3.Ways.Nodes.{node-root, kid-kind}
use Rattle.rules.proofs.Demand3.Epochs.Epochs.{working-good}
use Rattle.rules.proofs.Demand3.Epochs.Opens.{kid-node}
use Rattle.rules.proofs.Demand3.Epochs.Store.{Safe}
use Rattle.rules.proofs.Demand3.Reads.Brings.{brought}
use Rattle.rules.proofs.Demand3.Reads.Enters.{Calm, AllHigher, none_higher, more_higher, Entering, entering}

-- ── The same way through a table that stays as it is ────────────────────────────────────────────────────────────

abbrev step_at : ℕ → ℕ → List ℕ → Place → Step
step_at n c t e = record { place = e; page = brought n c t e }

pub steps_from : ℕ → ℕ → ℕ → ℕ → List ℕ → List Step → Place → List Step
steps_from zero n c k t above e = above
steps_from (suc level) n c k t above e =
    elim (pick k (kids e (brought n c t e).view))
    [ none ↦ step_at n c t e ∷ above | some d ↦ steps_from level n c k t (step_at n c t e ∷ above) d ]

steps-end : (level n c k : ℕ) (t : List ℕ) (above : List Step) (e : Place) → pick k (kids e (brought n c t e).view) ≡ none
    → steps_from (suc level) n c k t above e ≡ step_at n c t e ∷ above
unfolding steps_from
steps-end level n c k t above e h = rw (h, steps_from)

steps-below : (level n c k : ℕ) (t : List ℕ) (above : List Step) (e d : Place) → pick k (kids e (brought n c t e).view) ≡ some d
    → steps_from (suc level) n c k t above e ≡ steps_from level n c k t (step_at n c t e ∷ above) d
unfolding steps_from
steps-below level n c k t above e d h = rw (h, steps_from)

-- ── A descent ───────────────────────────────────────────────────────────────────────────────────────────────────

-- no damage was met
pub record Passed (s : Session) (t S : List ℕ) (Been : States) (steps : List Step) (w : Way) : Type 0 where
  pub given : w.steps ≡ some steps
  pub left : Calm s t S Been w.table

module _ {s : Session} {t S : List ℕ} {Been : States} (x : Safe s t S Been) (k : ℕ) where
  abbrev Goal : ℕ → List Step → Place → List ℕ → Type 0
  Goal level above e u = Passed s t S Been (steps_from level s.n s.c k t above e) (descend level s.n s.c k above u e)

  passes : (level j : ℕ) (e : Place) (v : View) (above : List Step) → Node s.n t j e → show s.n t e ≡ some v → v.kind ≤ level
      → AllHigher s.n t v.kind (numbers above) → (u : List ℕ) → Calm s t S Been u → Goal level above e u
  unfolding numbers
  passes zero j e v above node shows low higher u m = absurd (omega (arith, (shown-kind s.n t e v shows).0))
  passes (suc level) j e v above node shows low higher u m = go (pick k (kids e b.view)) refl (passes level)
    where
      b : Page
      b = brought s.n s.c t e

      r : Entering s t S Been e v (enter s.n s.c (numbers above) u e)
      r = entering m node shows (numbers above) higher

      page : (enter s.n s.c (numbers above) u e).page ≡ some b
      page = r.page ∙ ap some r.same

      views : b.view ≡ v
      views = ap (λ (p : Page). p.view) (sym r.same) ∙ r.view

      Rest : Type 0
      Rest = (j : ℕ) (e : Place) (v : View) (above : List Step) → Node s.n t j e → show s.n t e ≡ some v → v.kind ≤ level
          → AllHigher s.n t v.kind (numbers above) → (u : List ℕ) → Calm s t S Been u → Goal level above e u

      go : (o : Option Place) → pick k (kids e b.view) ≡ o → Rest → Goal (suc level) above e u
      go none p rest =
          subst (λ (xs : List Step). Passed s t S Been xs (descend (suc level) s.n s.c k above u e))
          (sym (steps-end level s.n s.c k t above e p))
          (subst (Passed s t S Been (step_at s.n s.c t e ∷ above)) (sym (descend-ends level s.n s.c k above u e b page p))
          (record { given = refl; left = r.left }))
      go (some d) p rest =
          let y = kid-node v d node shows (pick-mem k (kids e v) d (ap (λ (w : View). pick k (kids e w)) (sym views) ∙ p)) in
          let z = (working-good x.inv).whole y.1 in
          let l = kid-kind s.n t e v shows d.low d y.0 z.view z.shows in
          subst (λ (xs : List Step). Passed s t S Been xs (descend (suc level) s.n s.c k above u e))
          (sym (steps-below level s.n s.c k t above e d p))
          (subst (Passed s t S Been (steps_from level s.n s.c k t (step_at s.n s.c t e ∷ above) d))
          (sym (descend-below level s.n s.c k above u e b page d p))
          (rest d.low d z.view (step_at s.n s.c t e ∷ above) y.1 z.shows (omega (arith, l))
          (more_higher (numbers above) v z.view.kind node shows (omega (arith, l)) higher)
          (enter s.n s.c (numbers above) u e).table r.left))

-- the steps of k's way in t
abbrev pub steps_to : ℕ → ℕ → ℕ → List ℕ → List Step
steps_to n c k t = steps_from top_kind n c k t [] (root_place t)

-- u is t with some lost pages mended
pub way-passes : {s : Session} {t u S : List ℕ} {Been : States} (k : ℕ) → Safe s t S Been → Calm s t S Been u
    → Passed s t S Been (steps_to s.n s.c k t) (way_of s.n s.c k u)
unfolding way_of numbers
way-passes {s} {t} {u} {S} {Been} k x m =
    let y = node-root s.n t 0 (omega arith) in
    let z = (working-good x.inv).whole y in
    let l = shown-kind s.n t (root_place t) z.view z.shows in
    subst (λ (e : Place). Passed s t S Been (steps_to s.n s.c k t) (descend top_kind s.n s.c k [] u e)) (sym m.steady.root)
    (passes x k top_kind 0 (root_place t) z.view [] y z.shows l.1 (none_higher s.n t z.view.kind) u m)
