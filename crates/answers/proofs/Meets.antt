-- The walk of a key has no pages to show exactly when it meets a damaged place: its level never runs out.
-- Assumes nothing.
use Prim.Native.Nat.{ℕ, zero, suc}
use native.Mathlib.Omega.{arith}
use mathlib.Core.Path.{◌≡◌, refl, sym, ap, ◌∙◌, subst}
use mathlib.Core.Logic.{inl}
use mathlib.Core.List.{List, [], ◌∷◌}
use mathlib.Core.Option.{Option, some, none, none-ne-some}
use Rattle.rules.specs.Layout.{top_kind}
use Rattle.rules.specs.Page.{Page}
use Rattle.rules.specs.Place.{root_place, kids, pick}
use Rattle.rules.specs.Enter.{Entered, enter}
use Rattle.rules.specs.Walk.{Step, Way, numbers, descend, way_of}
use Rattle.rules.specs.declared.Place.{Place}
use Rattle.rules.proofs.Entries.Picks.{pick-mem}
use Rattle.rules.proofs.Demand1.WalkSteps.{enter-damaged}
use Rattle.answers.specs.OneKey.{Reaches, MeetsDamage, EndsIn, at_damage, at_leaf}
use Rattle.answers.proofs.Deep.{Deep, not_out, enter-shows, kid-deep}

-- ── One step of the walk ────────────────────────────────────────────────────────────────────────────────────────

module _ (level n c k : ℕ) (above : List Step) (t : List ℕ) (e : Place) where
  descend-damaged : (enter n c (numbers above) t e).page ≡ none → (descend (suc level) n c k above t e).steps ≡ none
  unfolding descend
  descend-damaged h = rw (descend, h)

  module _ (p : Page) (h : (enter n c (numbers above) t e).page ≡ some p) where
    abbrev here : Step
    here = record { place = e; page = p }

    descend-ends : pick k (kids e p.view) ≡ none → (descend (suc level) n c k above t e).steps ≡ some (here ∷ above)
    unfolding descend
    descend-ends q = rw (descend, h, q)

    descend-below : (e' : Place) → pick k (kids e p.view) ≡ some e'
        → descend (suc level) n c k above t e ≡ descend level n c k (here ∷ above) (enter n c (numbers above) t e).table e'
    unfolding descend
    descend-below e' q = rw (descend, h, q)

    deep-below : Deep (suc level) e → (e' : Place) → pick k (kids e p.view) ≡ some e' → Deep level e'
    deep-below deep e' q =
        kid-deep n t level e p.view deep (enter-shows n c (numbers above) t e p h) e' (pick-mem k (kids e p.view) e' q)

-- ── Where the walk stands when it reaches a place ───────────────────────────────────────────────────────────────

module _ (n c k : ℕ) (t : List ℕ) where
  record Standing (above : List Step) (u : List ℕ) (e : Place) : Type 0 where
    level : ℕ
    rest : way_of n c k t ≡ descend level n c k above u e
    deep : Deep level e

  standing-below : (s : Step) (above : List Step) (v u : List ℕ) (e : Place)
      → enter n c (numbers above) v s.place ≡ record { table = u; page = some s.page }
      → pick k (kids s.place s.page.view) ≡ some e
      → (level : ℕ) → way_of n c k t ≡ descend level n c k above v s.place → Deep level s.place
      → Standing (s ∷ above) u e
  standing-below s above v u e h q zero rest deep = absurd (not_out s.place deep)
  standing-below s above v u e h q (suc level) rest deep =
      let p : (enter n c (numbers above) v s.place).page ≡ some s.page = ap (λ (x : Entered). x.page) h in
      record {
        level = level;
        rest = rest ∙ (descend-below level n c k above v s.place s.page p e q
            ∙ ap (λ (x : Entered). descend level n c k (s ∷ above) x.table e) h);
        deep = deep-below level n c k above v s.place s.page p deep e q;
      }

  standing : (above : List Step) (u : List ℕ) (e : Place) → Reaches n c k t above u e → Standing above u e
  unfolding way_of root_place
  standing [] u e r = record {
    level = top_kind;
    rest = rw (r.0, r.1);
    deep = inl (ap (λ (x : Place). x.want) r.1, omega arith);
  }
  standing (s ∷ above) u e r =
      let x = standing above r.0 s.place r.1 in
      standing-below s above r.0 u e r.2 r.3 x.level x.rest x.deep

  -- ── No pages to show: a damaged place was met ───────────────────────────────────────────────────────────────────

  pub damage_none : MeetsDamage n c k t → (way_of n c k t).steps ≡ none
  damage_none m = go (standing m.above m.table m.place m.reached)
    where
      at : (level : ℕ) → way_of n c k t ≡ descend level n c k m.above m.table m.place → Deep level m.place
          → (way_of n c k t).steps ≡ none
      at zero rest deep = absurd (not_out m.place deep)
      at (suc level) rest deep =
          ap (λ (x : Way). x.steps) rest ∙ descend-damaged level n c k m.above m.table m.place m.damaged

      go : Standing m.above m.table m.place → (way_of n c k t).steps ≡ none
      go x = at x.level x.rest x.deep

  none-step : (level : ℕ) (above : List Step) (u : List ℕ) (e : Place) → Reaches n c k t above u e → Deep (suc level) e
      → (descend (suc level) n c k above u e).steps ≡ none
      → ((above' : List Step) (u' : List ℕ) (e' : Place) → Reaches n c k t above' u' e' → Deep level e'
      → (descend level n c k above' u' e').steps ≡ none → MeetsDamage n c k t)
      → MeetsDamage n c k t
  none-step level above u e at deep z rest = found (enter n c (numbers above) u e).page refl
    where
      picked : (p : Page) → (enter n c (numbers above) u e).page ≡ some p
          → (o : Option Place) → pick k (kids e p.view) ≡ o → MeetsDamage n c k t
      picked p h none q =
          absurd (none-ne-some (record { place = e; page = p } ∷ above) (sym z ∙ descend-ends level n c k above u e p h q))
      picked p h (some e') q =
          rest (record { place = e; page = p } ∷ above) (enter n c (numbers above) u e).table e'
          (u, at, (λ i. record { table = (enter n c (numbers above) u e).table; page = h i }), q)
          (deep-below level n c k above u e p h deep e' q)
          (ap (λ (x : Way). x.steps) (sym (descend-below level n c k above u e p h e' q)) ∙ z)

      found : (o : Option Page) → (enter n c (numbers above) u e).page ≡ o → MeetsDamage n c k t
      found none h = record { above = above; table = u; place = e; reached = at; damaged = h }
      found (some p) h = picked p h (pick k (kids e p.view)) refl

  descend-none : (level : ℕ) (above : List Step) (u : List ℕ) (e : Place) → Reaches n c k t above u e → Deep level e
      → (descend level n c k above u e).steps ≡ none → MeetsDamage n c k t
  descend-none zero above u e at deep z = absurd (not_out e deep)
  descend-none (suc level) above u e at deep z = none-step level above u e at deep z (descend-none level)

  pub none_damage : (way_of n c k t).steps ≡ none → MeetsDamage n c k t
  unfolding way_of root_place
  none_damage z = descend-none top_kind [] t (root_place t) (refl, refl) (inl (refl, omega arith)) z

  -- ── Where the walk ends ─────────────────────────────────────────────────────────────────────────────────────────

  ends-step : (level : ℕ) (above : List Step) (u : List ℕ) (e : Place) → Reaches n c k t above u e → Deep (suc level) e
      → ((above' : List Step) (u' : List ℕ) (e' : Place) → Reaches n c k t above' u' e' → Deep level e'
      → EndsIn n c k t (descend level n c k above' u' e').table)
      → EndsIn n c k t (descend (suc level) n c k above u e).table
  unfolding descend
  ends-step level above u e at deep rest = found (enter n c (numbers above) u e).page refl
    where
      reached : (p : Page) → (enter n c (numbers above) u e).page ≡ some p
          → enter n c (numbers above) u e ≡ record { table = (enter n c (numbers above) u e).table; page = some p }
      reached p h = λ i. record { table = (enter n c (numbers above) u e).table; page = h i }

      picked : (p : Page) → (enter n c (numbers above) u e).page ≡ some p
          → (o : Option Place) → pick k (kids e p.view) ≡ o → EndsIn n c k t (descend (suc level) n c k above u e).table
      picked p h none q = rw (descend, h, q) (at_leaf (record { place = e; page = p }) above u at (reached p h) q)
      picked p h (some e') q =
          rw (descend, h, q)
          (rest (record { place = e; page = p } ∷ above) (enter n c (numbers above) u e).table e' (u, at, reached p h, q)
          (deep-below level n c k above u e p h deep e' q))

      found : (o : Option Page) → (enter n c (numbers above) u e).page ≡ o → EndsIn n c k t (descend (suc level) n c k above u e).table
      found none h = rw (descend, h) (subst (EndsIn n c k t) (sym (enter-damaged n c (numbers above) u e h)) (at_damage above e at h))
      found (some p) h = picked p h (pick k (kids e p.view)) refl

  ends : (level : ℕ) (above : List Step) (u : List ℕ) (e : Place) → Reaches n c k t above u e → Deep level e
      → EndsIn n c k t (descend level n c k above u e).table
  ends zero above u e at deep = absurd (not_out e deep)
  ends (suc level) above u e at deep = ends-step level above u e at deep (ends level)

  pub way-ends : EndsIn n c k t (way_of n c k t).table
  unfolding way_of root_place
  way-ends = ends top_kind [] t (root_place t) (refl, refl) (inl (refl, omega arith))
