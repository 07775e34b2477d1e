-- The walk over a range is not whole exactly when it meets a damaged place. Assumes nothing.
use Prim.Native.Nat.{ℕ, zero, suc, ◌+◌}
use native.Mathlib.Omega.{arith}
use mathlib.Core.Path.{◌≡◌, refl, sym, ap, ◌∙◌}
use mathlib.Core.Logic.{◌⊎◌, inl, inr}
use mathlib.Core.Bool.{true, false}
use mathlib.Core.List.{List, [], ◌∷◌, ◌++◌, Memᴰ}
use mathlib.Core.Option.{some}
use Rattle.rules.specs.Layout.{top_kind}
use Rattle.rules.specs.Test.{every}
use Rattle.rules.specs.Place.{root_place, kids}
use Rattle.rules.specs.Enter.{Entered, enter}
use Rattle.rules.specs.Walk.{Walked, enters, finds, stops, walk_each, walk, walk_of, noted}
use Rattle.rules.specs.declared.Place.{Place}
use Rattle.rules.specs.declared.Asked.{Asked}
use Rattle.rules.proofs.Entries.Tests.{not_both}
use Rattle.rules.proofs.Demand1.WalkSteps.{enter-damaged, walk-entered}
use Rattle.answers.specs.Range.{Parent, numbers_of, Comes, MeetsDamageIn, StopsIn}
use Rattle.answers.proofs.Deep.{Deep, not_out, enter-shows, kid-deep}
use Rattle.answers.proofs.RangeSteps.{mem-here, mem-before, each_append, walk-broken, passed-same}
use Rattle.answers.proofs.RangeWalks.{walk-keeps}

-- ── What is not whole stays so ──────────────────────────────────────────────────────────────────────────────────

not_entered : (a : Asked) (e : Place) (w : Walked) → w.whole ≡ false → enters a e w ≡ false
unfolding enters every
not_entered a e w h = rw h

still_false : (level n c : ℕ) (a : Asked) (above : List ℕ) (e : Place) (w : Walked) → w.whole ≡ false
    → (walk level n c a above e w).whole ≡ false
unfolding walk stops
still_false zero n c a above e w h = refl
still_false (suc level) n c a above e w h = rw (walk, not_entered a e w h) h

each_false : (level n c : ℕ) (a : Asked) (above : List ℕ) (es : List Place) (w : Walked) → w.whole ≡ false
    → (walk_each (walk level n c a above) es w).whole ≡ false
unfolding walk_each
each_false level n c a above [] w h = h
each_false level n c a above (e ∷ es) w h =
    each_false level n c a above es (walk level n c a above e w) (still_false level n c a above e w h)

-- ── Damage met: not whole ───────────────────────────────────────────────────────────────────────────────────────

module _ (n c : ℕ) (a : Asked) (t : List ℕ) where
  -- where the walk stands when it comes to a place
  record Standing (above : List Parent) (w : Walked) (e : Place) : Type 0 where
    level : ℕ
    over : ℕ
    sum : over + level ≡ top_kind
    deep : Deep level e
    leads : (walk level n c a (numbers_of above) e w).whole ≡ false → (walk_of n c a t).whole ≡ false

  standing-below : (s : Parent) (above : List Parent) (v w : Walked) (e : Place) → enters a s.place v ≡ true
      → enter n c (numbers_of above) v.table s.place ≡ record { table = s.table; page = some s.page }
      → kids s.place s.page.view ≡ s.passed ++ (e ∷ s.later)
      → w ≡ walk_each (walk top_kind n c a (numbers_of (s ∷ above))) s.passed (finds a s.page.view (noted n s.place v) s.table)
      → (level over : ℕ) → over + level ≡ top_kind → Deep level s.place
      → ((walk level n c a (numbers_of above) s.place v).whole ≡ false → (walk_of n c a t).whole ≡ false)
      → Standing (s ∷ above) w e
  unfolding walk_each
  standing-below s above v w e p h q x zero over sum deep leads = absurd (not_out s.place deep)
  standing-below s above v w e p h q x (suc level) over sum deep leads = record {
    level = level;
    over = suc over;
    sum = omega arith;
    deep = below e (mem-here s.passed s.later e);
    leads = λ f. leads (ap (λ (r : Walked). r.whole) walked ∙ each_false level n c a (numbers_of (s ∷ above)) s.later
        (walk level n c a (numbers_of (s ∷ above)) e w) f);
  }
    where
      page : (enter n c (numbers_of above) v.table s.place).page ≡ some s.page
      page = ap (λ (r : Entered). r.page) h

      below : (d : Place) → Memᴰ d (s.passed ++ (e ∷ s.later)) → Deep level d
      below d m =
          kid-deep n v.table level s.place s.page.view deep
          (enter-shows n c (numbers_of above) v.table s.place s.page page) d (rw q m)

      start : Walked
      start = finds a s.page.view (noted n s.place v) s.table

      same : walk_each (walk level n c a (numbers_of (s ∷ above))) s.passed start ≡ w
      same =
          sym (passed-same (suc over) level n c a (numbers_of (s ∷ above)) s.passed start (omega arith)
          (λ d m. below d (mem-before s.passed (e ∷ s.later) d m))) ∙ sym x

      walked : walk (suc level) n c a (numbers_of above) s.place v
          ≡ walk_each (walk level n c a (numbers_of (s ∷ above))) s.later (walk level n c a (numbers_of (s ∷ above)) e w)
      walked =
          walk-entered level n c a (numbers_of above) s.place v p s.page page
          ∙ (ap (λ (r : Entered). walk_each (walk level n c a (numbers_of (s ∷ above))) (kids s.place s.page.view)
          (finds a s.page.view (noted n s.place v) r.table)) h
          ∙ (ap (λ (es : List Place). walk_each (walk level n c a (numbers_of (s ∷ above))) es start) q
          ∙ (each_append (walk level n c a (numbers_of (s ∷ above))) s.passed (e ∷ s.later) start
          ∙ ap (λ (r : Walked). walk_each (walk level n c a (numbers_of (s ∷ above))) (e ∷ s.later) r) same)))

  standing : (above : List Parent) (w : Walked) (e : Place) → Comes n c a t above w e → Standing above w e
  unfolding walk_of root_place
  standing [] w e r = record {
    level = top_kind;
    over = 0;
    sum = refl;
    deep = inl (ap (λ (x : Place). x.want) r.1, omega arith);
    leads = λ f. rw (r.0, r.1) at f;
  }
  standing (s ∷ above) w e r =
      let x = standing above r.0 s.place r.1 in
      standing-below s above r.0 w e r.2 r.3 r.4 r.5 x.level x.over x.sum x.deep x.leads

  pub damage_cuts : MeetsDamageIn n c a t → (walk_of n c a t).whole ≡ false
  damage_cuts m = go (standing m.above m.found m.place m.comes)
    where
      at : (level : ℕ) → Deep level m.place
          → ((walk level n c a (numbers_of m.above) m.place m.found).whole ≡ false → (walk_of n c a t).whole ≡ false)
          → (walk_of n c a t).whole ≡ false
      at zero deep leads = absurd (not_out m.place deep)
      at (suc level) deep leads =
          leads (walk-broken level n c a (numbers_of m.above) m.place m.found m.entered m.damaged)

      go : Standing m.above m.found m.place → (walk_of n c a t).whole ≡ false
      go x = at x.level x.deep x.leads

  -- ── Not whole: damage met ───────────────────────────────────────────────────────────────────────────────────────

  -- no damage so far, or the walk ended at it
  abbrev Goes : Walked → Type 0
  Goes w = (w.whole ≡ true) ⊎ StopsIn n c a t w.table

  goes : Goes (walk_of n c a t)
  unfolding stops finds
  goes =
      walk-keeps n c a t Goes
      (λ above w e comes p h m. inr (record {
        meets = record { above = above; found = w; place = e; comes = comes; entered = p; damaged = h };
        left = enter-damaged n c (numbers_of above) w.table e h;
      }))
      (λ above w e x comes p h m. inl refl) (inl refl)

  pub cut-stops : (walk_of n c a t).whole ≡ false → StopsIn n c a t (walk_of n c a t).table
  cut-stops f = go goes
    where
      go : Goes (walk_of n c a t) → StopsIn n c a t (walk_of n c a t).table
      go (inl g) = absurd (not_both g f)
      go (inr g) = g

  pub cut_damage : (walk_of n c a t).whole ≡ false → MeetsDamageIn n c a t
  cut_damage f = (cut-stops f).meets
