-- What a walk of one key leaves of each page: those of its way are as they were or mended, the others as they were.
use Prim.Native.Nat.{ℕ, suc, ◌≤◌, ◌<◌}
use native.Mathlib.Omega.{arith}
use mathlib.Core.Path.{◌≡◌, refl, sym, ap, ◌∙◌, subst}
use mathlib.Core.Logic.{◌⊎◌, inl, inr, ◌≢◌}
use mathlib.Core.Bool.{Bool, true, false}
use mathlib.Core.List.{List, [], ◌∷◌, Memᴰ}
use mathlib.Core.Option.{some, none, none-ne-some}
use lib.Dec.{eqb}
use borrow.Author.Tests.{eqb-true, eqb-false}
use Rattle.rules.specs.Test.{mem}
use Rattle.rules.specs.Page.{Page, is_leaf, page_in, build_bytes}
use Rattle.rules.specs.Table.{page_at, read, build}
use Rattle.rules.specs.Place.{kids, pick, fits, mendable, mended}
use Rattle.rules.specs.Enter.{Entered, mend, enter}
use Rattle.rules.specs.Walk.{Step, numbers}
use Rattle.rules.specs.declared.Place.{Place}
use Rattle.rules.proofs.Entries.Tests.{not_both, fails, mem-nil, mem-head, mem_tail, mem_cases}
use Rattle.rules.proofs.Bytes.All.{All, nil, cons}
use Rattle.rules.proofs.Entries.Views.{Shaped, shaped-read}
use Rattle.rules.proofs.Entries.Places.{mendable_true}
use Rattle.rules.proofs.Entries.Asks.{pick-leaf, kids-pick, kids-want}
use Rattle.rules.proofs.Bytes.Tables.{has-page, page_at-build-same, page_at-build-other}
use Rattle.enter.proofs.Mended.{room-mended}
use Rattle.way.proofs.Stood.{Ready, ready-stays, ready-next, Stood, stood-here}
use Rattle.reading.specs.Leaving.{PageLeft, as_it_was, mended_for}

-- ── One place entered ───────────────────────────────────────────────────────────────────────────────────────────

data Turn (n c : ℕ) (above t : List ℕ) (e : Place) (r : Entered) : Type 0 where
  stopped : r.table ≡ t → r.page ≡ none → Turn n c above t e r
  kept : mem e.child above ≡ false → r.table ≡ t → Turn n c above t e r
  built : mem e.child above ≡ false → fits n e (read t e.child) ≡ false → mendable n e (read t e.previous) ≡ true
      → r.table ≡ build t e.child (mended c e (read t e.previous)) → Turn n c above t e r

turn : (n c : ℕ) (above t : List ℕ) (e : Place) → Turn n c above t e (enter n c above t e)
unfolding enter mend
turn n c above t e = go (mem e.child above) refl (fits n e (read t e.child)) refl (mendable n e (read t e.previous)) refl
  where
    go : (a : Bool) → mem e.child above ≡ a → (f : Bool) → fits n e (read t e.child) ≡ f
        → (m : Bool) → mendable n e (read t e.previous) ≡ m → Turn n c above t e (enter n c above t e)
    go true a f g m h = stopped (rw (enter, a)) (rw (enter, a))
    go false a true g m h = kept a (rw (enter, a, g))
    go false a false g true h = built a g h (rw (enter, a, g, mend, h))
    go false a false g false h = stopped (rw (enter, a, g, mend, h)) (rw (enter, a, g, mend, h))

-- ── A page's fate goes with its bytes ───────────────────────────────────────────────────────────────────────────

pub left-same : {n c : ℕ} {places : List Place} {w t u : List ℕ} {i : ℕ} → page_at u i ≡ page_at t i → PageLeft n c places w t i → PageLeft n c places w u i
left-same q (as_it_was h) = as_it_was (q ∙ h)
left-same q (mended_for e m d f g h) = mended_for e m d f g (q ∙ h)

read_same : (t u : List ℕ) (i : ℕ) → page_at t i ≡ page_at u i → read t i ≡ read u i
unfolding read
read_same t u i h = ap page_in h

-- ── Where a walk stands ─────────────────────────────────────────────────────────────────────────────────────────

-- a page above stands in the table, and is of a higher kind than the one asked for
pub record Over (t : List ℕ) (want : ℕ) (s : Step) : Type 0 where
  pub here : read t s.place.child ≡ s.page
  pub asks : 1 ≤ want
  pub taller : want < s.page.view.kind

pub record Going (n c k : ℕ) (places : List Place) (w : List ℕ) (above : List Step) (t : List ℕ) (e : Place) : Type 0 where
  pub ready : Ready n c k t e
  pub over : All (Over t e.want) above
  pub others : (i : ℕ) → mem i (numbers above) ≡ false → page_at t i ≡ page_at w i
  pub done : (i : ℕ) → mem i (numbers above) ≡ true → PageLeft n c places w t i

-- none above is of the kind asked for
over_not : (t : List ℕ) (want : ℕ) (above : List Step) (i : ℕ) → All (Over t want) above → (want ≡ 0) ⊎ (want ≡ (read t i).view.kind)
    → mem i (numbers above) ≡ false
unfolding numbers
over_not t want above i a h = fails (mem i (numbers above)) (λ m. go above a m)
  where
    go : (ss : List Step) → All (Over t want) ss → mem i (numbers ss) ≡ true → ⊥
    go [] nil m = mem-nil i m
    go (s ∷ ss) (cons x xs) m = which (mem_cases i s.place.child (numbers ss) m) (go ss xs)
      where
        kind : i ≡ s.place.child → (read t i).view.kind ≡ s.page.view.kind
        kind q = ap (λ (j : ℕ). (read t j).view.kind) q ∙ ap (λ (p : Page). p.view.kind) x.here

        clash : i ≡ s.place.child → (want ≡ 0) ⊎ (want ≡ (read t i).view.kind) → ⊥
        clash q (inl z) = omega (arith, x.asks, z)
        clash q (inr z) = omega (arith, x.taller, z, kind q)

        which : (i ≡ s.place.child) ⊎ (mem i (numbers ss) ≡ true) → (mem i (numbers ss) ≡ true → ⊥) → ⊥
        which (inl q) ih = clash q h
        which (inr q) ih = ih q

-- ── One step ────────────────────────────────────────────────────────────────────────────────────────────────────

module _ {n c k : ℕ} {places : List Place} {w : List ℕ} {above : List Step} {t : List ℕ} {e : Place}
    (g : Going n c k places w above t e) where
  abbrev pub r : Entered
  r = enter n c (numbers above) t e

  -- every page but the child stays
  pub turn-others : (i : ℕ) → i ≢ e.child → page_at r.table i ≡ page_at t i
  turn-others i d = go (turn n c (numbers above) t e)
    where
      go : Turn n c (numbers above) t e r → page_at r.table i ≡ page_at t i
      go (stopped q o) = ap (λ (u : List ℕ). page_at u i) q
      go (kept a q) = ap (λ (u : List ℕ). page_at u i) q
      go (built a f m q) =
          ap (λ (u : List ℕ). page_at u i) q
          ∙ page_at-build-other t e.child (mended c e (read t e.previous))
          (has-page t n e.child g.ready.long g.ready.child_below)
          (room-mended n c t e g.ready.bytes g.ready.narrow m) i d

  -- the child is as it was, or mended
  turn-child : Memᴰ e places → mem e.child (numbers above) ≡ false → PageLeft n c places w r.table e.child
  turn-child asked new = go (turn n c (numbers above) t e)
    where
      was : page_at t e.child ≡ page_at w e.child
      was = g.others e.child new

      go : Turn n c (numbers above) t e r → PageLeft n c places w r.table e.child
      go (stopped q o) = as_it_was (ap (λ (u : List ℕ). page_at u e.child) q ∙ was)
      go (kept a q) = as_it_was (ap (λ (u : List ℕ). page_at u e.child) q ∙ was)
      go (built a f m q) =
          let x = mendable_true n e (read t e.previous) m in
          let b = read_same t w e.previous (g.others e.previous (over_not t e.want above e.previous g.over x.kind)) in
          mended_for e asked refl (ap (fits n e) (sym (read_same t w e.child was)) ∙ f) (ap (mendable n e) (sym b) ∙ m)
          (ap (λ (u : List ℕ). page_at u e.child) q
          ∙ (page_at-build-same t e.child (mended c e (read t e.previous))
          (has-page t n e.child g.ready.long g.ready.child_below)
          (room-mended n c t e g.ready.bytes g.ready.narrow m)
          ∙ ap (λ (y : Page). build_bytes (mended c e y)) b))

  -- where the walk ends here, done or damaged
  pub ends-here : Memᴰ e places → (i : ℕ) → PageLeft n c places w r.table i
  ends-here asked i = go (mem i (numbers above)) refl (eqb i e.child) refl
    where
      go : (a : Bool) → mem i (numbers above) ≡ a → (b : Bool) → eqb i e.child ≡ b → PageLeft n c places w r.table i
      go true a true b = stays (turn n c (numbers above) t e)
        where
          q : i ≡ e.child
          q = eqb-true i e.child b

          there : mem e.child (numbers above) ≡ true
          there = ap (λ (j : ℕ). mem j (numbers above)) (sym q) ∙ a

          stays : Turn n c (numbers above) t e r → PageLeft n c places w r.table i
          stays (stopped q o) = left-same (ap (λ (u : List ℕ). page_at u i) q) (g.done i a)
          stays (kept x q) = absurd (not_both there x)
          stays (built x f m q) = absurd (not_both there x)
      go true a false b = left-same (turn-others i (eqb-false i e.child b)) (g.done i a)
      go false a true b =
          let q = eqb-true i e.child b in
          subst (PageLeft n c places w r.table) (sym q) (turn-child asked (ap (λ (j : ℕ). mem j (numbers above)) (sym q) ∙ a))
      go false a false b = as_it_was (turn-others i (eqb-false i e.child b) ∙ g.others i a)

  module _ (p : Page) (h : r.page ≡ some p) (d : Place) (q : pick k (kids e p.view) ≡ some d) where
    stood : Stood n k r.table (record { place = e; page = p })
    stood = stood-here g.ready (numbers above) p h

    inner : is_leaf p.view ≡ false
    inner =
        fails (is_leaf p.view)
        (λ l. none-ne-some d
        (sym (pick-leaf k e p.view (subst (λ (y : Page). Shaped y.view) stood.here (shaped-read r.table e.child)) l) ∙ q))

    lower : (1 ≤ d.want) × (suc d.want ≡ p.view.kind)
    lower = kids-want e stood.fits.sound d inner (kids-pick e stood.fits.sound k d q)

    over-next : (s : Step) → mem s.place.child (numbers above) ≡ true → Over t e.want s → Over r.table d.want s
    over-next s m x = record {
      here = ready-stays g.ready (numbers above) s.place.child m ∙ x.here;
      asks = lower.0;
      taller = go stood.fits.kind;
    }
      where
        go : (e.want ≡ 0) ⊎ (e.want ≡ p.view.kind) → d.want < s.page.view.kind
        go (inl z) = absurd (omega (arith, z, x.asks))
        go (inr z) = omega (arith, z, x.taller, lower.1)

    overs : (ss : List Step) → ((i : ℕ) → mem i (numbers ss) ≡ true → mem i (numbers above) ≡ true) → All (Over t e.want) ss
        → All (Over r.table d.want) ss
    unfolding numbers
    overs [] f nil = nil
    overs (s ∷ ss) f (cons x xs) =
        cons (over-next s (f s.place.child (mem-head s.place.child (numbers ss))) x)
        (overs ss (λ i m. f i (mem_tail i s.place.child (numbers ss) m)) xs)

    pub goes_on : Memᴰ e places → Going n c k places w (record { place = e; page = p } ∷ above) r.table d
    unfolding numbers
    goes_on asked = record {
      ready = ready-next g.ready (numbers above) p h d q;
      over = cons (record { here = stood.here; asks = lower.0; taller = omega (arith, lower.1) }) (overs above (λ i m. m) g.over);
      others = λ i m.
          turn-others i (λ z. not_both (ap (λ (j : ℕ). mem j (e.child ∷ numbers above)) z ∙ mem-head e.child (numbers above)) m)
          ∙ g.others i (fails (mem i (numbers above)) (λ y. not_both (mem_tail i e.child (numbers above) y) m));
      done = λ i m. ends-here asked i;
    }
