-- The table that a walk of one key leaves, page by page.
use Prim.Native.Nat.{ℕ, zero, suc, ◌*◌, ◌^◌, ◌≤◌, ◌<◌}
use mathlib.Core.Path.{◌≡◌, refl, sym, ap, ◌∙◌, subst}
use mathlib.Core.Bool.{Bool, true, false}
use mathlib.Core.List.{List, [], ◌∷◌, Memᴰ}
use mathlib.Core.Option.{Option, some, none, some-injective, none-ne-some}
use lib.ListN.{length}
use Rattle.fields.specs.Field.{Bytes}
use Rattle.rules.specs.Layout.{page_size, top_kind, last_key}
use Rattle.rules.specs.Test.{mem}
use Rattle.rules.specs.Page.{Page}
use Rattle.rules.specs.Table.{page_at, fit0}
use Rattle.rules.specs.Place.{root_place, kids, pick}
use Rattle.rules.specs.Enter.{Entered, enter}
use Rattle.rules.specs.Walk.{Step, Way, numbers, descend, way_of}
use Rattle.rules.specs.declared.Place.{Place}
use Rattle.rules.proofs.Entries.Tests.{not_both, fails, mem-nil, mem-head, mem_tail}
use Rattle.rules.proofs.Bytes.All.{nil}
use Rattle.rules.proofs.Demand1.WalkSteps.{descend-damaged, descend-ends, descend-below}
use Rattle.way.proofs.Stood.{ready-root, ready-long, ready-bytes}
use Rattle.reading.specs.Leaving.{asked_from, asked_for, PageLeft, as_it_was}
use Rattle.reading.proofs.Turns.{Going, turn-others, ends-here, goes_on}

-- ── What is left ────────────────────────────────────────────────────────────────────────────────────────────────

pub record WayLeft (n c : ℕ) (places : List Place) (w : List ℕ) (r : Way) : Type 0 where
  pub long : length r.table ≡ n * page_size
  pub bytes : Bytes r.table
  pub page : (i : ℕ) → PageLeft n c places w r.table i
  -- a page that was not entered
  pub others : (steps : List Step) → r.steps ≡ some steps → (i : ℕ) → mem i (numbers steps) ≡ false → page_at r.table i ≡ page_at w i

-- all of one list stands in another
abbrev Within : List Place → List Place → Type 0
Within xs ys = (d : Place) → Memᴰ d xs → Memᴰ d ys

asked_here : (level n c k : ℕ) (above : List Step) (t : List ℕ) (e : Place) → Memᴰ e (asked_from (suc level) n c k above t e)
unfolding asked_from
asked_here level n c k above t e = Memᴰ.head refl

module _ (level n c k : ℕ) (above : List Step) (t : List ℕ) (e : Place) (p : Page) (h : (enter n c (numbers above) t e).page ≡ some p) where
  asked-below : (d : Place) → pick k (kids e p.view) ≡ some d
      → asked_from (suc level) n c k above t e
      ≡ e ∷ asked_from level n c k (record { place = e; page = p } ∷ above) (enter n c (numbers above) t e).table d
  unfolding asked_from
  asked-below d q = rw (asked_from, h, q)

-- ── From a place down ───────────────────────────────────────────────────────────────────────────────────────────

descend-left : (level n c k : ℕ) (places : List Place) (w : List ℕ) (above : List Step) (t : List ℕ) (e : Place)
    → Going n c k places w above t e → Within (asked_from level n c k above t e) places
    → WayLeft n c places w (descend level n c k above t e)
unfolding descend numbers
descend-left zero n c k places w above t e g a = record {
  long = g.ready.long;
  bytes = g.ready.bytes;
  page = λ i. left i (mem i (numbers above)) refl;
  others = λ steps h. absurd (none-ne-some steps h);
}
  where
    left : (i : ℕ) (b : Bool) → mem i (numbers above) ≡ b → PageLeft n c places w t i
    left i true m = g.done i m
    left i false m = as_it_was (g.others i m)
descend-left (suc level) n c k places w above t e g a =
    found r.page refl (λ ss u d. descend-left level n c k places w ss u d)
  where
    r : Entered
    r = enter n c (numbers above) t e

    asked : Memᴰ e places
    asked = a e (asked_here level n c k above t e)

    Rest : Type 0
    Rest = (ss : List Step) (u : List ℕ) (d : Place) → Going n c k places w ss u d → Within (asked_from level n c k ss u d) places
        → WayLeft n c places w (descend level n c k ss u d)

    -- a page that was entered neither here nor above
    other : (i : ℕ) → mem i (e.child ∷ numbers above) ≡ false → page_at r.table i ≡ page_at w i
    other i m =
        turn-others g i (λ z. not_both (ap (λ (j : ℕ). mem j (e.child ∷ numbers above)) z ∙ mem-head e.child (numbers above)) m)
        ∙ g.others i (fails (mem i (numbers above)) (λ y. not_both (mem_tail i e.child (numbers above) y) m))

    below : (p : Page) → r.page ≡ some p → (o : Option Place) → pick k (kids e p.view) ≡ o → Rest
        → WayLeft n c places w (descend (suc level) n c k above t e)
    below p f none q ih =
        subst (WayLeft n c places w) (sym (descend-ends level n c k above t e p f q))
        (record {
          long = ready-long g.ready (numbers above);
          bytes = ready-bytes g.ready (numbers above);
          page = ends-here g asked;
          others = λ steps h i m.
              other i (ap (λ (ss : List Step). mem i (numbers ss)) (some-injective (record { place = e; page = p } ∷ above) steps h) ∙ m);
        })
    below p f (some d) q ih =
        subst (WayLeft n c places w) (sym (descend-below level n c k above t e p f d q))
        (ih (record { place = e; page = p } ∷ above) r.table d (goes_on g p f d q asked)
        (λ b m. a b (subst (Memᴰ b) (sym (asked-below level n c k above t e p f d q)) (Memᴰ.tail m))))

    found : (o : Option Page) → r.page ≡ o → Rest → WayLeft n c places w (descend (suc level) n c k above t e)
    found none f ih =
        subst (WayLeft n c places w) (sym (descend-damaged level n c k above t e f))
        (record {
          long = ready-long g.ready (numbers above);
          bytes = ready-bytes g.ready (numbers above);
          page = ends-here g asked;
          others = λ steps h. absurd (none-ne-some steps h);
        })
    found (some p) f ih = below p f (pick k (kids e p.view)) refl ih

-- ── The whole way ───────────────────────────────────────────────────────────────────────────────────────────────

pub way-left : (n c k : ℕ) (w : List ℕ) → length w ≡ n * page_size → fit0 n w ≡ true → Bytes w → c < 256 ^ 4 → k ≤ last_key
    → WayLeft n c (asked_for n c k w) w (way_of n c k w)
unfolding way_of asked_for numbers
way-left n c k w l f b m h =
    descend-left top_kind n c k (asked_from top_kind n c k [] w (root_place w)) w [] w (root_place w)
    (record {
      ready = ready-root n c k w l f b m h;
      over = nil;
      others = λ i q. refl;
      done = λ i q. absurd (mem-nil i q);
    })
    (λ d q. q)
