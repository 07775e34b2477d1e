-- The way of the inserted key after all splits: from the root, a new one where the old was split, down to the page that the key
-- goes into.
use Prim.Native.Nat.{ℕ, ◌-◌, ◌*◌, ◌≤◌, ◌<◌}
use native.Mathlib.Omega.{arith}
use mathlib.Core.Path.{◌≡◌, refl, sym, ap, ◌∙◌, subst}
use mathlib.Core.Logic.{◌⊎◌, inl, inr}
use mathlib.Core.Bool.{Bool, true, false}
use mathlib.Core.List.{List, [], ◌∷◌}
use mathlib.Core.Option.{some}
use lib.ListN.{length}
use Rattle.rules.specs.Layout.{page_size, top_kind, zero_kind, last_key}
use Rattle.rules.specs.Test.{mem}
use Rattle.rules.specs.Page.{View, Page, count, fresh}
use Rattle.rules.specs.Table.{read, build, kind0, n0}
use Rattle.rules.specs.Place.{root_place, places_in, kids, pick}
use Rattle.rules.specs.Walk.{Step, numbers}
use Rattle.rules.specs.Insert.{full, new_child, root_over, root_previous, Making, making, grow, halve, split}
use Rattle.rules.specs.declared.Place.{Place}
use Rattle.rules.specs.declared.Session.{Session}
use Rattle.rules.proofs.Entries.Tests.{mem-nil, mem_cases, mem-head, distinct_head, distinct_tail}
use Rattle.rules.proofs.Bytes.All.{nil, cons, all_head, all_tail}
use Rattle.rules.proofs.Entries.Sounds.{Sound}
use Rattle.rules.proofs.Demand3.Steps.SplitWay.{split_one, split-more, split-none}
use Rattle.rules.proofs.Entries.Places.{Fits}
use Rattle.rules.proofs.Demand3.Steps.Plans.{new_pages-full}
use Rattle.rules.proofs.Entries.Picks.{below_of, place_for, pick-here}
use Rattle.rules.proofs.Entries.Halves.{root_over-sound, root_over-shaped, root_over-fits}
use Rattle.rules.proofs.Entries.Twins.{kids-root_over}
use Rattle.rules.proofs.Bytes.Pages.{Wide, wide-fresh}
use Rattle.rules.proofs.Bytes.Widths.{wide-new_child}
use Rattle.rules.proofs.Bytes.Tables.{Has, has-page, wide_read}
use Rattle.rules.proofs.Bytes.PageZero.{Same0, same0_build, length-set_root, kind0-set_root, n0-set_root, root_place-set_root}
use Rattle.rules.proofs.Demand3.Steps.Writes.{room_of}
use Rattle.rules.proofs.Demand3.Steps.Grow.{root_previous-below}
use Rattle.apply.specs.Leads.{Whole, Stands, Leads, Chosen}
use Rattle.apply.proofs.Going.{Gone, mem-rest, chosen-above, leads-first}
use Rattle.apply.proofs.Splits.{stands-below, sites}
use Rattle.apply.proofs.Whole.{short, root-whole, root_stands, root_sites, split-gone}
use Rattle.reading.proofs.Writing.{grow_longer, grow-new}
use Rattle.reading.proofs.Splitting.{pages-root}
use Rattle.reading.proofs.Counts.{want-below}
use Rattle.reading.proofs.Chains.{top_place, Chained, halve_chained}

-- ── A new root ──────────────────────────────────────────────────────────────────────────────────────────────────

module _ {n c k : ℕ} {t : List ℕ} (w : Whole n c t) (s : Step) (st : Stands n k t s) (from : s.place.low ≡ 0) (to : s.place.high ≡ last_key)
    (kind : s.page.view.kind < top_kind) (g : ℕ) (page : 1 ≤ g) (below : g < n) (m : Session)
    (end : length (grow c s g (making t m 0)).table ≤ length t) where
  abbrev over : Page
  over = fresh c c 0 last_key (root_over s)

  has : Has t g
  has = has-page t n g w.long below

  wide_s : Wide s.page
  wide_s = subst Wide st.reads (wide_read t s.place.child w.bytes)

  wide-over : Wide over
  unfolding root_over count new_child
  wide-over =
      wide-fresh
      (record {
        shaped = root_over-shaped s st.fits.sound.kind_from;
        kind = omega (arith, kind);
        count = omega arith;
        certs = nil;
        children = cons
            (wide-new_child {child = s.place.child} {previous = s.place.previous} (omega (arith, wide_s.birth, st.fits.birth))
            (omega (arith, from)) (omega (arith, st.below, w.few)) (omega (arith, st.previous, w.few)))
            nil;
      })
      w.counter w.counter (omega arith) (omega arith)

  reads_over : read (grow c s g (making t m 0)).table g ≡ over
  reads_over = grow-new c (making t m 0) s g has end page wide-over

  previous_in : root_previous c s < n
  previous_in = root_previous-below n c s st.previous st.below

  abbrev place : Place
  place = record { child = g; previous = root_previous c s; birth = c; low = 0; high = last_key; want = 0 }

  root_is : root_place (grow c s g (making t m 0)).table ≡ place
  unfolding grow
  root_is =
      root_place-set_root (build t g over) g (root_previous c s) c
      (omega (arith, grow_longer c (making t m 0) s g has, length-set_root (build t g over) g (root_previous c s) c, w.long, below))
      (omega (arith, below, w.few)) (omega (arith, previous_in, w.few)) w.counter

  over-sound : Sound n 0 last_key (root_over s)
  over-sound = root_over-sound n s kind from st.page st.below st.previous

  over-stands : k ≤ last_key → Stands n k (grow c s g (making t m 0)).table (record { place = place; page = over })
  over-stands b = record {
    page = page;
    below = below;
    previous = previous_in;
    reads = reads_over;
    fits = root_over-fits n c s place refl refl refl refl over-sound;
    low = omega arith;
    high = b;
  }

  zero_same : Same0 (build t g over) t
  unfolding fresh
  zero_same = same0_build t g has page over (room_of wide-over over-sound)

  grow_chained : k ≤ last_key → kind0 t ≡ zero_kind → n0 t ≡ n → (ns : List ℕ) → Chained n k (grow c s g (making t m 0)).table g [] (g ∷ ns)
  unfolding numbers grow
  grow_chained b z y ns = record {
    first = record { place = place; page = over };
    rest = [];
    leads = (over-stands b, refl, refl);
    root = root_is;
    child = refl;
    only = λ j h. inr (go j (mem_cases j g [] h));
    zero_kind_lem = kind0-set_root (build t g over) g (root_previous c s) c ∙ (zero_same.kind ∙ z);
    zero_pages = n0-set_root (build t g over) g (root_previous c s) c ∙ (zero_same.n ∙ y);
  }
    where
      go : (j : ℕ) → (j ≡ g) ⊎ (mem j [] ≡ true) → mem j (g ∷ ns) ≡ true
      go j (inl q) = ap (λ (i : ℕ). mem i (g ∷ ns)) q ∙ mem-head g ns
      go j (inr q) = absurd (mem-nil j q)

  -- the old root, as the new one asks for it
  abbrev asked : Place
  asked = place_for s.page.view.kind s.place.low last_key (below_of s.place)

  goes_down : pick k (kids place (root_over s)) ≡ some asked
  goes_down = ap (pick k) (kids-root_over place s) ∙ pick-here k asked [] st.low (omega (arith, st.high, to))

full-over : (s : Step) → full (root_over s) ≡ false
unfolding full root_over
full-over s = refl

-- ── Where a page leads is told by its high end ──────────────────────────────────────────────────────────────────

kids-high : (d e : Place) (v : View) → d.high ≡ e.high → kids d v ≡ kids e v
unfolding kids
kids-high d e v h = ap (λ (i : ℕ). places_in (v.kind - 1) i v.children) h

want_is : {n : ℕ} (s : Step) → Fits n s.place s.page → 1 ≤ s.place.want → s.place.want ≡ s.page.view.kind
want_is s f h = go f.kind
  where
    go : (s.place.want ≡ 0) ⊎ (s.place.want ≡ s.page.view.kind) → s.place.want ≡ s.page.view.kind
    go (inl z) = absurd (omega (arith, z, h))
    go (inr z) = z

-- ── The whole way ───────────────────────────────────────────────────────────────────────────────────────────────

module _ {n c k : ℕ} {t : List ℕ} (m : Session) (w : Whole n c t) (bound : k ≤ last_key) (zero_kind_lem : kind0 t ≡ zero_kind) (zero_pages : n0 t ≡ n) where
  abbrev Goal : List ℕ → List ℕ → Making → Type 0
  Goal entered new M = Chained n k M.table M.at entered new

  stay_chained : (s : Step) (above : List Step) (ns : List ℕ) → full s.page.view ≡ false → Leads n k t (s ∷ above)
      → root_place t ≡ top_place s above → Goal (numbers (s ∷ above)) ns (split c k (s ∷ above) ns (making t m 0))
  stay_chained s above ns f l r =
      subst (Goal (numbers (s ∷ above)) ns) (sym (split-none c k s above ns (making t m 0) f))
      (record {
        first = s;
        rest = above;
        leads = l;
        root = r;
        child = refl;
        only = λ j h. inl h;
        zero_kind_lem = zero_kind_lem;
        zero_pages = zero_pages;
      })

  none_in : (i : ℕ) → mem i [] ≡ false
  unfolding mem
  none_in i = refl

  root_chained : (s : Step) (a b g : ℕ) (ns : List ℕ) → full s.page.view ≡ true → Leads n k t (s ∷ [])
      → Chosen n (s ∷ []) (a ∷ (b ∷ (g ∷ ns))) → Goal (numbers (s ∷ [])) (a ∷ (b ∷ (g ∷ ns))) (split c k (s ∷ []) (a ∷ (b ∷ (g ∷ ns))) (making t m 0))
  unfolding numbers grow grow_chained fresh
  root_chained s a b g ns f l x =
      subst (Goal (s.place.child ∷ []) (a ∷ (b ∷ (g ∷ ns)))) (sym q)
      (halve_chained M s (asked w s l.0 l.1 l.2 kind g page below m up) (root-whole s a b g ns m w l f x) (root_stands s a b g ns m w l f x) f
      (root_sites s a b g ns m w l f x)
      (grow_chained w s l.0 l.1 l.2 kind g page below m up bound zero_kind_lem zero_pages ns)
      (goes_down w s l.0 l.1 l.2 kind g page below m up)
      (sym l.0.fits.low) (sym (l.0.fits.high ∙ l.2)) refl
      (ap (λ (p : Page). full p.view) (reads_over w s l.0 l.1 l.2 kind g page below m up) ∙ full-over s) end
      (none_in a) (mem-rest a b (g ∷ ns) (distinct_head a (b ∷ (g ∷ ns)) x.apart))
      (none_in b) (distinct_head b (g ∷ ns) (distinct_tail a (b ∷ (g ∷ ns)) x.apart)))
    where
      M : Making
      M = grow c s g (making t m 0)

      q : split c k (s ∷ []) (a ∷ (b ∷ (g ∷ ns))) (making t m 0) ≡ halve c k s a b M
      q = split_one c k s (a ∷ (b ∷ (g ∷ ns))) (making t m 0) f

      kind : s.page.view.kind < top_kind
      kind = short s a b g ns m w l f x

      page : 1 ≤ g
      page = (all_head (all_tail (all_tail x.fresh))).page

      below : g < n
      below = (all_head (all_tail (all_tail x.fresh))).below

      end : length (halve c k s a b M).table ≡ n * page_size
      end =
          ap (λ (y : Making). length y.table) (sym q)
          ∙ (split-gone m w s [] (a ∷ (b ∷ (g ∷ ns))) (omega arith) l x).whole.long

      up : length (grow c s g (making t m 0)).table ≤ length t
      up = omega (arith, (root-whole s a b g ns m w l f x).long, w.long)

  below_chained : (s u : Step) (above : List Step) (a b : ℕ) (ns : List ℕ) → length (s ∷ (u ∷ above)) ≤ 3 → full s.page.view ≡ true
      → Leads n k t (s ∷ (u ∷ above)) → Chosen n (s ∷ (u ∷ above)) (a ∷ (b ∷ ns))
      → Goal (numbers (u ∷ above)) ns (split c k (u ∷ above) ns (making t m 0))
      → Goal (numbers (s ∷ (u ∷ above))) (a ∷ (b ∷ ns)) (split c k (s ∷ (u ∷ above)) (a ∷ (b ∷ ns)) (making t m 0))
  unfolding numbers
  below_chained s u above a b ns few f l x C =
      subst (Goal (s.place.child ∷ numbers (u ∷ above)) (a ∷ (b ∷ ns))) (sym q)
      (halve_chained M s s.place G.whole (stands-below s u above a b ns M l f x G) f (sites s u above a b ns M l f x G) C picks
      (sym l.0.fits.low) (sym l.0.fits.high)
      (want_is s l.0.fits (want-below u (leads-first u above l.3) s.place l.2).0)
      G.onward.roomy end
      (mem-rest a s.place.child (numbers (u ∷ above)) (all_head x.fresh).apart) (mem-rest a b ns (distinct_head a (b ∷ ns) x.apart))
      (mem-rest b s.place.child (numbers (u ∷ above)) (all_head (all_tail x.fresh)).apart)
      (distinct_head b ns (distinct_tail a (b ∷ ns) x.apart)))
    where
      M : Making
      M = split c k (u ∷ above) ns (making t m 0)

      q : split c k (s ∷ (u ∷ above)) (a ∷ (b ∷ ns)) (making t m 0) ≡ halve c k s a b M
      q = split-more c k s u above (a ∷ (b ∷ ns)) (making t m 0) f

      G : Gone n c k t u above ns M
      G = split-gone m w u above ns (omega arith) l.3 (chosen-above s u above a b ns few f x)

      F : Stands n k M.table C.first
      F = leads-first C.first C.rest C.leads

      same : read M.table M.at ≡ C.first.page
      same = ap (read M.table) (sym C.child) ∙ F.reads

      highs : C.first.place.high ≡ G.onward.place.high
      highs = sym F.fits.high ∙ (sym (ap (λ (p : Page). p.high) same) ∙ G.onward.fits.high)

      picks : pick k (kids C.first.place C.first.page.view) ≡ some s.place
      picks =
          ap (λ (p : Page). pick k (kids C.first.place p.view)) (sym same)
          ∙ (ap (pick k) (kids-high C.first.place G.onward.place (read M.table M.at).view highs)
          ∙ (G.onward.leads ∙ l.2))

      end : length (halve c k s a b M).table ≡ n * page_size
      end =
          ap (λ (y : Making). length y.table) (sym q)
          ∙ (split-gone m w s (u ∷ above) (a ∷ (b ∷ ns)) few l x).whole.long

  pub split_chained : (s : Step) (above : List Step) (new : List ℕ) → length (s ∷ above) ≤ 3 → Leads n k t (s ∷ above)
      → root_place t ≡ top_place s above → Chosen n (s ∷ above) new
      → Goal (numbers (s ∷ above)) new (split c k (s ∷ above) new (making t m 0))
  split_chained s [] new few l r x = go new x (full s.page.view) refl
    where
      go : (ns : List ℕ) → Chosen n (s ∷ []) ns → (b : Bool) → full s.page.view ≡ b
          → Goal (numbers (s ∷ [])) ns (split c k (s ∷ []) ns (making t m 0))
      go ns x false f = stay_chained s [] ns f l r
      go [] x true f = absurd (omega (arith, x.enough, pages-root s f))
      go (a ∷ []) x true f = absurd (omega (arith, x.enough, pages-root s f))
      go (a ∷ (b ∷ [])) x true f = absurd (omega (arith, x.enough, pages-root s f))
      go (a ∷ (b ∷ (g ∷ ns))) x true f = root_chained s a b g ns f l x
  split_chained s (u ∷ above) new few l r x =
      go new x (full s.page.view) refl (λ ns. split_chained u above ns (omega arith) l.3 r)
    where
      go : (ns : List ℕ) → Chosen n (s ∷ (u ∷ above)) ns → (b : Bool) → full s.page.view ≡ b
          → ((is : List ℕ) → Chosen n (u ∷ above) is → Goal (numbers (u ∷ above)) is (split c k (u ∷ above) is (making t m 0)))
          → Goal (numbers (s ∷ (u ∷ above))) ns (split c k (s ∷ (u ∷ above)) ns (making t m 0))
      go ns x false f ih = stay_chained s (u ∷ above) ns f l r
      go [] x true f ih = absurd (omega (arith, x.enough, new_pages-full s (u ∷ above) f))
      go (a ∷ []) x true f ih = absurd (omega (arith, x.enough, new_pages-full s (u ∷ above) f))
      go (a ∷ (b ∷ ns)) x true f ih = below_chained s u above a b ns few f l x (ih ns (chosen-above s u above a b ns few f x))
