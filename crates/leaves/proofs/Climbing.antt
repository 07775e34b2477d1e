-- A step as the loop goes through it: what is left to do, and to report, is the rules' descent from the place at hand,
-- below the pages that the cursor has. Assumes nothing.
use Prim.Native.Nat.{ℕ, ◌+◌, ◌-◌, ◌≤◌, ◌<◌}
use native.Mathlib.Omega.{arith}
use mathlib.Core.Path.{◌≡◌, refl, sym, ap, ◌∙◌, subst}
use mathlib.Core.Bool.{true}
use mathlib.Core.List.{List, [], ◌∷◌}
use mathlib.Core.Option.{some, some-injective}
use lib.ListN.{length}
use borrow.Author.Tests.{ne_eqb}
use Rattle.std.specs.Prelude.{Result, Ok, Err}
use Rattle.rules.specs.Layout.{top_kind, leaf_kind, leaf_header, cert_size, leaf_room, last_key}
use Rattle.rules.specs.Entry.{keys, rising}
use Rattle.rules.specs.Page.{Page, page_in, count}
use Rattle.rules.specs.Table.{page_at, read}
use Rattle.rules.specs.Place.{root_place, kids, pick, Why}
use Rattle.rules.specs.Enter as entry
use Rattle.rules.specs.Report.{Reported, adds, reason_at}
use Rattle.rules.specs.Walk as rules
use Rattle.rules.specs.declared.Place.{Place}
use Rattle.rules.specs.declared.Report.{Report}
use Rattle.rules.proofs.Entries.Places.{fits_true}
use Rattle.head.specs.declared.Head.{Head}
use Rattle.head.proofs.Headers.{head_of}
use Rattle.entries.specs.Spot.{keys_in, spot_of}
use Rattle.entries.proofs.KeysIn.{keys-certs}
use Rattle.enter.specs.Entering as enters
use Rattle.enter.specs.declared.Above.{Above}
use Rattle.way.specs.Ways.{places_below, Leads, Holds, way_for, above_in}
use Rattle.way.proofs.Inner.{places-kids}
use Rattle.way.proofs.Leaf.{certs-are, holds-room, holds-keys}
use Rattle.way.proofs.Stood.{Ready, ready-next}
use Rattle.way.proofs.Descent as way
use Rattle.way.proofs.Ending.{Seeking}
use Rattle.climbs.specs.Ground.{Ground}
use Rattle.climbs.proofs.Ground.{root-ready}
use Rattle.leaves.specs.Kept.{KeptSteps, holding, way_reported, descend_reported, resume}
use Rattle.leaves.specs.Cursors.{no_cursor, cursor_of, holding_in, levels_in, place_in, Lies, LeadsOn, Kept, nexting, next_or, next_of}
use Rattle.leaves.specs.declared.Leaf.{Leaf}
use Rattle.leaves.proofs.Resume.{enter-kept, resumed}
use Rattle.leaves.proofs.Begins.{First, held, named, lies-kept, held_cursor, ready-kept, leads_on}

-- ── Where it begins ─────────────────────────────────────────────────────────────────────────────────────────────

pub begins-lies : {n c : ℕ} {t : List ℕ} → Ground n c t → (x : Above) → Kept n t x → Lies t x
begins-lies {t = t} A x K = subst (Lies t) (sym K.are) (lies-kept A K.steps K.kept)

module _ {n c k : ℕ} {t : List ℕ} (A : Ground n c t) (B : k ≤ last_key) where
  -- from page 0
  begins-root : (report : Report) (e : Place) (level : ℕ) → place_in k t no_cursor ≡ some e → level ≡ levels_in no_cursor
      → Seeking n c k t t no_cursor e level report report
  unfolding place_in levels_in rules.way_of rules.way_report
  begins-root report e level p l =
      let q = some-injective (root_place t) e p in
      subst (λ (i : ℕ). Seeking n c k t t no_cursor e i report report) (sym l) record {
        whole = way_for [];
        descent = record {
          above = [];
          way = refl;
          rest = ap (rules.descend 3 n c k [] t) q;
          reports = ap (λ (d : Place). rules.descend_report 3 n c k [] t d report) q;
          deep = refl;
          ready = subst (Ready n c k t) q (root-ready A k B);
        };
        above = refl;
      }

  module _ (s : rules.Step) (above : List rules.Step) (x : KeptSteps n t (s ∷ above)) (f : First k (s ∷ above)) (e : Place)
      (p : place_in k t (cursor_of (s ∷ above)) ≡ some e) where
    led : pick k (kids s.place s.page.view) ≡ some e
    unfolding place_in head_of
    led =
        let h = (fits_true n s.place s.page x.0.fit).high in
        sym (ap (λ (p : Page). pick k (places_below (head_of p) p.view)) x.0.here
        ∙ ap (pick k) (places-kids s.place (head_of s.page) s.page.view h))
        ∙ rw (ne_eqb s.place.child 0 (named A s above x), place_in) at p

    ready_led : Ready n c k t e
    ready_led =
        let y = enter-kept n c t s above x.0 in
        let z = ready-next (ready-kept A B s above x f.0 f.1) (rules.numbers above) s.page (ap (λ (w : entry.Entered). w.page) y) e led in
        subst (λ (w : entry.Entered). Ready n c k w.table e) y z

    -- below a kept page
    begins-below : (report : Report) → way_reported n c k t report ≡ resume n c k t report (s ∷ above) → (level : ℕ) → level + length (s ∷ above) ≡ 3
        → Seeking n c k t t (cursor_of (s ∷ above)) e level report report
    unfolding resume
    begins-below report h level l =
        let i : top_kind - length (s ∷ above) ≡ level = omega (arith, l) in
        let g = (rw (led, resume) at h) ∙ ap (λ (j : ℕ). descend_reported j n c k (s ∷ above) t e report) i in
        record {
          whole = way_for (s ∷ above);
          descent = record {
            above = s ∷ above;
            way = refl;
            rest = ap (λ (w : Reported rules.Way). w.left) g;
            reports = ap (λ (w : Reported rules.Way). w.report) g;
            deep = l;
            ready = ready_led;
          };
          above = refl;
        }

  levels-first : (s : rules.Step) (above : List rules.Step) → KeptSteps n t (s ∷ above) → length (s ∷ above) ≤ 2
      → levels_in (cursor_of (s ∷ above)) + length (s ∷ above) ≡ 3
  unfolding levels_in
  levels-first s [] x l = rw (ne_eqb s.place.child 0 (named A s [] x), levels_in)
  levels-first s (u ∷ []) x l =
      rw (ne_eqb s.place.child 0 (named A s (u ∷ []) x), levels_in, ne_eqb u.place.child 0 (named A u [] x.1))
  levels-first s (u ∷ (v ∷ above)) x l = absurd (omega arith)

  begins-kept : (report : Report) (hs : List rules.Step) → KeptSteps n t hs → First k hs → length hs ≤ 2 → way_reported n c k t report ≡ resume n c k t report hs
      → (e : Place) (level : ℕ) → place_in k t (cursor_of hs) ≡ some e → level ≡ levels_in (cursor_of hs)
      → Seeking n c k t t (cursor_of hs) e level report report
  begins-kept report [] x f l h e level p q = begins-root report e level p q
  begins-kept report (s ∷ above) x f l h e level p q =
      begins-below s above x f e p report h level (ap (λ (i : ℕ). i + length (s ∷ above)) q ∙ levels-first s above x l)

  module _ (x : Above) (K : Kept n t x) (y : Above) (g : y ≡ holding_in k t x) where
    held-is : y ≡ cursor_of (holding k K.steps)
    held-is = g ∙ (ap (holding_in k t) K.are ∙ held_cursor A k K.steps K.kept K.short B)

    pub held-lies : Lies t y
    held-lies = subst (Lies t) (sym held-is) (lies-kept A (holding k K.steps) (held n k t K.steps K.kept).kept)

    pub held-leads : LeadsOn k t y
    held-leads =
        let h = held n k t K.steps K.kept in
        subst (LeadsOn k t) (sym held-is) (leads_on A B (holding k K.steps) h.kept h.first)

    pub begins : (report : Report) (e : Place) (level : ℕ) → place_in k t y ≡ some e → level ≡ levels_in y → Seeking n c k t t y e level report report
    begins report e level p q =
        let h = held n k t K.steps K.kept in
        let s = K.short in
        let l = h.short in
        subst (λ (z : Above). Seeking n c k t t z e level report report) (sym held-is)
        (begins-kept report (holding k K.steps) h.kept h.first (omega arith) (resumed n c k t report K.steps K.kept (omega arith)) e level (ap (place_in k t) (sym held-is) ∙ p) (q ∙ ap levels_in held-is))

-- ── One turn of the loop ────────────────────────────────────────────────────────────────────────────────────────

-- what the code hands back is what the rules do
abbrev Handed : ℕ → ℕ → ℕ → ℕ → List ℕ → Report → List ℕ → Result Leaf Report → Type 0
Handed upto n c k t₀ y₀ u r = nexting u r ≡ next_of k upto (rules.way_of n c k t₀) (rules.way_report n c k t₀ y₀)

module _ {n c k : ℕ} {t₀ t : List ℕ} {x : Above} {e : Place} {level : ℕ} {y₀ y : Report} (m : Seeking n c k t₀ t x e level y₀ y) where
  pub runs_out : (upto : ℕ) → level ≡ 0 → Handed upto n c k t₀ y₀ t (Err y)
  unfolding next_of next_or
  runs_out upto z = rw (way.out-way m.descent z, way.out-report m.descent z)

  module _ (o : 0 < level) where
    pub damaged : (upto : ℕ) (u : List ℕ)
        → enters.entering u enters.damaged ≡ enters.told (reason_at n t e) (entry.enter n c (enters.above_of x) t e)
        → Handed upto n c k t₀ y₀ u (Err y)
    unfolding next_of next_or
    damaged upto u h =
        rw (way.damaged-way m.descent o x m.above u h, way.damaged-report m.descent o x m.above u h)

    module _ (u : List ℕ) (h : Head) (why : Why)
        (f : enters.entering u (enters.found h why) ≡ enters.told (reason_at n t e) (entry.enter n c (enters.above_of x) t e)) where
      head-here : h ≡ head_of (read u e.child)
      head-here = way.head-here m.descent o x m.above u h why f

      -- a leaf, with its keys
      module _ (q : h.kind ≡ leaf_kind) where
        holds : Holds (read u e.child).view
        holds = way.holds m.descent o x m.above u h why f q

        pub leaf_room_lem : h.count ≤ leaf_room
        unfolding read page_in
        leaf_room_lem = holds-room (page_at u e.child) h head-here holds

        pub leaf-rise : rising (keys_in leaf_header cert_size h.count (page_at u e.child)) ≡ true
        unfolding read page_in
        leaf-rise = holds-keys (page_at u e.child) h head-here holds

        leaf-keys : keys (read u e.child).view.certs ≡ keys_in leaf_header cert_size h.count (page_at u e.child)
        unfolding read page_in
        leaf-keys = ap keys (certs-are (page_at u e.child) h head-here holds) ∙ keys-certs h.count (page_at u e.child)

        leaf-count : h.count ≡ count (read u e.child).view
        unfolding head_of
        leaf-count = ap (λ (y : Head). y.count) head-here

        behind-is : x ≡ cursor_of m.descent.above
        behind-is = m.above ∙ ap above_in m.descent.way

        pub ends : (z : Report) → z ≡ adds why y → (upto i : ℕ) → i ≡ spot_of upto (keys_in leaf_header cert_size h.count (page_at u e.child))
            → Handed upto n c k t₀ y₀ u (Ok (record { child = e.child; count = h.count; from = k; high = e.high; spot = i; behind = x; report = z }))
        unfolding next_of next_or
        ends z v upto i r =
            let w = way.leaf-way m.descent o x m.above u h why f q in
            let g = way.leaf-report m.descent o x m.above u h why f q in
            let s = r ∙ ap (spot_of upto) (sym leaf-keys) in
            rw (behind-is, s, leaf-count, way.more m.descent o x m.above u h why f z v, w, g)

      module _ (q : h.kind ≡ leaf_kind → ⊥) where
        pub leads : Leads k h (read u e.child).view
        leads = way.leads m.descent o x m.above u h why f q
