-- The descent as the loop goes through it: what is left to do is the rules' descent from the place at hand.
-- Assumes nothing.
use mathlib.Core.Path.{◌≡◌, refl, sym, ap, ◌∙◌, subst}
use mathlib.Core.Bool.{true, false}
use mathlib.Core.List.{List, [], ◌∷◌}
use mathlib.Core.Option.{some, none}
use Rattle.std.specs.Prelude.{Option, Some, None}
use Prim.Native.Nat.{ℕ, suc, ◌+◌, ◌-◌, ◌*◌, ◌^◌, ◌≤◌, ◌<◌}
use native.Mathlib.Omega.{arith}
use lib.ListN.{length}
use borrow.Author.Tests.{ne_eqb}
use Rattle.fields.specs.Field.{Bytes}
use Rattle.rules.specs.Layout.{page_size, leaf_kind, last_key}
use Rattle.rules.specs.Test.{mem}
use Rattle.rules.specs.Page.{Page, is_leaf}
use Rattle.rules.specs.Sound.{starts_at}
use Rattle.rules.specs.Table.{read, fit0}
use Rattle.rules.specs.Place.{root_place, kids, pick, Why}
use Rattle.rules.specs.Enter as entry
use Rattle.rules.specs.Report.{adds, reason_at}
use Rattle.rules.specs.Walk as rules
use Rattle.rules.specs.declared.Place.{Place}
use Rattle.rules.specs.declared.Report.{Report}
use Rattle.rules.proofs.Entries.Views.{Shaped, leaf_of-kind, inner-of-kind, shaped-read}
use Rattle.rules.proofs.Entries.Asks.{pick-leaf}
use Rattle.head.specs.declared.Head.{Head}
use Rattle.head.proofs.Headers.{head_of}
use Rattle.rules.proofs.Demand1.WalkSteps.{descend-damaged, descend-ends, descend-below, report-damaged, report-ends, report-below}
use Rattle.enter.specs.Entering as enters
use Rattle.enter.specs.declared.Above.{Above}
use Rattle.enter.proofs.Told.{enter-same, told-table, told-page, told-damaged}
use Rattle.way.specs.Ways.{places_below, Leads, Holds, way_for, above_in, walking, way_or, told, reported, went}
use Rattle.way.specs.declared.Step.{Step}
use Rattle.way.proofs.Inner.{places-kids}
use Rattle.way.proofs.Stood.{Ready, ready-root, ready-next, Stood, stood-here}

-- ── The numbers above, as the code keeps them ───────────────────────────────────────────────────────────────────

numbers-above : (ss : List rules.Step) (i : ℕ) → length ss ≤ 2 → 1 ≤ i
    → mem i (enters.above_of (above_in (way_for ss))) ≡ mem i (rules.numbers ss)
unfolding mem rules.numbers
numbers-above [] i h o = rw (ne_eqb i 0 (λ q. omega arith))
numbers-above (s ∷ []) i h o = rw (ne_eqb i 0 (λ q. omega arith))
numbers-above (s ∷ (u ∷ [])) i h o = refl
numbers-above (s ∷ (u ∷ (v ∷ ss))) i h o = absurd (omega arith)

-- ── Where the loop stands ───────────────────────────────────────────────────────────────────────────────────────

pub record Descent (n c k : ℕ) (t₀ t : List ℕ) (w : List Step) (e : Place) (level : ℕ) (x₀ x : Report) : Type 0 where
  pub above : List rules.Step
  pub way : w ≡ way_for above
  pub rest : rules.way_of n c k t₀ ≡ rules.descend level n c k above t e
  pub reports : rules.way_report n c k t₀ x₀ ≡ rules.descend_report level n c k above t e x
  pub deep : level + length above ≡ 3
  pub ready : Ready n c k t e

pub length-way : (ss : List rules.Step) → length (way_for ss) ≡ length ss
length-way [] = refl
length-way (s ∷ ss) = ap suc (length-way ss)

pub way-long : {n c k : ℕ} {t₀ t : List ℕ} {w : List Step} {e : Place} {level : ℕ} {x₀ x : Report}
    → Descent n c k t₀ t w e level x₀ x → level + length w ≡ 3
way-long d = omega (arith, d.deep, ap length d.way, length-way d.above)

-- what the code hands back with a report is what the rules do
abbrev pub Handed : ℕ → ℕ → ℕ → List ℕ → Report → List ℕ → Option (List Step) → Report → Type 0
Handed n c k t₀ x₀ u w x = went u (record { way = w; report = x }) ≡ reported (told (rules.way_of n c k t₀)) (rules.way_report n c k t₀ x₀)

both : {A : Type 0} {a b : A} {x y : Report} → a ≡ b → x ≡ y → reported a x ≡ reported b y
both p q = cc

-- at the root
pub begins : (n c k : ℕ) (t : List ℕ) (e : Place) (w : List Step) (x₀ x : Report) → length t ≡ n * page_size → fit0 n t ≡ true → Bytes t
    → e ≡ root_place t → w ≡ way_for [] → x ≡ x₀ → c < 256 ^ 4 → k ≤ last_key → Descent n c k t t w e 3 x₀ x
unfolding rules.way_of rules.way_report
begins n c k t e w x₀ x l f b g v y m h = record {
  above = [];
  way = v;
  rest = ap (rules.descend 3 n c k [] t) (sym g);
  reports = ap (λ (d : Place). rules.descend_report 3 n c k [] t d x₀) (sym g) ∙ ap (rules.descend_report 3 n c k [] t e) (sym y);
  deep = refl;
  ready = subst (Ready n c k t) (sym g) (ready-root n c k t l f b m h);
}

-- below the last level, where nothing can stand
module _ {n c k : ℕ} {t₀ t : List ℕ} {w : List Step} {e : Place} {level : ℕ} {x₀ x : Report} (d : Descent n c k t₀ t w e level x₀ x) (z : level ≡ 0) where
  pub out-way : rules.way_of n c k t₀ ≡ rules.no_way t
  unfolding rules.descend
  out-way = d.rest ∙ ap (λ (l : ℕ). rules.descend l n c k d.above t e) z

  pub out-report : rules.way_report n c k t₀ x₀ ≡ x
  unfolding rules.descend_report
  out-report = d.reports ∙ ap (λ (l : ℕ). rules.descend_report l n c k d.above t e x) z

  runs_out : walking t None ≡ told (rules.way_of n c k t₀)
  unfolding told way_or
  runs_out = sym (ap told out-way)

  pub runs_out-reported : Handed n c k t₀ x₀ t None x
  runs_out-reported = both runs_out (sym out-report)

-- ── One turn of the loop ────────────────────────────────────────────────────────────────────────────────────────

module _ {n c k : ℕ} {t₀ t : List ℕ} {w : List Step} {e : Place} {level : ℕ} {x₀ x : Report} (d : Descent n c k t₀ t w e level x₀ x) (o : 0 < level) (a : Above) (g : a ≡ above_in w) where
  -- what the code enters by is what the rules enter by
  as_rules : entry.enter n c (enters.above_of a) t e ≡ entry.enter n c (rules.numbers d.above) t e
  as_rules =
      ap (λ (b : Above). entry.enter n c (enters.above_of b) t e) (g ∙ ap above_in d.way)
      ∙ enter-same n c (enters.above_of (above_in (way_for d.above))) (rules.numbers d.above) t e
      (numbers-above d.above e.child (omega (arith, d.deep)) d.ready.child_from)

  report-level : rules.descend_report level n c k d.above t e x ≡ rules.descend_report (suc (level - 1)) n c k d.above t e x
  report-level = let q : level ≡ suc (level - 1) = omega arith in ap (λ (l : ℕ). rules.descend_report l n c k d.above t e x) q

  one-level : rules.descend level n c k d.above t e ≡ rules.descend (suc (level - 1)) n c k d.above t e
  one-level = let q : level ≡ suc (level - 1) = omega arith in ap (λ (l : ℕ). rules.descend l n c k d.above t e) q

  module _ (u : List ℕ) (h : enters.entering u enters.damaged ≡ enters.told (reason_at n t e) (entry.enter n c (enters.above_of a) t e)) where
    pub damaged-way : rules.way_of n c k t₀ ≡ rules.no_way u
    damaged-way =
        let y = entry.enter n c (rules.numbers d.above) t e in
        let i = h ∙ ap (enters.told (reason_at n t e)) as_rules in
        d.rest
        ∙ (one-level ∙ (descend-damaged (level - 1) n c k d.above t e (told-damaged (reason_at n t e) y i) ∙ ap rules.no_way (sym (told-table (reason_at n t e) y i))))

    damaged : walking u None ≡ told (rules.way_of n c k t₀)
    unfolding told way_or
    damaged = sym (ap told damaged-way)

    pub damaged-report : rules.way_report n c k t₀ x₀ ≡ x
    damaged-report =
        d.reports
        ∙ (report-level
        ∙ report-damaged (level - 1) n c k d.above t e x
        (told-damaged (reason_at n t e) (entry.enter n c (rules.numbers d.above) t e) (h ∙ ap (enters.told (reason_at n t e)) as_rules)))

    pub damaged-reported : Handed n c k t₀ x₀ u None x
    damaged-reported = both damaged (sym damaged-report)

  module _ (u : List ℕ) (h : Head) (why : Why) (f : enters.entering u (enters.found h why) ≡ enters.told (reason_at n t e) (entry.enter n c (enters.above_of a) t e)) where
    page : (p : Page) × ((entry.enter n c (rules.numbers d.above) t e).page ≡ some p) × (h ≡ head_of p) × (why ≡ reason_at n t e)
    page = told-page (reason_at n t e) h why (entry.enter n c (rules.numbers d.above) t e) (f ∙ ap (enters.told (reason_at n t e)) as_rules)

    table : u ≡ (entry.enter n c (rules.numbers d.above) t e).table
    table = told-table (reason_at n t e) (entry.enter n c (rules.numbers d.above) t e) (f ∙ ap (enters.told (reason_at n t e)) as_rules)

    stood : Stood n k (entry.enter n c (rules.numbers d.above) t e).table (record { place = e; page = page.0 })
    stood = stood-here d.ready (rules.numbers d.above) page.0 page.1

    -- the page found, read in the table left
    here : read u e.child ≡ page.0
    here = ap (λ (x : List ℕ). read x e.child) table ∙ stood.here

    pub head-here : h ≡ head_of (read u e.child)
    head-here = page.2 ∙ ap head_of (sym here)

    kind-here : h.kind ≡ page.0.view.kind
    unfolding head_of
    kind-here = ap (λ (x : Head). x.kind) page.2

    then-here : record { place = e; head = h } ∷ w ≡ way_for (record { place = e; page = read u e.child } ∷ d.above)
    then-here = rw (d.way, head-here)

    -- what is reported with this page
    pub more : (y : Report) → y ≡ adds why x → y ≡ adds (reason_at n t e) x
    more y g = g ∙ ap (λ (r : Why). adds r x) page.3

    -- a leaf ends the way
    no_kid : h.kind ≡ leaf_kind → pick k (kids e page.0.view) ≡ none
    no_kid q =
        let v = page.0.view in
        pick-leaf k e v (subst (λ (z : Page). Shaped z.view) here (shaped-read u e.child)) (leaf_of-kind v (sym kind-here ∙ q))

    pub leaf-way : h.kind ≡ leaf_kind
        → rules.way_of n c k t₀ ≡ record { table = u; steps = some (record { place = e; page = read u e.child } ∷ d.above) }
    leaf-way q =
        d.rest
        ∙ (one-level
        ∙ (descend-ends (level - 1) n c k d.above t e page.0 page.1 (no_kid q)
        ∙ (ap (λ (x : List ℕ). record { table = x; steps = some (record { place = e; page = page.0 } ∷ d.above) }) (sym table)
        ∙ ap (λ (x : Page). record { table = u; steps = some (record { place = e; page = x } ∷ d.above) }) (sym here))))

    ends : h.kind ≡ leaf_kind → walking u (Some (record { place = e; head = h } ∷ w)) ≡ told (rules.way_of n c k t₀)
    unfolding told way_or
    ends q = ap (λ (v : List Step). walking u (Some v)) then-here ∙ sym (ap told (leaf-way q))

    pub leaf-report : h.kind ≡ leaf_kind → rules.way_report n c k t₀ x₀ ≡ adds (reason_at n t e) x
    leaf-report q = d.reports ∙ (report-level ∙ report-ends (level - 1) n c k d.above t e page.0 page.1 x (no_kid q))

    pub ends-reported : h.kind ≡ leaf_kind → (y : Report) → y ≡ adds why x → Handed n c k t₀ x₀ u (Some (record { place = e; head = h } ∷ w)) y
    ends-reported q y g = both (ends q) (more y g ∙ sym (leaf-report q))

    pub holds : h.kind ≡ leaf_kind → Holds (read u e.child).view
    holds q =
        let s = stood.fits.sound in
        let l : Holds page.0.view = record {
          leaf = leaf_of-kind page.0.view (sym kind-here ∙ q);
          room = s.certs_room;
          rise = s.certs_rise;
        } in
        subst (λ (x : Page). Holds x.view) (sym here) l

    module _ (q : h.kind ≡ leaf_kind → ⊥) where
      inner-here : is_leaf page.0.view ≡ false
      inner-here = inner-of-kind page.0.view (λ r. q (kind-here ∙ r))

      low-here : h.low ≡ e.low
      unfolding head_of
      low-here = ap (λ (x : Head). x.low) page.2 ∙ stood.fits.low

      high-here : h.high ≡ e.high
      unfolding head_of
      high-here = ap (λ (x : Head). x.high) page.2 ∙ stood.fits.high

      -- an inner page leads on
      pub leads : Leads k h (read u e.child).view
      unfolding head_of
      leads =
          let s = stood.fits.sound in
          let l : Leads k h page.0.view = record {
            inner = inner-here;
            kind = kind-here;
            from = s.kind_from;
            count = ap (λ (x : Head). x.count) page.2;
            room = s.children_room;
            rise = s.children_rise;
            starts = ap (λ (x : ℕ). starts_at x page.0.view.children) low-here ∙ s.starts inner-here;
            low = omega (arith, low-here, d.ready.low);
            high = omega (arith, high-here, d.ready.high);
          } in
          subst (λ (x : Page). Leads k h x.view) (sym here) l

      pub goes_on : (b : Place) → pick k (places_below h (read u e.child).view) ≡ some b
          → (y : Report) → y ≡ adds why x → Descent n c k t₀ u (record { place = e; head = h } ∷ w) b (level - 1) x₀ y
      goes_on b r y v =
          let q' : pick k (kids e page.0.view) ≡ some b = ap (λ (x : Page). pick k (kids e x.view)) (sym here)
          ∙ (ap (pick k) (sym (places-kids e h (read u e.child).view high-here)) ∙ r) in
          record {
            above = record { place = e; page = read u e.child } ∷ d.above;
            way = then-here;
            rest = d.rest ∙ (one-level ∙ (descend-below (level - 1) n c k d.above t e page.0 page.1 b q'
                ∙ (ap (λ (x : List ℕ). rules.descend (level - 1) n c k (record { place = e; page = page.0 } ∷ d.above) x b) (sym table)
                ∙ ap (λ (x : Page). rules.descend (level - 1) n c k (record { place = e; page = x } ∷ d.above) u b) (sym here))));
            reports = d.reports ∙ (report-level ∙ (report-below (level - 1) n c k d.above t e page.0 page.1 x b q'
                ∙ (ap (λ (z : List ℕ). rules.descend_report (level - 1) n c k (record { place = e; page = page.0 } ∷ d.above) z b (adds (reason_at n t e) x)) (sym table)
                ∙ (ap (λ (z : Page). rules.descend_report (level - 1) n c k (record { place = e; page = z } ∷ d.above) u b (adds (reason_at n t e) x)) (sym here)
                ∙ ap (rules.descend_report (level - 1) n c k (record { place = e; page = read u e.child } ∷ d.above) u b) (sym (more y v))))));
            deep = omega (arith, d.deep);
            ready = subst (λ (x : List ℕ). Ready n c k x b) (sym table) (ready-next d.ready (rules.numbers d.above) page.0 page.1 b q');
          }
