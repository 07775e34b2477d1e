-- The rules' split of a page below one with room, in the bytes of the table: the two pages built, the page above changed.
use Rattle.std.proofs.Common.{◌≡◌, ℕ, ◌^◌, ◌<◌, true, ◌≢◌, List, length, sym, refl, ◌∙◌, subst, arith}
use mathlib.Core.Option.{some}
use Rattle.rules.specs.Layout.{leaf_kind, inner_room}
use Rattle.rules.specs.Page.{View, Page, touch}
use Rattle.rules.specs.Table.{read, build, change}
use Rattle.rules.specs.Place.{kids, pick, show}
use Rattle.rules.specs.Marks.{taken}
use Rattle.rules.specs.Insert.{full, previous_of, lower_page, upper_page, twins, changed, retire}
use Rattle.rules.specs.declared.Place.{Place}
use Rattle.rules.specs.declared.Session.{Session}
use Rattle.rules.proofs.Entries.Tests.{fails}
use Rattle.rules.proofs.Bytes.Pages.{Wide, wide-touch}
use Rattle.rules.proofs.Bytes.Tables.{wide_read}
use Rattle.rules.proofs.Bytes.Widths.{wide-lower_page, wide-upper_page}
use Rattle.rules.proofs.Entries.Views.{inner-of-kind}
use Rattle.rules.proofs.Bytes.Marked.{sized-taken}
use Rattle.rules.proofs.Entries.Places.{Fits, fits_true}
use Rattle.rules.proofs.Demand3.Ways.Sources.{show-found}
use Rattle.rules.proofs.Entries.Halves.{previous_of-below}
use Rattle.rules.proofs.Demand3.Ways.Ways.{Node, Found}
use Rattle.rules.proofs.Demand3.Ways.Invariant.{States}
use Rattle.rules.proofs.Demand3.Ways.Kids.{kid-want, kid-previous}
use Rattle.rules.proofs.Demand3.Ways.Nodes.{node-page, node-below}
use Rattle.rules.proofs.Demand3.Epochs.Store.{free_mark, waiting_mark}
use Rattle.rules.proofs.Demand3.Steps.Writes.{room_of, Writes, build_writes, change_writes}
use Rattle.rules.proofs.Demand3.Steps.Sides.{Unused, step_at}
use Rattle.rules.proofs.Demand3.Steps.Parts.{lower_of, upper_of, lower-fits, upper_fits, above-fits}
use Rattle.rules.proofs.Demand3.Steps.Halve.{Halving, halve-inv, halve-marks}
use Rattle.rules.proofs.Demand3.Steps.Retire.{retire-n, retire-c, retire-sized, Took, not_taken, retired, retired_paged}
use Rattle.rules.proofs.Demand3.Steps.Keeps.{Keeps, free-unused, wide_twins}

-- the page at P, below u, is full and can be split into two free pages
pub record Ready (n c : ℕ) (s : Session) (W : List ℕ) (k : ℕ) (u P : Place) (lower upper : ℕ) : Type 0 where
  pub parent : Node n W k u
  pub stands : Found n W u
  pub picks : pick k (kids u (read W u.child).view) ≡ some P
  pub found : Found n W P
  pub fills : full (read W P.child).view ≡ true
  pub room : length (read W u.child).view.children < inner_room
  pub late : (read W P.child).view.kind ≢ leaf_kind → (read W P.child).touched ≢ c
  pub lower_free : free_mark s lower ≡ true
  pub upper_free : free_mark s upper ≡ true
  pub two : lower ≢ upper

-- the table and session that the rules leave
abbrev pub halved : ℕ → List ℕ → ℕ → Place → ℕ → ℕ → List ℕ
halved c W at P lower upper =
    changed c (twins c (step_at W P) lower upper)
    (build (build W lower (lower_page c (read W P.child))) upper (upper_page c (read W P.child))) at

abbrev pub halved_session : ℕ → List ℕ → Place → ℕ → ℕ → Session → Session
halved_session c W P lower upper s = retire c (step_at W P) (taken upper (taken lower s))

module _ {n c : ℕ} {s : Session} {W S : List ℕ} {Been : States} (K : Keeps n c s W S Been)
    {k : ℕ} {u P : Place} {lower upper : ℕ} (R : Ready n c s W k u P lower upper) where
  abbrev view : View
  view = (read W u.child).view

  abbrev page : Page
  page = read W P.child

  abbrev W₁ : List ℕ
  W₁ = build W lower (lower_page c (read W P.child))

  abbrev W₂ : List ℕ
  W₂ = build W₁ upper (upper_page c (read W P.child))

  abbrev W' : List ℕ
  W' = halved c W u.child P lower upper

  free_lower : Unused n S W lower
  free_lower = free-unused K.marks R.lower_free

  free_upper : Unused n S W upper
  free_upper = free-unused K.marks R.upper_free

  small : c < 256 ^ 4
  small = omega (arith, K.small)

  page-wide : Wide page
  page-wide = wide_read W P.child K.working.bytes

  shows-u : show n W u ≡ some view
  shows-u = show-found n W u R.stands

  node-P : Node n W k P
  node-P = node-below view P R.parent shows-u R.picks

  bound : (i : ℕ) → i < n → i < 256 ^ 2
  bound i h = omega (arith, K.most, h)

  inner : view.kind ≢ leaf_kind
  inner l = omega (arith, l, (kid-want n W u view shows-u k P R.picks).0, (kid-want n W u view shows-u k P R.picks).1)

  -- ── Three pages written ───────────────────────────────────────────────────────────────────────────────────────

  first : Writes n W W₁ lower (lower_page c page)
  first =
      let p = K.paged.free_page R.lower_free in
      let w = wide-lower_page small page-wide in
      build_writes K.working p.0 p.1 w
      (room_of w (lower-fits n W P R.found R.fills c page.view.kind lower refl).sound)

  second : Writes n W₁ W₂ upper (upper_page c page)
  second =
      let p = K.paged.free_page R.upper_free in
      let w = wide-upper_page small page-wide in
      build_writes first.whole p.0 p.1 w
      (room_of w (upper_fits n W P R.found R.fills c page.view.kind upper refl).sound)

  above_same : read W₂ u.child ≡ read W u.child
  above_same =
      second.others u.child (free_upper.no_new R.parent) ∙ first.others u.child (free_lower.no_new R.parent)

  above : Page
  above = touch c (twins c (step_at W P) lower upper view) (read W u.child)

  fit : Fits n u above
  unfolding above
  fit =
      let p = K.paged.free_page R.lower_free in
      let q = K.paged.free_page R.upper_free in
      above-fits n W u P R.stands R.found R.fills k R.picks c lower upper R.room p.0 p.1 q.0 q.1

  above_wide : Wide above
  unfolding above
  above_wide =
      let w = wide_read W u.child K.working.bytes in
      wide-touch
      (wide_twins (step_at W P) lower upper small page-wide
      (bound lower (K.paged.free_page R.lower_free).1) (bound upper (K.paged.free_page R.upper_free).1)
      (bound (previous_of c (step_at W P))
      (previous_of-below n c (step_at W P) (kid-previous n W u view shows-u k P R.picks) (node-page K.inv.rooted node-P).1))
      w.view (inner-of-kind view inner) R.room)
      small w

  third : Writes n W₂ W' u.child above
  unfolding above changed
  third =
      let p = node-page K.inv.rooted R.parent in
      subst (λ (q : Page). Writes n W₂ (change W₂ u.child (touch c (twins c (step_at W P) lower upper q.view) q)) u.child above)
      (sym above_same)
      (change_writes second.whole p.0 p.1 above_wide (room_of above_wide fit.sound))

  pub halving : Halving n S W W' c u P lower upper
  unfolding above
  halving = record {
    key = k;
    parent = R.parent;
    stands = R.stands;
    picks = R.picks;
    found = R.found;
    fills = R.fills;
    room = R.room;
    late = R.late;
    lower_page_lem = K.paged.free_page R.lower_free;
    upper_page_lem = K.paged.free_page R.upper_free;
    free_lower = free_lower;
    free_upper = free_upper;
    two = R.two;
    at_lower = third.others lower (λ q. free_lower.no_new R.parent (sym q)) ∙ (second.others lower R.two ∙ first.here);
    at_upper = third.others upper (λ q. free_upper.no_new R.parent (sym q)) ∙ second.here;
    at_above = third.here;
    others = λ i p q r. third.others i r ∙ (second.others i q ∙ first.others i p);
    root = third.root ∙ (second.root ∙ first.root);
  }

  -- ── The store ─────────────────────────────────────────────────────────────────────────────────────────────────

  took : Took s (taken upper (taken lower s)) lower upper u.child
  took = record { frees = frees; waits = λ i h. h }
    where
      frees : (i : ℕ) → free_mark (taken upper (taken lower s)) i ≡ true
          → (free_mark s i ≡ true) × (i ≢ lower) × (i ≢ upper) × (i ≢ u.child)
      frees i h =
          let a = not_taken (taken lower s) upper i h in
          let b = not_taken s lower i a.0 in
          (b.0, b.1, a.1, λ q. K.marks.free_new b.0 R.parent (sym q))

  pub halve-keeps : Keeps n c (halved_session c W P lower upper s) W' S Been
  halve-keeps =
      let m = taken upper (taken lower s) in
      let L = lower_of c W P P.want lower in
      let U = upper_of c W P P.want upper in
      let r = retired c (step_at W P) P L U took refl (fits_true n P page R.found).birth
      (fails (free_mark s P.child) (λ h. K.marks.free_new h node-P refl), fails (waiting_mark s P.child) (λ h. K.marks.waiting_new h node-P refl))
      in
      record {
        pages = retire-n c (step_at W P) m ∙ K.pages;
        counter = retire-c c (step_at W P) m ∙ K.counter;
        sized = retire-sized c (step_at W P) m (sized-taken (sized-taken K.sized lower) upper);
        few = K.few;
        most = K.most;
        small = K.small;
        working = third.whole;
        stable = K.stable;
        number_working = third.number ∙ (second.number ∙ (first.number ∙ K.number_working));
        number_stable = K.number_stable;
        inv = halve-inv K.inv halving;
        paged = retired_paged r (node-page K.inv.rooted node-P) K.paged;
        marks = halve-marks K.inv halving K.marks r R.lower_free R.upper_free;
      }
