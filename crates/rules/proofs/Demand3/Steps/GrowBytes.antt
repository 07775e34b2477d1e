-- The rules' split of the root, in the bytes of the table: a new root built and named in page 0, the two pages built, the new
-- root changed.
use Rattle.std.proofs.Common.{◌≡◌, ℕ, ◌^◌, ◌<◌, ◌≤◌, true, ◌≢◌, List, sym, refl, ◌∙◌, subst, arith}
use Rattle.rules.specs.Layout.{leaf_kind, top_kind, last_key}
use Rattle.rules.specs.Page.{Page, fresh, touch}
use Rattle.rules.specs.Table.{read, build, change, set_root}
use Rattle.rules.specs.Place.{root_place}
use Rattle.rules.specs.Marks.{taken}
use Rattle.rules.specs.Insert.{full, previous_of, lower_page, upper_page, twins, root_over, root_previous, changed, retire}
use Rattle.rules.specs.declared.Place.{Place}
use Rattle.rules.specs.declared.Session.{Session}
use Rattle.rules.proofs.Entries.Tests.{fails}
use Rattle.rules.proofs.Bytes.Pages.{Wide, wide-fresh, wide-touch}
use Rattle.rules.proofs.Bytes.Tables.{wide_read}
use Rattle.rules.proofs.Bytes.Widths.{wide-lower_page, wide-upper_page}
use Rattle.rules.proofs.Entries.Views.{inner-of-kind}
use Rattle.rules.proofs.Bytes.Marked.{sized-taken}
use Rattle.rules.proofs.Entries.Places.{Fits, fits_true}
use Rattle.rules.proofs.Demand3.Ways.Sources.{show-found}
use Rattle.rules.proofs.Entries.Halves.{previous_of-below}
use Rattle.rules.proofs.Demand3.Ways.Ways.{Node, Found}
use Rattle.rules.proofs.Demand3.Ways.Invariant.{States}
use Rattle.rules.proofs.Demand3.Ways.Kids.{shown-kind}
use Rattle.rules.proofs.Demand3.Ways.Nodes.{node-root}
use Rattle.rules.proofs.Demand3.Steps.Mended.{node-birth}
use Rattle.rules.proofs.Demand3.Epochs.Store.{free_mark, waiting_mark}
use Rattle.rules.proofs.Demand3.Steps.Writes.{room_of, Writes, build_writes, change_writes, Roots, root_writes}
use Rattle.rules.proofs.Demand3.Steps.Sides.{Unused, step_at}
use Rattle.rules.proofs.Demand3.Steps.Parts.{lower_of, upper_of, lower-fits, upper_fits, raised_root, root-low, root_names, over-sound, root-fits}
use Rattle.rules.proofs.Demand3.Steps.Grow.{Growing, root_previous-below, grow-inv, grow-marks}
use Rattle.rules.proofs.Demand3.Steps.Retire.{retire-n, retire-c, retire-sized, Took, not_taken, retired, retired_paged}
use Rattle.rules.proofs.Demand3.Steps.Keeps.{Keeps, free-unused, wide_twins, wide-root_over}

-- the root at P is full and can be split into two free pages under a third
pub record ReadyRoot (n c : ℕ) (s : Session) (W : List ℕ) (P : Place) (lower upper new : ℕ) : Type 0 where
  pub is_root : root_place W ≡ P
  pub found : Found n W P
  pub fills : full (read W P.child).view ≡ true
  pub short : (read W P.child).view.kind < top_kind
  pub late : (read W P.child).view.kind ≢ leaf_kind → (read W P.child).touched ≢ c
  pub lower_free : free_mark s lower ≡ true
  pub upper_free : free_mark s upper ≡ true
  pub new_free : free_mark s new ≡ true
  pub two : lower ≢ upper
  pub lower_new : lower ≢ new
  pub upper_new : upper ≢ new

-- the table and session that the rules leave
abbrev pub raised : ℕ → List ℕ → Place → ℕ → List ℕ
raised c W P new =
    set_root (build W new (fresh c c 0 last_key (root_over (step_at W P)))) new (root_previous c (step_at W P)) c

abbrev pub grown : ℕ → List ℕ → Place → ℕ → ℕ → ℕ → List ℕ
grown c W P lower upper new =
    changed c (twins c (step_at W P) lower upper)
    (build (build (raised c W P new) lower (lower_page c (read W P.child))) upper (upper_page c (read W P.child))) new

abbrev pub grown_session : ℕ → List ℕ → Place → ℕ → ℕ → ℕ → Session → Session
grown_session c W P lower upper new s = retire c (step_at W P) (taken upper (taken lower (taken new s)))

module _ {n c : ℕ} {s : Session} {W S : List ℕ} {Been : States} (K : Keeps n c s W S Been)
    {P : Place} {lower upper new : ℕ} (R : ReadyRoot n c s W P lower upper new) where
  abbrev page : Page
  page = read W P.child

  abbrev lone : Page
  lone = fresh c c 0 last_key (root_over (step_at W P))

  abbrev W₀ : List ℕ
  W₀ = build W new (fresh c c 0 last_key (root_over (step_at W P)))

  abbrev W₁ : List ℕ
  W₁ = raised c W P new

  abbrev W₂ : List ℕ
  W₂ = build W₁ lower (lower_page c (read W P.child))

  abbrev W₃ : List ℕ
  W₃ = build W₂ upper (upper_page c (read W P.child))

  abbrev W' : List ℕ
  W' = grown c W P lower upper new

  free_lower : Unused n S W lower
  free_lower = free-unused K.marks R.lower_free

  free_upper : Unused n S W upper
  free_upper = free-unused K.marks R.upper_free

  free_new : Unused n S W new
  free_new = free-unused K.marks R.new_free

  small : c < 256 ^ 4
  small = omega (arith, K.small)

  page-wide : Wide page
  page-wide = wide_read W P.child K.working.bytes

  node-P : Node n W 0 P
  node-P = subst (Node n W 0) R.is_root (node-root n W 0 (omega arith))

  tall : 1 ≤ page.view.kind
  tall = (shown-kind n W P page.view (show-found n W P R.found)).0

  bound : (i : ℕ) → i < n → i < 256 ^ 2
  bound i h = omega (arith, K.most, h)

  names : (1 ≤ P.child) × (P.child < n) × (P.previous < n)
  names = root_names K.inv.rooted R.is_root

  previous_below : root_previous c (step_at W P) < n
  previous_below = root_previous-below n c (step_at W P) names.2 names.1

  -- ── Four pages written, and page 0 ────────────────────────────────────────────────────────────────────────────

  lone_wide : Wide lone
  lone_wide =
      wide-fresh
      (wide-root_over (step_at W P) R.short tall (omega (arith, node-birth K.inv node-P, K.small))
      (omega (arith, root-low K.inv.rooted R.is_root)) (bound P.child names.1) (bound P.previous names.2))
      small small (omega arith) (omega arith)

  zeroth : Writes n W W₀ new lone
  unfolding fresh
  zeroth =
      let p = K.paged.free_page R.new_free in
      build_writes K.working p.0 p.1 lone_wide
      (room_of lone_wide (over-sound K.inv.rooted R.is_root R.short))

  first : Roots n W₀ W₁ new (root_previous c (step_at W P)) c
  first =
      let p = K.paged.free_page R.new_free in
      root_writes new (root_previous c (step_at W P)) c zeroth.whole K.few K.most p.0 p.1 previous_below small

  second : Writes n W₁ W₂ lower (lower_page c page)
  second =
      let p = K.paged.free_page R.lower_free in
      let w = wide-lower_page small page-wide in
      build_writes first.whole p.0 p.1 w
      (room_of w (lower-fits n W P R.found R.fills c page.view.kind lower refl).sound)

  third : Writes n W₂ W₃ upper (upper_page c page)
  third =
      let p = K.paged.free_page R.upper_free in
      let w = wide-upper_page small page-wide in
      build_writes second.whole p.0 p.1 w
      (room_of w (upper_fits n W P R.found R.fills c page.view.kind upper refl).sound)

  above_same : read W₃ new ≡ lone
  above_same =
      third.others new (λ q. R.upper_new (sym q))
      ∙ (second.others new (λ q. R.lower_new (sym q))
      ∙ (first.others new (K.paged.free_page R.new_free).0 ∙ zeroth.here))

  above : Page
  above = touch c (twins c (step_at W P) lower upper (root_over (step_at W P))) lone

  fit : Fits n (raised_root c W P new) above
  unfolding above
  fit =
      let p = K.paged.free_page R.lower_free in
      let q = K.paged.free_page R.upper_free in
      root-fits K.inv.rooted R.is_root c lower upper new R.found R.fills R.short p.0 p.1 q.0 q.1

  above_wide : Wide above
  unfolding above fresh root_over
  above_wide =
      wide-touch
      (wide_twins (step_at W P) lower upper small page-wide
      (bound lower (K.paged.free_page R.lower_free).1) (bound upper (K.paged.free_page R.upper_free).1)
      (bound (previous_of c (step_at W P)) (previous_of-below n c (step_at W P) names.2 names.1))
      lone_wide.view (inner-of-kind (root_over (step_at W P)) (λ l. omega (arith, l, tall))) (omega arith))
      small lone_wide

  fourth : Writes n W₃ W' new above
  unfolding above changed fresh
  fourth =
      let p = K.paged.free_page R.new_free in
      subst (λ (q : Page). Writes n W₃ (change W₃ new (touch c (twins c (step_at W P) lower upper q.view) q)) new above)
      (sym above_same)
      (change_writes third.whole p.0 p.1 above_wide (room_of above_wide fit.sound))

  pub growing : Growing n S W W' c P lower upper new
  unfolding above
  growing = record {
    is_root = R.is_root;
    found = R.found;
    fills = R.fills;
    short = R.short;
    late = R.late;
    lower_page_lem = K.paged.free_page R.lower_free;
    upper_page_lem = K.paged.free_page R.upper_free;
    new_page = K.paged.free_page R.new_free;
    free_lower = free_lower;
    free_upper = free_upper;
    free_new = free_new;
    two = R.two;
    lower_new = R.lower_new;
    upper_new = R.upper_new;
    at_lower = fourth.others lower R.lower_new ∙ (third.others lower R.two ∙ second.here);
    at_upper = fourth.others upper R.upper_new ∙ third.here;
    at_new = fourth.here;
    others = λ i h p q r.
        fourth.others i r ∙ (third.others i q ∙ (second.others i p ∙ (first.others i h ∙ zeroth.others i r)));
    root_now = fourth.root ∙ (third.root ∙ (second.root ∙ first.names));
  }

  -- ── The store ─────────────────────────────────────────────────────────────────────────────────────────────────

  took : Took s (taken upper (taken lower (taken new s))) lower upper new
  took = record { frees = frees; waits = λ i h. h }
    where
      frees : (i : ℕ) → free_mark (taken upper (taken lower (taken new s))) i ≡ true
          → (free_mark s i ≡ true) × (i ≢ lower) × (i ≢ upper) × (i ≢ new)
      frees i h =
          let a = not_taken (taken lower (taken new s)) upper i h in
          let b = not_taken (taken new s) lower i a.0 in
          let d = not_taken s new i b.0 in
          (d.0, b.1, a.1, d.1)

  pub grow-keeps : Keeps n c (grown_session c W P lower upper new s) W' S Been
  grow-keeps =
      let m = taken upper (taken lower (taken new s)) in
      let L = lower_of c W P page.view.kind lower in
      let U = upper_of c W P page.view.kind upper in
      let r = retired c (step_at W P) P L U took refl (fits_true n P page R.found).birth
      (fails (free_mark s P.child) (λ h. K.marks.free_new h node-P refl), fails (waiting_mark s P.child) (λ h. K.marks.waiting_new h node-P refl))
      in
      record {
        pages = retire-n c (step_at W P) m ∙ K.pages;
        counter = retire-c c (step_at W P) m ∙ K.counter;
        sized = retire-sized c (step_at W P) m (sized-taken (sized-taken (sized-taken K.sized new) lower) upper);
        few = K.few;
        most = K.most;
        small = K.small;
        working = fourth.whole;
        stable = K.stable;
        number_working = fourth.number ∙ (third.number ∙ (second.number ∙ (first.number ∙ (zeroth.number ∙ K.number_working))));
        number_stable = K.number_stable;
        inv = grow-inv K.inv growing;
        paged = retired_paged r (names.0, names.1) K.paged;
        marks = grow-marks K.inv growing K.marks r R.lower_free R.upper_free R.new_free;
      }
