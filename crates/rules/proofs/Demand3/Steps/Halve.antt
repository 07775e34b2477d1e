-- A full page is split below a page that has room: its entry there becomes two. The invariant and the marks are kept.
use Rattle.std.proofs.Common.{◌≡◌, ℕ, zero, suc, ◌-◌, ◌<◌, ◌≤◌, Bool, true, false, eqb, ltb, ◌≢◌, ◌⊎◌, List, [], ◌∷◌, length, sym, refl, ap, ◌∙◌, subst, inl, inr, arith, ltb-false, ltb-true, eqb-true}
use mathlib.Core.Bool.{false≢true}
use mathlib.Core.Option.{Option, some, none, none-ne-some, some-injective}
use borrow.Author.Tests.{eqb-false}
use Rattle.rules.specs.Layout.{leaf_kind, inner_room}
use Rattle.rules.specs.Test.{between}
use Rattle.rules.specs.Entry.{Child}
use Rattle.rules.specs.Page.{View, Page, touch}
use Rattle.rules.specs.Table.{read}
use Rattle.rules.specs.Place.{root_place, places_in, kids, pick, fits, show}
use Rattle.rules.specs.Insert.{full, divide, previous_of, lower_page, upper_page, new_child, put_child, twins}
use Rattle.rules.specs.declared.Place.{Place}
use Rattle.rules.proofs.Entries.Tests.{fails, between_cases, between-low, between-high}
use Rattle.rules.proofs.Demand3.Ways.Ways.{under, at, Node, Found, Lost}
use Rattle.rules.proofs.Demand3.Ways.Invariant.{States, Changed, Old, same, changed, New, Inv, Marks}
use Rattle.rules.proofs.Entries.Sounds.{Sound}
use Rattle.rules.proofs.Entries.Places.{fits_true, fits-of}
use Rattle.rules.proofs.Demand3.Ways.Sources.{show-found}
use Rattle.rules.proofs.Entries.Halves.{Divided}
use Rattle.rules.proofs.Entries.Picks.{pick-holds, kid-same-low}
use Rattle.rules.proofs.Entries.Asks.{kids-rising, kids-pick}
use Rattle.rules.proofs.Entries.Twins.{twinned, Twin, twin-pick-lower, twin-pick-upper, twin-pick-other, twin-pick_outside, kids-twins}
use Rattle.rules.proofs.Demand3.Ways.Kids.{shown-kind, pick-one, kid-same, kid-within, kid-want}
use Rattle.rules.proofs.Demand3.Ways.Nodes.{node-root, node-page, node-range, node-same, node-below, kid-kind, at_level}
use Rattle.rules.proofs.Demand3.Mix.Mix.{found_as, Kindred, kindred}
use Rattle.rules.proofs.Demand3.Epochs.Epochs.{all_written}
use Rattle.rules.proofs.Demand3.Steps.Again.{new-written}
use Rattle.rules.proofs.Demand3.Steps.Touch.{under_some}
use Rattle.rules.proofs.Demand3.Steps.Sides.{Unused, step_at, swap, swap_here, swap_other, swap_none, swap_nothing, side, side-lower, side-upper, Cleft}
use Rattle.rules.proofs.Demand3.Steps.Cleft.{Is, was, half, raised, Goes, at_swap_below, is-swapped, swapped-kept, swapped_half, side-top, gone_old}
use Rattle.rules.proofs.Demand3.Steps.Split.{Over, split-inv, Retired, split-marks}
use Rattle.rules.proofs.Demand3.Steps.Parts.{lower_of, upper_of, parts, lower_half_lem, upper_half_lem, above-fits}

-- the full page at P, below the page at u that has room, is split into the pages lower and upper
pub record Halving (n : ℕ) (S W W' : List ℕ) (c : ℕ) (u P : Place) (lower upper : ℕ) : Type 0 where
  pub key : ℕ
  pub parent : Node n W key u
  pub stands : Found n W u
  pub picks : pick key (kids u (read W u.child).view) ≡ some P
  pub found : Found n W P
  pub fills : full (read W P.child).view ≡ true
  pub room : length (read W u.child).view.children < inner_room
  pub late : (read W P.child).view.kind ≢ leaf_kind → (read W P.child).touched ≢ c
  pub lower_page_lem : (1 ≤ lower) × (lower < n)
  pub upper_page_lem : (1 ≤ upper) × (upper < n)
  pub free_lower : Unused n S W lower
  pub free_upper : Unused n S W upper
  pub two : lower ≢ upper
  pub at_lower : read W' lower ≡ lower_page c (read W P.child)
  pub at_upper : read W' upper ≡ upper_page c (read W P.child)
  pub at_above : read W' u.child
      ≡ touch c (twins c (step_at W P) lower upper (read W u.child).view) (read W u.child)
  pub others : (i : ℕ) → i ≢ lower → i ≢ upper → i ≢ u.child → read W' i ≡ read W i
  pub root : root_place W' ≡ root_place W

module _ {n : ℕ} {S W W' : List ℕ} {c : ℕ} {Been : States} {u P : Place} {lower upper : ℕ}
    (I : Inv n S W c Been) (H : Halving n S W W' c u P lower upper) where
  abbrev view : View
  view = (read W u.child).view

  abbrev page : Page
  page = read W P.child

  abbrev L : Place
  L = lower_of c W P P.want lower

  abbrev U : Place
  U = upper_of c W P P.want upper

  shows-u : show n W u ≡ some view
  shows-u = show-found n W u H.stands

  sound-u : Sound n u.low u.high view
  sound-u = (fits_true n u (read W u.child) H.stands).sound

  shows-P : show n W P ≡ some page.view
  shows-P = show-found n W P H.found

  node-P : Node n W H.key P
  node-P = node-below view P H.parent shows-u H.picks

  wants : P.want ≡ page.view.kind
  wants = go (fits_true n P page H.found).kind (kid-want n W u view shows-u H.key P H.picks)
    where
      go : (P.want ≡ 0) ⊎ (P.want ≡ page.view.kind) → (1 ≤ P.want) × (suc P.want ≡ view.kind) → P.want ≡ page.view.kind
      go (inl z) w = absurd (omega (arith, w.0, z))
      go (inr z) w = z

  split : Divided P.low P.high page.view
  split = parts n W P H.found H.fills

  -- ── Only u leads to P ─────────────────────────────────────────────────────────────────────────────────────────

  parent-kind : view.kind ≡ suc page.view.kind
  parent-kind = kid-kind n W u view shows-u H.key P H.picks page.view shows-P

  only-u : {k : ℕ} {e : Place} {v : View} {d : Place}
      → Node n W k e → show n W e ≡ some v → pick k (kids e v) ≡ some d → d.child ≡ P.child → e.child ≡ u.child
  only-u {k} {e} {v} {d} x s p q =
      ap (λ (a : Place). a.child) (at_level v view x (node-same k H.parent (omega (arith, w.0, r.0)) (omega (arith, w.1, r.1))) s shows-u kinds)
    where
      y : Node n W k d
      y = node-below v d x s p

      one : d ≡ P
      one = I.once y node-P q

      r : (P.low ≤ k) × (k ≤ P.high)
      r = node-range (subst (Node n W k) one y)

      w : (u.low ≤ P.low) × (P.high ≤ u.high)
      w = kid-within n W u view shows-u H.key P H.picks

      kinds : v.kind ≡ view.kind
      kinds = kid-kind n W e v s k d p page.view (ap (show n W) one ∙ shows-P) ∙ sym parent-kind

  root-other : (root_place W).child ≢ P.child
  unfolding root_place
  root-other q =
      let e : root_place W ≡ P = I.once (node-root n W 0 (omega arith)) node-P q in
      let z : 0 ≡ P.want = ap (λ (a : Place). a.want) e in
      omega (arith, z, (kid-want n W u view shows-u H.key P H.picks).0)

  -- ── Where u leads ─────────────────────────────────────────────────────────────────────────────────────────────

  first : Child
  first = new_child c page.low lower (previous_of c (step_at W P))

  second : Child
  second = new_child c (divide page.view) upper (previous_of c (step_at W P))

  twin : Twin (view.kind - 1) u.high view.children P first second
  unfolding first second new_child
  twin = record {
    order = kids-rising u sound-u;
    kid = kids-pick u sound-u H.key P H.picks;
    same = (fits_true n P page H.found).low;
    up = split.above;
    to = split.within;
  }

  found-above : Found n W' u
  found-above =
      ap (fits n u) H.at_above
      ∙ fits-of n u _
      (above-fits n W u P H.stands H.found H.fills H.key H.picks c lower upper H.room
      H.lower_page_lem.0 H.lower_page_lem.1 H.upper_page_lem.0 H.upper_page_lem.1)

  shows-above : show n W' u ≡ some (twins c (step_at W P) lower upper view)
  unfolding touch
  shows-above = show-found n W' u found-above ∙ ap some (ap (λ (p : Page). p.view) H.at_above)

  -- a place below u with P's child is P
  kid-of-u : (k : ℕ) (f : Place) → pick k (kids u view) ≡ some f → f.child ≡ P.child → f ≡ P
  kid-of-u k f h d =
      let r = pick-holds k (kids u view) f h in
      let w = kid-within n W u view shows-u k f h in
      let y = node-same k H.parent (omega (arith, w.0, r.0)) (omega (arith, w.1, r.1)) in
      I.once (node-below view f y shows-u h) node-P d

  pick-above : (k : ℕ) → pick k (kids u (twins c (step_at W P) lower upper view)) ≡ swap P (side L U k) (pick k (kids u view))
  unfolding first second new_child kids
  pick-above k =
      ap (pick k) (kids-twins u c (step_at W P) lower upper view) ∙ go (pick k (kids u view)) refl
    where
      Entries : List Place
      Entries = places_in (view.kind - 1) u.high (twinned first second view.children)

      here : P.low ≤ k → k ≤ P.high → pick k Entries ≡ some (side L U k)
      here a b = at (ltb k (divide page.view)) refl
        where
          at : (t : Bool) → ltb k (divide page.view) ≡ t → pick k Entries ≡ some (side L U k)
          at true q = twin-pick-lower twin k a (ltb-true k (divide page.view) q) ∙ ap some (sym (side-lower L U k q))
          at false q = twin-pick-upper twin k (ltb-false k (divide page.view) q) b ∙ ap some (sym (side-upper L U k q))

      other : (f : Place) → pick k (kids u view) ≡ some f → f.child ≢ P.child → pick k Entries ≡ some f
      other f h d =
          twin-pick-other twin k f
          (λ q. d (ap (λ (a : Place). a.child) (kid-same-low (kids-pick u sound-u k f h) twin.kid q))) h

      nowhere : pick k (kids u view) ≡ none → (t : Bool) → between P.low P.high k ≡ t → pick k Entries ≡ none
      nowhere h true q =
          absurd
          (none-ne-some P
          (sym h
          ∙ kid-same n W u view shows-u H.key P H.picks k (between-low P.low P.high k q) (between-high P.low P.high k q)))
      nowhere h false q = twin-pick_outside twin k (between_cases P.low P.high k q) ∙ h

      go : (from : Option Place) → pick k (kids u view) ≡ from → pick k Entries ≡ swap P (side L U k) (pick k (kids u view))
      go none h = nowhere h (between P.low P.high k) refl ∙ (sym (swap_none P (side L U k)) ∙ ap (swap P (side L U k)) (sym h))
      go (some f) h = at (eqb f.child P.child) refl
        where
          at : (t : Bool) → eqb f.child P.child ≡ t → pick k Entries ≡ swap P (side L U k) (pick k (kids u view))
          at true q =
              let d = eqb-true f.child P.child q in
              let r = pick-holds k (kids u view) f h in
              let e = kid-of-u k f h d in
              here (subst (λ (a : Place). a.low ≤ k) e r.0) (subst (λ (a : Place). k ≤ a.high) e r.1)
              ∙ (sym (swap_here P (side L U k) f d) ∙ ap (swap P (side L U k)) (sym h))
          at false q =
              let d = eqb-false f.child P.child q in
              other f h d ∙ (sym (swap_other P (side L U k) f d) ∙ ap (swap P (side L U k)) (sym h))

  leads-u : {k : ℕ} {e : Place} → Node n W k e → e.child ≡ u.child → e.child ≢ P.child
      → under k e (show n W' e) ≡ swap P (side L U k) (under k e (show n W e))
  leads-u {k} {e} x q d =
      subst (λ (a : Place). under k a (show n W' a) ≡ swap P (side L U k) (under k a (show n W a))) (sym (I.once x H.parent q))
      (under_some k u (twins c (step_at W P) lower upper view) (show n W' u) shows-above
      ∙ (pick-above k ∙ ap (swap P (side L U k)) (sym (under_some k u view (show n W u) shows-u))))

  -- ── The split ─────────────────────────────────────────────────────────────────────────────────────────────────

  pub halve_cleft : Cleft n S W W' c P L U u.child
  halve_cleft = record {
    key = H.key;
    node = node-P;
    found = H.found;
    late = H.late;
    lower = lower_half_lem n W P H.found H.fills W' c P.want lower wants H.at_lower;
    upper = upper_half_lem n W P H.found H.fills W' c P.want upper wants H.at_upper;
    from = refl;
    to = refl;
    meet = omega (arith, split.above);
    free_lower = H.free_lower;
    free_upper = H.free_upper;
    two = H.two;
    lower_top = λ q. H.free_lower.no_new H.parent (sym q);
    upper_top = λ q. H.free_upper.no_new H.parent (sym q);
    others = λ i a p q r. H.others i p q r;
    only = only-u;
    leads = leads-u;
    spares = λ x l. I.apart x l H.parent;
  }

  ways : (k i : ℕ) → at n W' k i ≡ swap P (side L U k) (at n W k i)
  unfolding at
  ways k zero =
      ap (λ (p : Place). pick k (p ∷ [])) H.root
      ∙ sym (swap_nothing P (side L U k) (pick k (root_place W ∷ []))
      (λ d h q. root-other (ap (λ (a : Place). a.child) (pick-one k (root_place W) d h) ∙ q)))
  ways k (suc i) = at_swap_below I halve_cleft k i i (ways k i)

  pub halve-goes : Goes n S W W' P L U u.child
  halve-goes = record {
    nodes = λ {k} {e} x. is-swapped I halve_cleft k x.depth e (sym (ways k x.depth) ∙ x.here);
    kept = λ {k} {e} x d. record { depth = x.depth; here = ways k x.depth ∙ swapped-kept I halve_cleft k x.depth e x.here d };
    halves = λ {k} x. record { depth = x.depth; here = ways k x.depth ∙ swapped_half I halve_cleft k x.depth x.here };
  }

  -- ── The page above ────────────────────────────────────────────────────────────────────────────────────────────

  pub inner-u : view.kind ≢ leaf_kind
  inner-u l =
      omega (arith, l, parent-kind, (shown-kind n W P page.view shows-P).0)

  other-u : u.child ≢ P.child
  other-u q =
      let e : u ≡ P = I.once H.parent node-P q in
      omega (arith, parent-kind, ap (λ (a : Place). (read W a.child).view.kind) e)

  above-built : (read W' u.child).built ≡ (read W u.child).built
  unfolding touch
  above-built = ap (λ (p : Page). p.built) H.at_above

  above-touched : (read W' u.child).touched ≡ c
  unfolding touch
  above-touched = ap (λ (p : Page). p.touched) H.at_above

  above-birth : (read W' u.child).birth ≡ (read W u.child).birth
  unfolding touch
  above-birth = ap (λ (p : Page). p.birth) H.at_above

  above-kind : (read W' u.child).view.kind ≡ view.kind
  unfolding touch twins put_child
  above-kind = ap (λ (p : Page). p.view.kind) H.at_above

  above-changed : (k : ℕ) (v : View) → Node n S k u → show n S u ≡ some v → Changed n S W' c Been k u v
  above-changed k v x s =
      record {
        found = found-above;
        kept = λ f. above-built ∙ kept f (I.old x s);
        mended = λ f. above-built ∙ mended f (I.old x s);
        touched = above-touched;
        kind = above-kind ∙ kinds;
        told = λ l. absurd (inner-u (kinds ∙ l));
        still = λ i. halve-goes.kept (node-same k H.parent r.0 r.1) other-u;
      }
    where
      r : (u.low ≤ k) × (k ≤ u.high)
      r = node-range x

      m : Kindred n S W W c Been I (all_written n S W) u v
      m = kindred n S W W c Been I (all_written n S W) k u v x s

      kinds : view.kind ≡ v.kind
      kinds = ap (λ (a : View). a.kind) (some-injective view m.view (sym shows-u ∙ m.shows)) ∙ m.kind

      kept : Found n S u → Old n S W c Been k u v → (read W u.child).built ≡ (read S u.child).built
      kept f (same h) = ap (λ (p : Page). p.built) h
      kept f (changed y) = y.kept f

      mended : Lost n S u → Old n S W c Been k u v → (read W u.child).built ≡ c
      mended f (same h) = absurd (false≢true (sym f ∙ found_as n W S u (sym h) H.stands))
      mended f (changed y) = y.mended f

  above-old : {k : ℕ} {o : Place} {v : View} → Node n S k o → show n S o ≡ some v → o.child ≡ u.child → Old n S W' c Been k o v
  above-old {k} {o} {v} x s q = go (I.node H.parent)
    where
      go : Node n S H.key u ⊎ New n S W c Been H.key u → Old n S W' c Been k o v
      go (inl a) =
          let e : o ≡ u = I.good.once x a q in
          changed (subst (λ (b : Place). Changed n S W' c Been k b v) (sym e)
          (above-changed k v (subst (Node n S k) e x) (sym (ap (show n S) e) ∙ s)))
      go (inr y) = absurd (y.no_child x q)

  above-node : {k : ℕ} {e : Place} → Node n W' k e → e.child ≡ u.child → Node n S k e ⊎ New n S W' c Been k e
  above-node {k} {e} x q = go (halve-goes.nodes x)
    where
      new : Node n S k u ⊎ New n S W c Been k u → Node n S k u ⊎ New n S W' c Been k u
      new (inl o) = inl o
      new (inr y) =
          inr (new-written W' y (gone_old I halve_cleft halve-goes y.stands (λ i d a. y.gone a)) found-above
          (above-built ∙ y.built) above-touched above-kind (λ l. absurd (inner-u (sym above-kind ∙ l))))

      go : Is n S W W' P L U u.child k e → Node n S k e ⊎ New n S W' c Been k e
      go (was z d) =
          let i : e ≡ u = I.once z H.parent q in
          subst (λ (a : Place). Node n S k a ⊎ New n S W' c Been k a) (sym i) (new (I.node (subst (Node n W k) i z)))
      go (half z h) = absurd (side-top I halve_cleft halve-goes k (sym (ap (λ (a : Place). a.child) h) ∙ q))
      go (raised r t f) = absurd (f.no_new H.parent refl)

  over : Over n S W' c Been u.child
  over = record {
    rooted = record {
      some_page = subst (λ (p : Place). 1 ≤ p.child) (sym H.root) I.rooted.some_page;
      in_table = subst (λ (p : Place). p.child < n) (sym H.root) I.rooted.in_table;
      previous_in = subst (λ (p : Place). p.previous < n) (sym H.root) I.rooted.previous_in;
    };
    birth =
        let p = node-page I.rooted H.parent in
        omega (arith, above-birth, I.births_now u.child p.0 p.1);
    old = above-old;
    node = above-node;
  }

  pub halve-inv : Inv n S W' c Been
  halve-inv = split-inv I halve_cleft halve-goes over

  pub halve-marks : {free waiting free' waiting' : ℕ → Bool} → Marks n S W free waiting
      → Retired c P L U u.child free waiting free' waiting' → free lower ≡ true → free upper ≡ true → Marks n S W' free' waiting'
  halve-marks {waiting = waiting} m r a b =
      split-marks I halve_cleft halve-goes m r (m.not_both a, m.not_both b, fails (waiting u.child) (λ h. m.waiting_new h H.parent refl))
