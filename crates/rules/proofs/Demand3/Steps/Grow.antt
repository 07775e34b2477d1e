-- A full root is split: a new root, one kind higher, stands over its two halves. The invariant and the marks are kept.
use Rattle.std.proofs.Common.{◌≡◌, ℕ, zero, suc, ◌-◌, ◌<◌, ◌≤◌, Bool, true, false, eqb, ltb, ◌≢◌, ◌⊎◌, List, [], ◌∷◌, sym, refl, ap, ◌∙◌, subst, inl, inr, arith, ltb-false, ltb-true, eq-eqb, ne_eqb, eqb-true}
use mathlib.Core.Bool.{false≢true}
use mathlib.Core.Option.{some, none, some-injective}
use borrow.Author.Tests.{eqb-false}
use Rattle.rules.specs.Layout.{leaf_kind, top_kind, last_key}
use Rattle.rules.specs.Test.{between, mem}
use Rattle.rules.specs.Entry.{Child, keys}
use Rattle.rules.specs.Page.{View, Page, fresh, touch}
use Rattle.rules.specs.Table.{read}
use Rattle.rules.specs.Place.{root_place, places_in, kids, pick, fits, show}
use Rattle.rules.specs.Walk.{Step}
use Rattle.rules.specs.Insert.{full, divide, previous_of, lower_page, upper_page, new_child, put_child, twins, root_over, root_previous}
use Rattle.rules.specs.declared.Place.{Place}
use Rattle.rules.proofs.Entries.Tests.{between-high}
use Rattle.rules.proofs.Demand3.Ways.Ways.{below, at, Node, Found, Undamaged, source}
use Rattle.rules.proofs.Demand3.Ways.Invariant.{States, Old, same, changed, Asks, level, root, New, Inv, Marks}
use Rattle.rules.proofs.Entries.Views.{inner-of-kind}
use Rattle.rules.proofs.Entries.Sounds.{Sound, starts-mem}
use Rattle.rules.proofs.Entries.Places.{Fits, fits_true, fits-of, Shown, fitting, lost, show-some, shown-sound}
use Rattle.rules.proofs.Demand3.Ways.Sources.{source-found, source_lost_lem, show-found}
use Rattle.rules.proofs.Entries.Halves.{Divided}
use Rattle.rules.proofs.Entries.Picks.{place_for, below_of, pick-here, pick-later, pick-nil}
use Rattle.rules.proofs.Entries.Asks.{kids-rising, kids-pick}
use Rattle.rules.proofs.Entries.Twins.{twinned, Twin, twin-pick-lower, twin-pick-upper, kids-twins, kids-root_over}
use Rattle.rules.proofs.Demand3.Ways.Kids.{shown-kind, kid-want}
use Rattle.rules.proofs.Demand3.Ways.Nodes.{at_root_lem, node-root, node-range, node-below}
use Rattle.rules.proofs.Demand3.Mix.Mix.{found_as, Kindred, kindred}
use Rattle.rules.proofs.Demand3.Epochs.Epochs.{all_written}
use Rattle.rules.proofs.Demand3.Steps.Touch.{under_some}
use Rattle.rules.proofs.Demand3.Steps.Sides.{Unused, step_at, swap, swap_here, swap_none, side, side-lower, side-upper, Cleft}
use Rattle.rules.proofs.Demand3.Steps.Cleft.{Is, was, half, raised, Goes, at_swap_below, is-swapped, swapped-kept, swapped_half, side-top, gone-P}
use Rattle.rules.proofs.Demand3.Steps.Split.{Over, split-inv, Retired, split-marks}
use Rattle.rules.proofs.Demand3.Steps.Parts.{lower_of, upper_of, parts, lower_half_lem, upper_half_lem, raised_root, root-range, root-low, root-high, root-want, root_names, over-sound, root-fits}

-- the full root at P is split into the pages lower and upper, under a root on the page new
pub record Growing (n : ℕ) (S W W' : List ℕ) (c : ℕ) (P : Place) (lower upper new : ℕ) : Type 0 where
  pub is_root : root_place W ≡ P
  pub found : Found n W P
  pub fills : full (read W P.child).view ≡ true
  pub short : (read W P.child).view.kind < top_kind
  pub late : (read W P.child).view.kind ≢ leaf_kind → (read W P.child).touched ≢ c
  pub lower_page_lem : (1 ≤ lower) × (lower < n)
  pub upper_page_lem : (1 ≤ upper) × (upper < n)
  pub new_page : (1 ≤ new) × (new < n)
  pub free_lower : Unused n S W lower
  pub free_upper : Unused n S W upper
  pub free_new : Unused n S W new
  pub two : lower ≢ upper
  pub lower_new : lower ≢ new
  pub upper_new : upper ≢ new
  pub at_lower : read W' lower ≡ lower_page c (read W P.child)
  pub at_upper : read W' upper ≡ upper_page c (read W P.child)
  pub at_new : read W' new
      ≡ touch c (twins c (step_at W P) lower upper (root_over (step_at W P))) (fresh c c 0 last_key (root_over (step_at W P)))
  pub others : (i : ℕ) → 1 ≤ i → i ≢ lower → i ≢ upper → i ≢ new → read W' i ≡ read W i
  pub root_now : root_place W' ≡ raised_root c W P new

pub root_previous-kept : (c : ℕ) (s : Step) → s.page.built ≡ c → root_previous c s ≡ s.place.previous
unfolding root_previous
root_previous-kept c s b = rw (eq-eqb s.page.built c b, root_previous)

pub root_previous_self : (c : ℕ) (s : Step) → s.page.built ≢ c → root_previous c s ≡ s.place.child
unfolding root_previous
root_previous_self c s b = rw (ne_eqb s.page.built c b, root_previous)

pub root_previous-below : (n c : ℕ) (s : Step) → s.place.previous < n → s.place.child < n → root_previous c s < n
root_previous-below n c s p q = go (eqb s.page.built c) refl
  where
    go : (b : Bool) → eqb s.page.built c ≡ b → root_previous c s < n
    go true h = subst (λ (i : ℕ). i < n) (sym (root_previous-kept c s (eqb-true s.page.built c h))) p
    go false h = subst (λ (i : ℕ). i < n) (sym (root_previous_self c s (eqb-false s.page.built c h))) q

module _ {n : ℕ} {S W W' : List ℕ} {c : ℕ} {Been : States} {P : Place} {lower upper new : ℕ}
    (I : Inv n S W c Been) (H : Growing n S W W' c P lower upper new) where
  abbrev page : Page
  page = read W P.child

  abbrev L : Place
  L = lower_of c W P (read W P.child).view.kind lower

  abbrev U : Place
  U = upper_of c W P (read W P.child).view.kind upper

  abbrev R : Place
  R = raised_root c W P new

  abbrev above : View
  above = twins c (step_at W P) lower upper (root_over (step_at W P))

  low-P : P.low ≡ 0
  low-P = root-low I.rooted H.is_root

  high-P : P.high ≡ last_key
  high-P = root-high I.rooted H.is_root

  want-P : P.want ≡ 0
  want-P = root-want I.rooted H.is_root

  names : (1 ≤ P.child) × (P.child < n) × (P.previous < n)
  names = root_names I.rooted H.is_root

  node-P : (k : ℕ) → k ≤ last_key → Node n W k P
  node-P k h = subst (Node n W k) H.is_root (node-root n W k h)

  shows-P : show n W P ≡ some page.view
  shows-P = show-found n W P H.found

  tall : 1 ≤ page.view.kind
  tall = (shown-kind n W P page.view shows-P).0

  split : Divided P.low P.high page.view
  split = parts n W P H.found H.fills

  -- no page leads to the root
  only-top : {k : ℕ} {e : Place} {v : View} {d : Place}
      → Node n W k e → show n W e ≡ some v → pick k (kids e v) ≡ some d → d.child ≡ P.child → e.child ≡ new
  only-top {k} {e} {v} {d} x s p q =
      let i : d ≡ P = I.once (node-below v d x s p) (node-P 0 (omega arith)) q in
      absurd (omega (arith, (kid-want n W e v s k d p).0, ap (λ (a : Place). a.want) i, want-P))

  pub grow_cleft : Cleft n S W W' c P L U new
  grow_cleft = record {
    key = 0;
    node = node-P 0 (omega arith);
    found = H.found;
    late = H.late;
    lower = lower_half_lem n W P H.found H.fills W' c page.view.kind lower refl H.at_lower;
    upper = upper_half_lem n W P H.found H.fills W' c page.view.kind upper refl H.at_upper;
    from = refl;
    to = refl;
    meet = omega (arith, split.above);
    free_lower = H.free_lower;
    free_upper = H.free_upper;
    two = H.two;
    lower_top = H.lower_new;
    upper_top = H.upper_new;
    others = H.others;
    only = only-top;
    leads = λ x q d. absurd (H.free_new.no_new x q);
    spares = H.free_new.no_spared;
  }

  -- ── The new root ──────────────────────────────────────────────────────────────────────────────────────────────

  -- the old root's place, as the new root first asks for it
  lone : Place
  lone = place_for page.view.kind P.low last_key (below_of P)

  sound-R : Sound n R.low R.high (root_over (step_at W P))
  sound-R = over-sound I.rooted H.is_root H.short

  first : Child
  first = new_child c page.low lower (previous_of c (step_at W P))

  second : Child
  second = new_child c (divide page.view) upper (previous_of c (step_at W P))

  twin : Twin ((root_over (step_at W P)).kind - 1) last_key (root_over (step_at W P)).children lone first second
  unfolding lone first second new_child
  twin = record {
    order = kids-rising R sound-R;
    kid = kids-pick R sound-R 0 lone
        (ap (pick 0) (kids-root_over R (step_at W P)) ∙ pick-here 0 lone [] (omega (arith, low-P)) (omega arith));
    same = (fits_true n P page H.found).low;
    up = split.above;
    to = omega (arith, split.within, high-P);
  }

  found-R : Found n W' R
  found-R =
      ap (fits n R) H.at_new
      ∙ fits-of n R _
      (root-fits I.rooted H.is_root c lower upper new H.found H.fills H.short
      H.lower_page_lem.0 H.lower_page_lem.1 H.upper_page_lem.0 H.upper_page_lem.1)

  shows-R : show n W' R ≡ some above
  unfolding touch
  shows-R = show-found n W' R found-R ∙ ap some (ap (λ (p : Page). p.view) H.at_new)

  pick-R : (k : ℕ) → k ≤ last_key → pick k (kids R above) ≡ some (side L U k)
  unfolding lone first second new_child
  pick-R k b = ap (pick k) (kids-twins R c (step_at W P) lower upper (root_over (step_at W P))) ∙ go (ltb k (divide page.view)) refl
    where
      go : (t : Bool) → ltb k (divide page.view) ≡ t
          → pick k (places_in ((root_over (step_at W P)).kind - 1) last_key (twinned first second (root_over (step_at W P)).children))
          ≡ some (side L U k)
      go true q =
          twin-pick-lower twin k (omega (arith, low-P)) (ltb-true k (divide page.view) q)
          ∙ ap some (sym (side-lower L U k q))
      go false q =
          twin-pick-upper twin k (ltb-false k (divide page.view) q) b
          ∙ ap some (ap (λ (h : ℕ). place_for page.view.kind (divide page.view) h (below_of U)) (sym high-P) ∙ sym (side-upper L U k q))

  -- ── Ways, one step longer ─────────────────────────────────────────────────────────────────────────────────────

  start : (k : ℕ) → k ≤ last_key → at n W' k 0 ≡ some R
  unfolding at
  start k h = ap (λ (p : Place). pick k (p ∷ [])) H.root_now ∙ pick-here k R [] (omega arith) h

  start-before : (k : ℕ) → k ≤ last_key → at n W k 0 ≡ some P
  unfolding at
  start-before k h =
      ap (λ (p : Place). pick k (p ∷ [])) H.is_root ∙ pick-here k P [] (omega (arith, low-P)) (omega (arith, high-P))

  nowhere : (k : ℕ) (r : Place) → between r.low r.high k ≡ false → pick k (r ∷ []) ≡ none
  nowhere k r h = pick-later k r [] h ∙ pick-nil k

  ways : (k i : ℕ) → at n W' k (suc i) ≡ swap P (side L U k) (at n W k i)
  unfolding at below
  ways k zero = go (between 0 last_key k) refl
    where
      go : (b : Bool) → between 0 last_key k ≡ b → at n W' k 1 ≡ swap P (side L U k) (at n W k 0)
      go true q =
          let h = between-high 0 last_key k q in
          ap (below n W' k) (start k h)
          ∙ (under_some k R above (show n W' R) shows-R
          ∙ (pick-R k h ∙ (sym (swap_here P (side L U k) P refl) ∙ ap (swap P (side L U k)) (sym (start-before k h)))))
      go false q =
          ap (below n W' k) (ap (λ (p : Place). pick k (p ∷ [])) H.root_now ∙ nowhere k R q)
          ∙ (sym (swap_none P (side L U k)) ∙ ap (swap P (side L U k)) (sym (nowhere k (root_place W) (out q))))
        where
          out : between 0 last_key k ≡ false → between (root_place W).low (root_place W).high k ≡ false
          out q =
              ap (λ (l : ℕ). between l (root_place W).high k) (root-range W).0
              ∙ (ap (λ (h : ℕ). between 0 h k) (root-range W).1 ∙ q)
  ways k (suc i) = at_swap_below I grow_cleft k i (suc i) (ways k i)

  pub grow-goes : Goes n S W W' P L U new
  grow-goes = record {
    nodes = λ {k} {e} x. nodes k e x.depth x.here;
    kept = λ {k} {e} x d. record { depth = suc x.depth; here = ways k x.depth ∙ swapped-kept I grow_cleft k x.depth e x.here d };
    halves = λ {k} x. record { depth = suc x.depth; here = ways k x.depth ∙ swapped_half I grow_cleft k x.depth x.here };
  }
    where
      nodes : (k : ℕ) (e : Place) (i : ℕ) → at n W' k i ≡ some e → Is n S W W' P L U new k e
      nodes k e zero h =
          let q : root_place W' ≡ e = at_root_lem n W' k e h in
          raised (sym q) (sym (ap (λ (p : Place). p.child) (sym H.root_now ∙ q))) H.free_new
      nodes k e (suc i) h = is-swapped I grow_cleft k i e (sym (ways k i) ∙ h)

  -- ── The new root is new ───────────────────────────────────────────────────────────────────────────────────────

  root-kind : (read W' new).view.kind ≡ suc page.view.kind
  unfolding touch twins put_child root_over
  root-kind = ap (λ (p : Page). p.view.kind) H.at_new ∙ omega arith

  -- a root that is new itself is inner, and was touched
  old-root : (k : ℕ) → k ≤ last_key → Node n S k P
  old-root k h = go (I.node (node-P k h))
    where
      no_new : (y : New n S W c Been k P) → Asks W P y.shade y.seen → 1 ≤ y.seen.kind → ⊥
      no_new y (level a) t = omega (arith, t, a, want-P)
      no_new y (root a z u) t = H.late (λ l. omega (arith, t, u, l)) y.touched

      go : Node n S k P ⊎ New n S W c Been k P → Node n S k P
      go (inl o) = o
      go (inr y) = absurd (no_new y y.asks (shown-kind n S y.shade y.seen y.shows).0)

  root_before : (k : ℕ) (v : View) → Node n S k P → show n S P ≡ some v → root_previous c (step_at W P) ≡ source n S P
  root_before k v o s = go (I.old o s) (show-some n S P v s)
    where
      self : Fits n P (read S P.child) → page.built ≡ (read S P.child).built → root_previous c (step_at W P) ≡ source n S P
      self f b =
          root_previous_self c (step_at W P) (λ q. omega (arith, I.built o (fits-of n P (read S P.child) f), b, q))
          ∙ sym (source-found n S P f)

      go : Old n S W c Been k P v → Shown n S P v → root_previous c (step_at W P) ≡ source n S P
      go (same h) (fitting f q) = self f (ap (λ (p : Page). p.built) h)
      go (same h) (lost f m q) = absurd (false≢true (sym f ∙ found_as n W S P (sym h) H.found))
      go (changed y) (fitting f q) = self f (y.kept (fits-of n P (read S P.child) f))
      go (changed y) (lost f m q) = root_previous-kept c (step_at W P) (y.mended f) ∙ sym (source_lost_lem n S P f)

  root-new : (k : ℕ) → k ≤ last_key → New n S W' c Been k R
  unfolding touch fresh
  root-new k h =
      record {
        born = refl;
        found = found-R;
        built = ap (λ (p : Page). p.built) H.at_new;
        touched = ap (λ (p : Page). p.touched) H.at_new;
        no_child = H.free_new.no_old;
        no_previous = H.free_new.no_spared;
        shade = P;
        seen = u.view;
        stands = o;
        shows = u.shows;
        lows = omega (arith, low-P);
        highs = omega (arith, high-P);
        gone = gone-P I grow_cleft grow-goes;
        before = root_before k u.view o u.shows;
        asks = root refl want-P (root-kind ∙ ap suc (sym kinds));
        cut_low = λ i. subst (λ (j : ℕ). mem j (keys u.view.children) ≡ true) low-P
            (starts-mem P.low u.view.children (sounds.starts (inner-of-kind u.view i)));
        cut_high = λ i. inl (sym high-P);
        told = λ l. absurd (omega (arith, l, root-kind, tall));
      }
    where
      o : Node n S k P
      o = old-root k h

      u : Undamaged n S P
      u = I.good.whole o

      sounds : Sound n P.low P.high u.view
      sounds = shown-sound (omega (arith, low-P)) (show-some n S P u.view u.shows)

      m : Kindred n S W W c Been I (all_written n S W) P u.view
      m = kindred n S W W c Been I (all_written n S W) k P u.view o u.shows

      kinds : u.view.kind ≡ page.view.kind
      kinds = sym m.kind ∙ ap (λ (v : View). v.kind) (some-injective m.view page.view (sym m.shows ∙ shows-P))

  root-node : {k : ℕ} {e : Place} → Node n W' k e → e.child ≡ new → Node n S k e ⊎ New n S W' c Been k e
  root-node {k} {e} x q = go (grow-goes.nodes x)
    where
      go : Is n S W W' P L U new k e → Node n S k e ⊎ New n S W' c Been k e
      go (was z d) = absurd (H.free_new.no_new z q)
      go (half z h) = absurd (side-top I grow_cleft grow-goes k (sym (ap (λ (a : Place). a.child) h) ∙ q))
      go (raised r t f) =
          let i : e ≡ R = r ∙ H.root_now in
          inr (subst (New n S W' c Been k) (sym i)
          (root-new k (subst (λ (a : Place). k ≤ a.high) i (node-range x).1)))

  over : Over n S W' c Been new
  unfolding touch fresh
  over = record {
    rooted = record {
      some_page = subst (λ (p : Place). 1 ≤ p.child) (sym H.root_now) H.new_page.0;
      in_table = subst (λ (p : Place). p.child < n) (sym H.root_now) H.new_page.1;
      previous_in = subst (λ (p : Place). p.previous < n) (sym H.root_now) (root_previous-below n c (step_at W P) names.2 names.1);
    };
    birth = omega (arith, ap (λ (p : Page). p.birth) H.at_new);
    old = λ x s q. absurd (H.free_new.no_old x q);
    node = root-node;
  }

  pub grow-inv : Inv n S W' c Been
  grow-inv = split-inv I grow_cleft grow-goes over

  pub grow-marks : {free waiting free' waiting' : ℕ → Bool} → Marks n S W free waiting
      → Retired c P L U new free waiting free' waiting' → free lower ≡ true → free upper ≡ true → free new ≡ true
      → Marks n S W' free' waiting'
  grow-marks m r a b d = split-marks I grow_cleft grow-goes m r (m.not_both a, m.not_both b, m.not_both d)
