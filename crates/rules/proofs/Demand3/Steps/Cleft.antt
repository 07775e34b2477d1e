-- A split keeps the invariant and the marks, wherever the page above it stands: below a page with room, or as a new root.
-- What differs there is asked for as facts about the page above.
use Rattle.std.proofs.Common.{◌≡◌, ℕ, suc, ◌≤◌, Bool, true, false, ◌&&◌, eqb, ◌≢◌, ◌⊎◌, List, sym, refl, ap, ◌∙◌, subst, inl, inr, arith, eq-eqb, ne_eqb, eqb-true}
use mathlib.Core.Bool.{false≢true}
use mathlib.Core.Option.{Option, some, none, some-injective}
use borrow.Author.Tests.{eqb-false}
use Rattle.rules.specs.Layout.{leaf_kind}
use Rattle.rules.specs.Test.{mem}
use Rattle.rules.specs.Entry.{keys, find}
use Rattle.rules.specs.Page.{View, Page, is_leaf}
use Rattle.rules.specs.Table.{read}
use Rattle.rules.specs.Place.{root_place, show}
use Rattle.rules.specs.Walk.{Step}
use Rattle.rules.specs.Insert.{heirs, previous_of}
use Rattle.rules.specs.declared.Place.{Place}
use Rattle.rules.proofs.Demand3.Ways.Ways.{below, at, Node, Undamaged, source}
use Rattle.rules.proofs.Demand3.Ways.Invariant.{States, Old, same, changed, Asks, level, root, New, Inv}
use Rattle.rules.proofs.Entries.Views.{leaf_of-kind}
use Rattle.rules.proofs.Entries.Places.{Fits, fits_true, fits-of, Shown, fitting, lost, show-some}
use Rattle.rules.proofs.Demand3.Ways.Sources.{source-found, source_lost_lem, show-found, cut_view-kind, find-cut_view}
use Rattle.rules.proofs.Demand3.Ways.Kids.{shown-kind}
use Rattle.rules.proofs.Demand3.Mix.Mix.{found_as, Kindred, kindred}
use Rattle.rules.proofs.Demand3.Mix.Live.{live_told}
use Rattle.rules.proofs.Demand3.Epochs.Epochs.{all_written}
use Rattle.rules.proofs.Demand3.Steps.Sides.{Unused, step_at, Half, swap, swap_here, swap_other, swap_none, Swapped, stayed, swapped, unswap, side, side_ind, Cleft, side_half, cleft_step}

-- ── Whose previous page the halves name ─────────────────────────────────────────────────────────────────────────

pub previous-heirs : (c : ℕ) (s : Step) → s.page.view.kind ≡ leaf_kind → s.page.built ≡ c → previous_of c s ≡ s.place.previous
unfolding previous_of heirs
previous-heirs c s l b = rw (leaf_of-kind s.page.view l, eq-eqb s.page.built c b, previous_of, heirs)

pub previous_self : (c : ℕ) (s : Step) → s.page.built ≢ c → previous_of c s ≡ s.place.child
unfolding previous_of heirs
previous_self c s b = rw (ne_eqb s.page.built c b, previous_of, heirs) (go (is_leaf s.page.view))
  where
    go : (t : Bool) → elim (t && false) [ true ↦ s.place.previous | false ↦ s.place.child ] ≡ s.place.child
    go true = refl
    go false = refl

-- ── What a node is after a split ────────────────────────────────────────────────────────────────────────────────

module _ (n : ℕ) (S W W' : List ℕ) (P L U : Place) (top : ℕ) where
  -- it was one before, or is the half that holds k, or the new root
  pub data Is (k : ℕ) (e : Place) : Type 0 where
    was : Node n W k e → e.child ≢ P.child → Is k e
    half : Node n W k P → e ≡ side L U k → Is k e
    raised : e ≡ root_place W' → e.child ≡ top → Unused n S W top → Is k e

  pub record Goes : Type 0 where
    pub nodes : {k : ℕ} {e : Place} → Node n W' k e → Is k e
    pub kept : {k : ℕ} {e : Place} → Node n W k e → e.child ≢ P.child → Node n W' k e
    pub halves : {k : ℕ} → Node n W k P → Node n W' k (side L U k)

-- from a depth of W' where the way of k stands at a swapped place of W's way, it goes on so
module _ {n : ℕ} {S W W' : List ℕ} {c : ℕ} {Been : States} {P L U : Place} {top : ℕ}
    (I : Inv n S W c Been) (C : Cleft n S W W' c P L U top) where
  pub at_swap_below : (k i j : ℕ) → at n W' k j ≡ swap P (side L U k) (at n W k i)
      → at n W' k (suc j) ≡ swap P (side L U k) (at n W k (suc i))
  unfolding at below
  at_swap_below k i j h = ap (below n W' k) h ∙ go (at n W k i) refl
    where
      go : (from : Option Place) → at n W k i ≡ from
          → below n W' k (swap P (side L U k) from) ≡ swap P (side L U k) (below n W k from)
      go none q = ap (below n W' k) (swap_none P (side L U k)) ∙ sym (swap_none P (side L U k))
      go (some e) q = cleft_step I C k e (record { depth = i; here = q })

  -- what stands at a swapped place
  pub is-swapped : (k i : ℕ) (e : Place) → swap P (side L U k) (at n W k i) ≡ some e → Is n S W W' P L U top k e
  is-swapped k i e h = go (unswap P (side L U k) (at n W k i) e h)
    where
      go : Swapped P (side L U k) (at n W k i) e → Is n S W W' P L U top k e
      go (stayed q d) = was (record { depth = i; here = q }) d
      go (swapped d q p s) =
          half (subst (Node n W k) (I.once (record { depth = i; here = q }) C.node p) (record { depth = i; here = q })) s

  pub swapped-kept : (k i : ℕ) (e : Place) → at n W k i ≡ some e → e.child ≢ P.child
      → swap P (side L U k) (at n W k i) ≡ some e
  swapped-kept k i e h d = ap (swap P (side L U k)) h ∙ swap_other P (side L U k) e d

  pub swapped_half : (k i : ℕ) → at n W k i ≡ some P → swap P (side L U k) (at n W k i) ≡ some (side L U k)
  swapped_half k i h = ap (swap P (side L U k)) h ∙ swap_here P (side L U k) P refl

module _ {n : ℕ} {S W W' : List ℕ} {c : ℕ} {Been : States} {P L U : Place} {top : ℕ}
    (I : Inv n S W c Been) (C : Cleft n S W W' c P L U top) (G : Goes n S W W' P L U top) where
  abbrev Was : ℕ → Place → Type 0
  Was k e = Is n S W W' P L U top k e

  pub side-free : (k : ℕ) → Unused n S W (side L U k).child
  side-free k = side_ind L U (λ h. Unused n S W h.child) k C.free_lower C.free_upper

  pub side-top : (k : ℕ) → (side L U k).child ≢ top
  side-top k = side_ind L U (λ h. h.child ≢ top) k C.lower_top C.upper_top

  side-once : (k j : ℕ) → (side L U k).child ≡ (side L U j).child → side L U k ≡ side L U j
  side-once k j =
      side_ind L U (λ a. a.child ≡ (side L U j).child → a ≡ side L U j) k
      (side_ind L U (λ b. L.child ≡ b.child → L ≡ b) j (λ q. refl) (λ q. absurd (C.two q)))
      (side_ind L U (λ b. U.child ≡ b.child → U ≡ b) j (λ q. absurd (C.two (sym q))) (λ q. refl))

  -- P's child has left the tree
  pub gone-P : {j : ℕ} {e : Place} → Node n W' j e → e.child ≢ P.child
  gone-P {j} {e} x = go (G.nodes x)
    where
      go : Was j e → e.child ≢ P.child
      go (was y d) = d
      go (half y h) = λ q. (side-free j).no_new C.node (sym q ∙ ap (λ (p : Place). p.child) h)
      go (raised r t f) = λ q. f.no_new C.node (sym q ∙ t)

  -- and what had left it before has not come back
  pub gone_old : {k : ℕ} {o : Place} → Node n S k o → ((j : ℕ) (e : Place) → Node n W j e → e.child ≢ o.child)
      → (j : ℕ) (e : Place) → Node n W' j e → e.child ≢ o.child
  gone_old {k} {o} s f j e x = go (G.nodes x)
    where
      go : Was j e → e.child ≢ o.child
      go (was y d) = f j e y
      go (half y h) = λ q. (side-free j).no_old s (sym q ∙ ap (λ (p : Place). p.child) h)
      go (raised r t g) = λ q. g.no_old s (sym q ∙ t)

  pub once-split : {k j : ℕ} {a b : Place} → Node n W' k a → Node n W' j b → a.child ≡ b.child → a ≡ b
  once-split {k} {j} {a} {b} x y q = go (G.nodes x) (G.nodes y)
    where
      child : {d e : Place} → d ≡ e → d.child ≡ e.child
      child h = ap (λ (p : Place). p.child) h

      go : Was k a → Was j b → a ≡ b
      go (was u d) (was v e) = I.once u v q
      go (was u d) (half v e) = absurd ((side-free j).no_new u (q ∙ child e))
      go (was u d) (raised v e f) = absurd (f.no_new u (q ∙ e))
      go (half u d) (was v e) = absurd ((side-free k).no_new v (sym q ∙ child d))
      go (half u d) (half v e) = d ∙ (side-once k j (sym (child d) ∙ (q ∙ child e)) ∙ sym e)
      go (half u d) (raised v e f) = absurd (side-top k (sym (child d) ∙ (q ∙ e)))
      go (raised u d f) (was v e) = absurd (f.no_new v (sym q ∙ d))
      go (raised u d f) (half v e) = absurd (side-top j (sym (child e) ∙ (sym q ∙ d)))
      go (raised u d f) (raised v e g) = u ∙ sym v

  -- ── The halves are new ────────────────────────────────────────────────────────────────────────────────────────

  page : Page
  page = read W P.child

  shows-P : show n W P ≡ some page.view
  unfolding page
  shows-P = show-found n W P C.found

  -- what P's page says of k, its half says
  half_told : (k : ℕ) (h : Place) → Node n W k P → Half n W W' c P h → h.low ≤ k → k ≤ h.high
      → (read W' h.child).view.kind ≡ leaf_kind → Been k (find k (read W' h.child).view.certs)
  unfolding page
  half_told k h x y a b l =
      subst (Been k)
      (sym (ap (λ (v : View). find k v.certs) y.view ∙ find-cut_view h.low h.high k page.view a b))
      (live_told n S W W c Been I (all_written n S W) x shows-P
      (sym (ap (λ (v : View). v.kind) y.view ∙ cut_view-kind h.low h.high page.view) ∙ l))

  -- a node of S that stands behind P
  record Shade (k : ℕ) : Type 0 where
    shade : Place
    seen : View
    stands : Node n S k shade
    shows : show n S shade ≡ some seen
    lows : shade.low ≤ P.low
    highs : P.high ≤ shade.high
    gone : {j : ℕ} {e : Place} → Node n W' j e → e.child ≢ shade.child
    before : previous_of c (step_at W P) ≡ source n S shade
    kind : seen.kind ≡ page.view.kind
    inner : seen.kind ≢ leaf_kind → (P.high ≡ shade.high) × (seen ≡ page.view)

  half_new : (k : ℕ) (h : Place) → Node n W k P → Half n W W' c P h → Unused n S W h.child → h.low ≤ k → k ≤ h.high
      → Shade k → New n S W' c Been k h
  unfolding page
  half_new k h x y f a b s =
      record {
        born = y.born;
        found = y.found;
        built = y.built;
        touched = y.touched;
        no_child = f.no_old;
        no_previous = f.no_spared;
        shade = s.shade;
        seen = s.seen;
        stands = s.stands;
        shows = s.shows;
        lows = omega (arith, s.lows, y.lows);
        highs = omega (arith, s.highs, y.highs);
        gone = s.gone;
        before = y.before ∙ s.before;
        asks = level (y.want ∙ sym s.kind);
        cut_low = λ i. subst (λ (v : View). mem h.low (keys v.children) ≡ true) (sym (s.inner i).1)
            (y.cut_low (λ l. i (s.kind ∙ l)));
        cut_high = λ i. end (s.inner i) (y.cut_high (λ l. i (s.kind ∙ l)));
        told = half_told k h x y a b;
      }
    where
      end : (P.high ≡ s.shade.high) × (s.seen ≡ page.view)
          → (h.high ≡ P.high) ⊎ (mem (suc h.high) (keys page.view.children) ≡ true)
          → (h.high ≡ s.shade.high) ⊎ (mem (suc h.high) (keys s.seen.children) ≡ true)
      end q (inl e) = inl (e ∙ q.0)
      end q (inr m) =
          inr (subst (λ (v : View). mem (suc h.high) (keys v.children) ≡ true) (sym q.1) m)

  -- P is a stable node: it is the shade of its halves
  shade-old : (k : ℕ) → Node n W k P → Node n S k P → Shade k
  unfolding page
  shade-old k x o = go (eqb page.view.kind leaf_kind) refl (I.old o u.shows) (show-some n S P u.view u.shows)
    where
      u : Undamaged n S P
      u = I.good.whole o

      r : Kindred n S W W c Been I (all_written n S W) P u.view
      r = kindred n S W W c Been I (all_written n S W) k P u.view o u.shows

      kinds : u.view.kind ≡ page.view.kind
      kinds = sym r.kind ∙ ap (λ (v : View). v.kind) (some-injective r.view page.view (sym r.shows ∙ shows-P))

      of : previous_of c (step_at W P) ≡ source n S P → (u.view.kind ≢ leaf_kind → u.view ≡ page.view) → Shade k
      of b i =
          record {
            shade = P;
            seen = u.view;
            stands = o;
            shows = u.shows;
            lows = omega arith;
            highs = omega arith;
            gone = gone-P;
            before = b;
            kind = kinds;
            inner = λ j. (refl, i j);
          }

      -- built before this epoch: the halves name P
      self : Fits n P (read S P.child) → page.built ≡ (read S P.child).built → previous_of c (step_at W P) ≡ source n S P
      self f b =
          previous_self c (step_at W P)
          (λ q. omega (arith, I.built o (fits-of n P (read S P.child) f), b, q))
          ∙ sym (source-found n S P f)

      go : (t : Bool) → eqb page.view.kind leaf_kind ≡ t → Old n S W c Been k P u.view → Shown n S P u.view → Shade k
      go t q (same h) (fitting f v) =
          of (self f (ap (λ (p : Page). p.built) h)) (λ i. v ∙ ap (λ (p : Page). p.view) (sym h))
      go t q (same h) (lost f m v) = absurd (false≢true (sym f ∙ found_as n W S P (sym h) C.found))
      go true q (changed y) (fitting f v) =
          of (self f (y.kept (fits-of n P (read S P.child) f)))
          (λ i. absurd (i (kinds ∙ eqb-true page.view.kind leaf_kind q)))
      go true q (changed y) (lost f m v) =
          let l = eqb-true page.view.kind leaf_kind q in
          of (previous-heirs c (step_at W P) l (y.mended f) ∙ sym (source_lost_lem n S P f)) (λ i. absurd (i (kinds ∙ l)))
      go false q (changed y) z = absurd (C.late (eqb-false page.view.kind leaf_kind q) y.touched)

  -- P is new: its own shade serves its halves
  shade-new : (k : ℕ) → Node n W k P → New n S W c Been k P → Shade k
  unfolding page
  shade-new k x y = go (eqb page.view.kind leaf_kind) refl
    where
      tall : 1 ≤ y.seen.kind
      tall = (shown-kind n S y.shade y.seen y.shows).0

      kind-of : page.view.kind ≡ leaf_kind → Asks W P y.shade y.seen → (P.want ≡ 0) ⊎ (P.want ≡ page.view.kind)
          → y.seen.kind ≡ page.view.kind
      kind-of l (level a) (inl z) = absurd (omega (arith, tall, a, z))
      kind-of l (level a) (inr z) = sym a ∙ z
      kind-of l (root a z u) w = absurd (omega (arith, tall, u, l))

      go : (t : Bool) → eqb page.view.kind leaf_kind ≡ t → Shade k
      go false q = absurd (C.late (eqb-false page.view.kind leaf_kind q) y.touched)
      go true q =
          let l = eqb-true page.view.kind leaf_kind q in
          let e = kind-of l y.asks (fits_true n P page C.found).kind in
          record {
            shade = y.shade;
            seen = y.seen;
            stands = y.stands;
            shows = y.shows;
            lows = y.lows;
            highs = y.highs;
            gone = λ {j} {e} z. gone_old y.stands (λ i d a. y.gone a) j e z;
            before = previous-heirs c (step_at W P) l y.built ∙ y.before;
            kind = e;
            inner = λ i. absurd (i (e ∙ l));
          }

  pub side-new : (k : ℕ) → Node n W k P → New n S W' c Been k (side L U k)
  side-new k x =
      let s = side_half I C k x in
      half_new k (side L U k) x s.0 (side-free k) s.1 s.2 (go (I.node x))
    where
      go : Node n S k P ⊎ New n S W c Been k P → Shade k
      go (inl o) = shade-old k x o
      go (inr y) = shade-new k x y
