-- One place of the working tree gives way to two that share its range, and the entry above it becomes two. Where a way met
-- the place it now meets one of the two halves; it goes on below as before. Splits below a page with room and root splits
-- have this in common.
use Rattle.std.proofs.Common.{◌≡◌, ℕ, suc, ◌≤◌, Bool, true, false, eqb, ltb, ◌≢◌, ◌⊎◌, List, sym, refl, ap, ◌∙◌, subst, inl, inr, arith, ltb-false, ltb-true, eq-eqb, ne_eqb, eqb-true}
use mathlib.Core.Bool.{false≢true}
use mathlib.Core.Option.{Option, some, none, none-ne-some, some-injective}
use borrow.Author.Tests.{eqb-false}
use Rattle.rules.specs.Layout.{leaf_kind}
use Rattle.rules.specs.Test.{mem}
use Rattle.rules.specs.Entry.{keys}
use Rattle.rules.specs.Page.{View}
use Rattle.rules.specs.Table.{read}
use Rattle.rules.specs.Place.{kids, pick, cut_view, show}
use Rattle.rules.specs.Walk.{Step}
use Rattle.rules.specs.Insert.{previous_of}
use Rattle.rules.specs.declared.Place.{Place}
use Rattle.rules.proofs.Demand3.Ways.Ways.{under, below, Node, Found, Lost, Undamaged}
use Rattle.rules.proofs.Demand3.Ways.Invariant.{States, New, Inv}
use Rattle.rules.proofs.Entries.Places.{fits-of, Shown, fitting, lost, show-some}
use Rattle.rules.proofs.Demand3.Ways.Sources.{show-found, cut_view-kind}
use Rattle.rules.proofs.Demand3.Ways.Kids.{leaf_kids, kids-cut}
use Rattle.rules.proofs.Demand3.Ways.Nodes.{node-page, node-range, node-below, kid-kind}
use Rattle.rules.proofs.Demand3.Mix.Mix.{show_as}
use Rattle.rules.proofs.Demand3.Mix.MixTheorem.{lost-before}
use Rattle.rules.proofs.Demand3.Epochs.Epochs.{all_written, working-good}
use Rattle.rules.proofs.Demand3.Steps.Touch.{under_some}

-- ── The halves ──────────────────────────────────────────────────────────────────────────────────────────────────

-- a page that nothing names: no child in S or W, and no lost node of S is shown from it
pub record Unused (n : ℕ) (S W : List ℕ) (i : ℕ) : Type 0 where
  pub no_old : {k : ℕ} {o : Place} → Node n S k o → o.child ≢ i
  pub no_new : {k : ℕ} {w : Place} → Node n W k w → w.child ≢ i
  pub no_spared : {k : ℕ} {o : Place} → Node n S k o → Lost n S o → o.previous ≢ i

-- the place and page of a step of a way
abbrev pub step_at : List ℕ → Place → Step
step_at W P = record { place = P; page = read W P.child }

-- h asks for a part of what P's page holds, and that part was built for it
pub record Half (n : ℕ) (W W' : List ℕ) (c : ℕ) (P h : Place) : Type 0 where
  pub born : h.birth ≡ c
  pub before : h.previous ≡ previous_of c (step_at W P)
  pub want : h.want ≡ (read W P.child).view.kind
  pub lows : P.low ≤ h.low
  pub highs : h.high ≤ P.high
  pub found : Found n W' h
  pub built : (read W' h.child).built ≡ c
  pub touched : (read W' h.child).touched ≡ c
  pub view : (read W' h.child).view ≡ cut_view h.low h.high (read W P.child).view
  -- an inner page is cut between its entries
  pub cut_low : (read W P.child).view.kind ≢ leaf_kind → mem h.low (keys (read W P.child).view.children) ≡ true
  pub cut_high : (read W P.child).view.kind ≢ leaf_kind
      → (h.high ≡ P.high) ⊎ (mem (suc h.high) (keys (read W P.child).view.children) ≡ true)

-- ── One place for another ───────────────────────────────────────────────────────────────────────────────────────

-- h wherever a place has P's child
unfoldable pub swap : Place → Place → Option Place → Option Place
swap P h none = none
swap P h (some e) = elim (eqb e.child P.child) [ true ↦ some h | false ↦ some e ]

pub swap_here : (P h e : Place) → e.child ≡ P.child → swap P h (some e) ≡ some h
unfolding swap
swap_here P h e q = rw (eq-eqb e.child P.child q, swap)

pub swap_other : (P h e : Place) → e.child ≢ P.child → swap P h (some e) ≡ some e
unfolding swap
swap_other P h e q = rw (ne_eqb e.child P.child q, swap)

pub swap_none : (P h : Place) → swap P h none ≡ none
unfolding swap
swap_none P h = refl

-- nothing is swapped where nothing has P's child
pub swap_nothing : (P h : Place) (from : Option Place) → ((d : Place) → from ≡ some d → d.child ≢ P.child) → swap P h from ≡ from
swap_nothing P h none f = swap_none P h
swap_nothing P h (some e) f = swap_other P h e (f e refl)

-- where a swapped place came from
pub data Swapped (P h : Place) (from : Option Place) (e : Place) : Type 0 where
  stayed : from ≡ some e → e.child ≢ P.child → Swapped P h from e
  swapped : (d : Place) → from ≡ some d → d.child ≡ P.child → e ≡ h → Swapped P h from e

pub unswap : (P h : Place) (from : Option Place) (e : Place) → swap P h from ≡ some e → Swapped P h from e
unswap P h none e q = absurd (none-ne-some e (sym (swap_none P h) ∙ q))
unswap P h (some d) e q = go (eqb d.child P.child) refl
  where
    go : (b : Bool) → eqb d.child P.child ≡ b → Swapped P h (some d) e
    go true t =
        let s = eqb-true d.child P.child t in
        swapped d refl s (some-injective e h (sym q ∙ swap_here P h d s))
    go false t =
        let s = eqb-false d.child P.child t in
        let i : d ≡ e = some-injective d e (sym (swap_other P h d s) ∙ q) in
        stayed (ap some i) (subst (λ (p : Place). p.child ≢ P.child) i s)

-- the half that holds k
unfoldable pub side : Place → Place → ℕ → Place
side L U k = elim (ltb k U.low) [ true ↦ L | false ↦ U ]

pub side-lower : (L U : Place) (k : ℕ) → ltb k U.low ≡ true → side L U k ≡ L
unfolding side
side-lower L U k h = rw (h, side)

pub side-upper : (L U : Place) (k : ℕ) → ltb k U.low ≡ false → side L U k ≡ U
unfolding side
side-upper L U k h = rw (h, side)

-- what both halves have, the one that holds k has
pub side_ind : (L U : Place) (F : Place → Type 0) (k : ℕ) → F L → F U → F (side L U k)
unfolding side
side_ind L U F k l u = go (ltb k U.low)
  where
    go : (b : Bool) → F (elim b [ true ↦ L | false ↦ U ])
    go true = l
    go false = u

-- ── The tree after a split ──────────────────────────────────────────────────────────────────────────────────────

-- P gives way to L and U; the page above, whose number is top, is written too
pub record Cleft (n : ℕ) (S W W' : List ℕ) (c : ℕ) (P L U : Place) (top : ℕ) : Type 0 where
  pub key : ℕ
  pub node : Node n W key P
  pub found : Found n W P
  -- an inner page that is split was not touched since the last sync or opening
  pub late : (read W P.child).view.kind ≢ leaf_kind → (read W P.child).touched ≢ c
  pub lower : Half n W W' c P L
  pub upper : Half n W W' c P U
  pub from : L.low ≡ P.low
  pub to : U.high ≡ P.high
  pub meet : suc L.high ≡ U.low
  pub free_lower : Unused n S W L.child
  pub free_upper : Unused n S W U.child
  pub two : L.child ≢ U.child
  pub lower_top : L.child ≢ top
  pub upper_top : U.child ≢ top
  pub others : (i : ℕ) → 1 ≤ i → i ≢ L.child → i ≢ U.child → i ≢ top → read W' i ≡ read W i
  -- only the page above leads to P, and now it leads to the halves
  pub only : {k : ℕ} {e : Place} {v : View} {d : Place}
      → Node n W k e → show n W e ≡ some v → pick k (kids e v) ≡ some d → d.child ≡ P.child → e.child ≡ top
  pub leads : {k : ℕ} {e : Place} → Node n W k e → e.child ≡ top → e.child ≢ P.child
      → under k e (show n W' e) ≡ swap P (side L U k) (under k e (show n W e))
  -- no lost node of S is shown from the page above
  pub spares : {k : ℕ} {o : Place} → Node n S k o → Lost n S o → o.previous ≢ top

module _ {n : ℕ} {S W W' : List ℕ} {c : ℕ} {Been : States} {P L U : Place} {top : ℕ}
    (I : Inv n S W c Been) (C : Cleft n S W W' c P L U top) where
  page : View
  page = (read W P.child).view

  shows-P : show n W P ≡ some page
  unfolding page
  shows-P = show-found n W P C.found

  -- a half leads on as P does
  pub half_leads : (k : ℕ) (h : Place) → Half n W W' c P h → h.low ≤ k → k ≤ h.high → under k h (show n W' h) ≡ under k P (show n W P)
  unfolding page
  half_leads k h x a b =
      under_some k h (cut_view h.low h.high page) (show n W' h) there
      ∙ (go (eqb page.kind leaf_kind) refl ∙ sym (under_some k P page (show n W P) shows-P))
    where
      there : show n W' h ≡ some (cut_view h.low h.high page)
      there = show-found n W' h x.found ∙ ap some x.view

      go : (t : Bool) → eqb page.kind leaf_kind ≡ t → pick k (kids h (cut_view h.low h.high page)) ≡ pick k (kids P page)
      go true q =
          let l = eqb-true page.kind leaf_kind q in
          ap (pick k)
          (leaf_kids n W' h (cut_view h.low h.high page) there (cut_view-kind h.low h.high page ∙ l)
          ∙ sym (leaf_kids n W P page shows-P l))
      go false q =
          let i = eqb-false page.kind leaf_kind q in
          kids-cut n W P page shows-P h k x.highs a b (x.cut_low i) (x.cut_high i)

  -- the half of a key of P's range holds it
  pub side_half : (k : ℕ) → Node n W k P → Half n W W' c P (side L U k) × ((side L U k).low ≤ k) × (k ≤ (side L U k).high)
  side_half k x = go (ltb k U.low) refl
    where
      r : (P.low ≤ k) × (k ≤ P.high)
      r = node-range x

      Goal : Place → Type 0
      Goal h = Half n W W' c P h × (h.low ≤ k) × (k ≤ h.high)

      go : (b : Bool) → ltb k U.low ≡ b → Goal (side L U k)
      go true q =
          subst Goal (sym (side-lower L U k q))
          (C.lower, omega (arith, C.from, r.0), omega (arith, C.meet, ltb-true k U.low q))
      go false q =
          subst Goal (sym (side-upper L U k q)) (C.upper, ltb-false k U.low q, omega (arith, C.to, r.1))

  -- no kid of P has P's child
  kids-P : (k : ℕ) → Node n W k P → (d : Place) → under k P (show n W P) ≡ some d → d.child ≢ P.child
  kids-P k x d h q =
      let p = sym (under_some k P page (show n W P) shows-P) ∙ h in
      let y : Node n W k d = node-below page d x shows-P p in
      let e : d ≡ P = I.once y x q in
      omega (arith, kid-kind n W P page shows-P k d p page (ap (show n W) e ∙ shows-P))

  -- a node that is neither P nor above it shows what it showed
  pub cleft_shows : {k : ℕ} {e : Place} → Node n W k e → e.child ≢ top → show n W' e ≡ show n W e
  cleft_shows {k} {e} x d = show_as n W W' e u.view u.shows child previous ∙ sym u.shows
    where
      u : Undamaged n W e
      u = (working-good I).whole x

      child : read W' e.child ≡ read W e.child
      child =
          C.others e.child (node-page I.rooted x).0 (C.free_lower.no_new x) (C.free_upper.no_new x) d

      -- what is lost in W is lost in S
      stable : Lost n W e → Node n S k e ⊎ New n S W c Been k e → Node n S k e × Lost n S e
      stable l (inl o) = (o, lost-before n S W W c Been I (all_written n S W) k e o l)
      stable l (inr y) = absurd (false≢true (sym l ∙ y.found))

      go : Lost n W e → Shown n W e u.view → read W' e.previous ≡ read W e.previous
      go l (fitting f q) = absurd (false≢true (sym l ∙ fits-of n e (read W e.child) f))
      go l (lost f m q) =
          let o = stable l (I.node x) in
          C.others e.previous m.from (C.free_lower.no_spared o.0 o.1) (C.free_upper.no_spared o.0 o.1) (C.spares o.0 o.1)

      previous : Lost n W e → read W' e.previous ≡ read W e.previous
      previous l = go l (show-some n W e u.view u.shows)

  -- one step down from a swapped place is one step down, swapped
  pub cleft_step : (k : ℕ) (e : Place) → Node n W k e
      → below n W' k (swap P (side L U k) (some e)) ≡ swap P (side L U k) (below n W k (some e))
  unfolding below
  cleft_step k e x = go (eqb e.child P.child) refl
    where
      h : Place
      h = side L U k

      here : Node n W k P → below n W' k (some h) ≡ swap P h (under k P (show n W P))
      here y =
          let s = side_half k y in
          half_leads k h s.0 s.1 s.2 ∙ sym (swap_nothing P h (under k P (show n W P)) (kids-P k y))

      away : e.child ≢ top → (d : Place) → under k e (show n W e) ≡ some d → d.child ≢ P.child
      away t d q r =
          let u = (working-good I).whole x in
          t (C.only x u.shows (sym (under_some k e u.view (show n W e) u.shows) ∙ q) r)

      other : (b : Bool) → eqb e.child top ≡ b → e.child ≢ P.child → under k e (show n W' e) ≡ swap P h (under k e (show n W e))
      other true t d = C.leads x (eqb-true e.child top t) d
      other false t d =
          let m = eqb-false e.child top t in
          ap (under k e) (cleft_shows x m) ∙ sym (swap_nothing P h (under k e (show n W e)) (away m))

      go : (b : Bool) → eqb e.child P.child ≡ b → below n W' k (swap P h (some e)) ≡ swap P h (under k e (show n W e))
      go true q =
          let s : e.child ≡ P.child = eqb-true e.child P.child q in
          let i : e ≡ P = I.once x C.node s in
          ap (below n W' k) (swap_here P h e s)
          ∙ (here (subst (Node n W k) i x) ∙ ap (λ (p : Place). swap P h (under k p (show n W p))) (sym i))
      go false q =
          let s : e.child ≢ P.child = eqb-false e.child P.child q in
          ap (below n W' k) (swap_other P h e s) ∙ other (eqb e.child top) refl s
