-- A split keeps the invariant and the marks, given what the page above it has become.
use Rattle.std.proofs.Common.{◌≡◌, ℕ, ◌<◌, ◌≤◌, Bool, true, false, eqb, ◌≢◌, ◌⊎◌, List, sym, refl, ap, ◌∙◌, subst, inl, inr, arith, eqb-true}
use mathlib.Core.Bool.{false≢true}
use mathlib.Core.Option.{some}
use borrow.Author.Tests.{eqb-false}
use Rattle.rules.specs.Layout.{leaf_kind}
use Rattle.rules.specs.Page.{View, Page}
use Rattle.rules.specs.Table.{read}
use Rattle.rules.specs.Place.{show}
use Rattle.rules.specs.declared.Place.{Place}
use Rattle.rules.proofs.Entries.Tests.{not_both}
use Rattle.rules.proofs.Demand3.Ways.Ways.{Node, Lost, Undamaged}
use Rattle.rules.proofs.Demand3.Ways.Invariant.{Rooted, Good, States, Changed, Old, New, Inv, Marks}
use Rattle.rules.proofs.Entries.Places.{fits_true, fits-of, Shown, fitting, lost, show-some}
use Rattle.rules.proofs.Demand3.Ways.Nodes.{node-page}
use Rattle.rules.proofs.Demand3.Steps.Again.{old-again, new-again}
use Rattle.rules.proofs.Demand3.Steps.Sides.{Half, side, side_ind, Cleft}
use Rattle.rules.proofs.Demand3.Steps.Cleft.{Is, was, half, raised, Goes, side-free, gone-P, gone_old, once-split, side-new}

-- the page that a lost node is shown from is a page
pub lost-previous : {n : ℕ} {t : List ℕ} {k : ℕ} {o : Place} → Good n t → Node n t k o → Lost n t o → 1 ≤ o.previous
lost-previous {n} {t} {k} {o} g x l = go (show-some n t o u.view u.shows)
  where
    u : Undamaged n t o
    u = g.whole x

    go : Shown n t o u.view → 1 ≤ o.previous
    go (fitting f q) = absurd (false≢true (sym l ∙ fits-of n o (read t o.child) f))
    go (lost f m q) = m.from

-- ── What the page above has become ──────────────────────────────────────────────────────────────────────────────

pub record Over (n : ℕ) (S W' : List ℕ) (c : ℕ) (Been : States) (top : ℕ) : Type 0 where
  pub rooted : Rooted n W'
  pub birth : (read W' top).birth ≤ c
  pub old : {k : ℕ} {o : Place} {v : View} → Node n S k o → show n S o ≡ some v → o.child ≡ top → Old n S W' c Been k o v
  pub node : {k : ℕ} {e : Place} → Node n W' k e → e.child ≡ top → Node n S k e ⊎ New n S W' c Been k e

-- ── The invariant ───────────────────────────────────────────────────────────────────────────────────────────────

module _ {n : ℕ} {S W W' : List ℕ} {c : ℕ} {Been : States} {P L U : Place} {top : ℕ}
    (I : Inv n S W c Been) (C : Cleft n S W W' c P L U top) (G : Goes n S W W' P L U top) (O : Over n S W' c Been top) where
  half_birth : (h : Place) → Half n W W' c P h → (read W' h.child).birth ≡ c
  half_birth h x = (fits_true n h (read W' h.child) x.found).birth ∙ x.born

  births' : (i : ℕ) → 1 ≤ i → i < n → (read W' i).birth ≤ c
  births' i a b = go (eqb i L.child) refl (eqb i U.child) refl (eqb i top) refl
    where
      at : (j : ℕ) → i ≡ j → (read W' j).birth ≤ c → (read W' i).birth ≤ c
      at j q h = subst (λ (m : ℕ). (read W' m).birth ≤ c) (sym q) h

      go : (x : Bool) → eqb i L.child ≡ x → (y : Bool) → eqb i U.child ≡ y → (z : Bool) → eqb i top ≡ z → (read W' i).birth ≤ c
      go true p y q z r = at L.child (eqb-true i L.child p) (omega (arith, half_birth L C.lower))
      go false p true q z r = at U.child (eqb-true i U.child q) (omega (arith, half_birth U C.upper))
      go false p false q true r = at top (eqb-true i top r) O.birth
      go false p false q false r =
          subst (λ (w : Page). w.birth ≤ c)
          (sym (C.others i a (eqb-false i L.child p) (eqb-false i U.child q) (eqb-false i top r)))
          (I.births_now i a b)

  -- a stable node whose page is not the one above
  old_below : {k : ℕ} {o : Place} {v : View} → Node n S k o → show n S o ≡ some v → o.child ≢ top → Old n S W' c Been k o v
  old_below {k} {o} {v} x s t =
      old-again W'
      (C.others o.child (node-page I.good.rooted x).0 (C.free_lower.no_old x) (C.free_upper.no_old x) t)
      (λ y i. G.kept (y.still i) (split y i)) (I.old x s)
    where
      -- an inner page that was changed since is not split
      split : Changed n S W c Been k o v → v.kind ≢ leaf_kind → o.child ≢ P.child
      split y i q =
          C.late (λ l. i (sym y.kind ∙ (ap (λ (j : ℕ). (read W j).view.kind) q ∙ l)))
          (ap (λ (j : ℕ). (read W j).touched) (sym q) ∙ y.touched)

  old' : {k : ℕ} {o : Place} {v : View} → Node n S k o → show n S o ≡ some v → Old n S W' c Been k o v
  old' {k} {o} {v} x s = go (eqb o.child top) refl
    where
      go : (b : Bool) → eqb o.child top ≡ b → Old n S W' c Been k o v
      go true q = O.old x s (eqb-true o.child top q)
      go false q = old_below x s (eqb-false o.child top q)

  spared' : {k : ℕ} {o : Place} → Node n S k o → Lost n S o → read W' o.previous ≡ read S o.previous
  spared' {k} {o} x l =
      C.others o.previous (lost-previous I.good x l) (C.free_lower.no_spared x l) (C.free_upper.no_spared x l) (C.spares x l)
      ∙ I.spared x l

  apart' : {k j : ℕ} {a b : Place} → Node n S k a → Lost n S a → Node n W' j b → a.previous ≢ b.child
  apart' {k} {j} {a} {b} x l y q = go (G.nodes y)
    where
      go : Is n S W W' P L U top j b → ⊥
      go (was z d) = I.apart x l z q
      go (half z h) = (side-free I C G j).no_spared x l (q ∙ ap (λ (p : Place). p.child) h)
      go (raised r t f) = C.spares x l (q ∙ t)

  node' : {k : ℕ} {e : Place} → Node n W' k e → Node n S k e ⊎ New n S W' c Been k e
  node' {k} {e} x = go (G.nodes x)
    where
      below : Node n W k e → e.child ≢ top → Node n S k e ⊎ New n S W c Been k e → Node n S k e ⊎ New n S W' c Been k e
      below z t (inl o) = inl o
      below z t (inr y) =
          inr (new-again W' y (gone_old I C G y.stands (λ i d a. y.gone a))
          (C.others e.child (node-page I.rooted z).0 (C.free_lower.no_new z) (C.free_upper.no_new z) t))

      which : Node n W k e → (b : Bool) → eqb e.child top ≡ b → Node n S k e ⊎ New n S W' c Been k e
      which z true q = O.node x (eqb-true e.child top q)
      which z false q = below z (eqb-false e.child top q) (I.node z)

      go : Is n S W W' P L U top k e → Node n S k e ⊎ New n S W' c Been k e
      go (was z d) = which z (eqb e.child top) refl
      go (half z h) = inr (subst (New n S W' c Been k) (sym h) (side-new I C G k z))
      go (raised r t f) = O.node x t

  pub split-inv : Inv n S W' c Been
  split-inv = record {
    good = I.good;
    births = I.births;
    born = I.born;
    built = I.built;
    told = I.told;
    rooted = O.rooted;
    once = once-split I C G;
    births_now = births';
    old = old';
    spared = spared';
    apart = apart';
    node = node';
  }

-- ── The marks ───────────────────────────────────────────────────────────────────────────────────────────────────

-- a page that is free after a split: one that was free and not taken, or the split page, born since the last sync or opening
pub data Free (c : ℕ) (P L U : Place) (top : ℕ) (free : ℕ → Bool) (i : ℕ) : Type 0 where
  left : free i ≡ true → i ≢ L.child → i ≢ U.child → i ≢ top → Free c P L U top free i
  given_back : i ≡ P.child → P.birth ≡ c → Free c P L U top free i

-- the new pages are taken; the split page waits, or is free at once
pub record Retired (c : ℕ) (P L U : Place) (top : ℕ) (free waiting free' waiting' : ℕ → Bool) : Type 0 where
  pub frees : (i : ℕ) → free' i ≡ true → Free c P L U top free i
  pub waits : (i : ℕ) → waiting' i ≡ true → (waiting i ≡ true) ⊎ (i ≡ P.child)
  pub either : free' P.child ≡ true → waiting' P.child ≡ false

module _ {n : ℕ} {S W W' : List ℕ} {c : ℕ} {Been : States} {P L U : Place} {top : ℕ} {free waiting free' waiting' : ℕ → Bool}
    (I : Inv n S W c Been) (C : Cleft n S W W' c P L U top) (G : Goes n S W W' P L U top)
    (M : Marks n S W free waiting) (R : Retired c P L U top free waiting free' waiting')
    (taken : (waiting L.child ≡ false) × (waiting U.child ≡ false) × (waiting top ≡ false)) where
  -- P where it was born since the last sync or opening
  born-now : P.birth ≡ c → New n S W c Been C.key P
  born-now b = go (I.node C.node)
    where
      go : Node n S C.key P ⊎ New n S W c Been C.key P → New n S W c Been C.key P
      go (inl o) = absurd (omega (arith, I.born o, b))
      go (inr y) = y

  -- no page above or half has a number that is free or waiting
  halves_apart : (i j : ℕ) → i ≢ L.child → i ≢ U.child → (side L U j).child ≢ i
  halves_apart i j p q = side_ind L U (λ h. h.child ≢ i) j (λ e. p (sym e)) (λ e. q (sym e))

  node-apart : {j : ℕ} {e : Place} (i : ℕ) → i ≢ L.child → i ≢ U.child → i ≢ top
      → ((k : ℕ) (w : Place) → Node n W k w → w.child ≢ i) → Node n W' j e → e.child ≢ i
  node-apart {j} {e} i p q r f x h = go (G.nodes x)
    where
      go : Is n S W W' P L U top j e → ⊥
      go (was z d) = f j e z h
      go (half z s) = halves_apart i j p q (sym (ap (λ (a : Place). a.child) s) ∙ h)
      go (raised s t u) = r (sym h ∙ t)

  abbrev Frees : ℕ → Type 0
  Frees i = Free c P L U top free i

  free-apart : {j : ℕ} {e : Place} (i : ℕ) → Frees i → Node n W' j e → e.child ≢ i
  free-apart i (left h p q r) x = node-apart i p q r (λ k w z. M.free_new h z) x
  free-apart i (given_back h b) x = λ q. gone-P I C G x (q ∙ h)

  free-stable : {k : ℕ} {o : Place} (i : ℕ) → Frees i → Node n S k o → o.child ≢ i
  free-stable i (left h p q r) x = M.free_old h x
  free-stable i (given_back h b) x = λ q. (born-now b).no_child x (q ∙ h)

  free-lost : {k : ℕ} {o : Place} (i : ℕ) → Frees i → Node n S k o → Lost n S o → o.previous ≢ i
  free-lost i (left h p q r) x l = M.free_spared h x l
  free-lost i (given_back h b) x l = λ q. (born-now b).no_previous x l (q ∙ h)

  -- a waiting page was none of those taken
  waiting-other : (i j : ℕ) → waiting i ≡ true → waiting j ≡ false → i ≢ j
  waiting-other i j a b q = not_both (sym (ap waiting q) ∙ a) b

  waiting-apart : {j : ℕ} {e : Place} (i : ℕ) → (waiting i ≡ true) ⊎ (i ≡ P.child) → Node n W' j e → e.child ≢ i
  waiting-apart i (inl h) x =
      node-apart i (waiting-other i L.child h taken.0) (waiting-other i U.child h taken.1) (waiting-other i top h taken.2)
      (λ k w z. M.waiting_new h z) x
  waiting-apart i (inr h) x = λ q. gone-P I C G x (q ∙ h)

  waiting-lost : {k : ℕ} {o : Place} (i : ℕ) → (waiting i ≡ true) ⊎ (i ≡ P.child) → Node n S k o → Lost n S o → o.previous ≢ i
  waiting-lost i (inl h) x l = M.waiting_spared h x l
  waiting-lost i (inr h) x l = λ q. I.apart x l C.node (q ∙ h)

  one-mark : (i : ℕ) → free' i ≡ true → waiting' i ≡ false
  one-mark i f = go (R.frees i f) (waiting' i) refl
    where
      clash : free i ≡ true → (waiting i ≡ true) ⊎ (i ≡ P.child) → waiting' i ≡ false
      clash h (inl w) = absurd (not_both w (M.not_both h))
      clash h (inr p) = absurd (M.free_new h C.node (sym p))

      go : Frees i → (b : Bool) → waiting' i ≡ b → waiting' i ≡ false
      go z false q = q
      go (left h p u r) true q = clash h (R.waits i q)
      go (given_back h b) true q = ap waiting' h ∙ R.either (sym (ap free' h) ∙ f)

  pub split-marks : Marks n S W' free' waiting'
  split-marks = record {
    free_old = λ {i} h x. free-stable i (R.frees i h) x;
    free_new = λ {i} h x. free-apart i (R.frees i h) x;
    free_spared = λ {i} h x l. free-lost i (R.frees i h) x l;
    not_both = λ {i} h. one-mark i h;
    waiting_new = λ {i} h x. waiting-apart i (R.waits i h) x;
    waiting_spared = λ {i} h x l. waiting-lost i (R.waits i h) x l;
  }
