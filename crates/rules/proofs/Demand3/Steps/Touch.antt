-- One page of the working tree is written where it stands: a lost page is mended, or a leaf gets an entry. The page fits its
-- node and asks for the same places below; so no way changes, and the invariant and the marks are kept.
use Rattle.std.proofs.Common.{◌≡◌, ℕ, zero, suc, ◌<◌, ◌≤◌, Bool, true, false, eqb, ◌≢◌, ◌⊎◌, List, [], ◌∷◌, sym, refl, ap, ◌∙◌, subst, inl, inr, arith, eqb-true}
use mathlib.Core.Bool.{false≢true}
use mathlib.Core.Option.{Option, some, none, some-injective}
use borrow.Author.Tests.{eqb-false}
use Rattle.rules.specs.Layout.{leaf_kind}
use Rattle.rules.specs.Entry.{find}
use Rattle.rules.specs.Page.{View, Page}
use Rattle.rules.specs.Table.{read}
use Rattle.rules.specs.Place.{root_place, kids, pick, fits, show}
use Rattle.rules.specs.declared.Place.{Place}
use Rattle.rules.proofs.Demand3.Ways.Ways.{under, below, at, Node, Found, Lost}
use Rattle.rules.proofs.Demand3.Ways.Invariant.{Good, States, Changed, Old, same, changed, New, Inv, Marks}
use Rattle.rules.proofs.Entries.Places.{Fits, fits-of, Shown, fitting, lost, show-some, shows}
use Rattle.rules.proofs.Demand3.Ways.Kids.{leaf_kids}
use Rattle.rules.proofs.Demand3.Ways.Nodes.{node-range, node-same}
use Rattle.rules.proofs.Demand3.Mix.Mix.{found_as, show_as, Kindred, kindred}
use Rattle.rules.proofs.Demand3.Epochs.Epochs.{all_written, working-good}
use Rattle.rules.proofs.Demand3.Steps.Again.{old-again, new-written, new-again}

-- ── Ways that stay ──────────────────────────────────────────────────────────────────────────────────────────────

-- a way stays if the root does, and where each place on it leads
pub at_goes : (n : ℕ) (t u : List ℕ) (k : ℕ) → root_place u ≡ root_place t
    → ((e : Place) → Node n t k e → under k e (show n u e) ≡ under k e (show n t e)) → (i : ℕ) → at n u k i ≡ at n t k i
unfolding at below
at_goes n t u k r f zero = ap (λ (p : Place). pick k (p ∷ [])) r
at_goes n t u k r f (suc i) = ap (below n u k) (at_goes n t u k r f i) ∙ go (at n t k i) refl
  where
    go : (from : Option Place) → at n t k i ≡ from → below n u k from ≡ below n t k from
    go none h = refl
    go (some e) h = f e (record { depth = i; here = h })

pub under_some : (k : ℕ) (e : Place) (v : View) (s : Option View) → s ≡ some v → under k e s ≡ pick k (kids e v)
unfolding under
under_some k e v s h = ap (under k e) h

-- two leaves lead nowhere
pub under-leaves : (n : ℕ) (t u : List ℕ) (k : ℕ) (e : Place) (v w : View) → show n t e ≡ some v → show n u e ≡ some w
    → v.kind ≡ leaf_kind → w.kind ≡ leaf_kind → under k e (show n u e) ≡ under k e (show n t e)
under-leaves n t u k e v w s r a b =
    under_some k e w (show n u e) r
    ∙ (ap (pick k) (leaf_kids n u e w r b ∙ sym (leaf_kids n t e v s a)) ∙ sym (under_some k e v (show n t e) s))

-- ── One page written ────────────────────────────────────────────────────────────────────────────────────────────

-- q is written at the node w, which shows v
pub record Touched (n : ℕ) (W W' : List ℕ) (c : ℕ) (Been : States) (w : Place) (v : View) (q : Page) : Type 0 where
  pub key : ℕ
  pub node : Node n W key w
  pub shows : show n W w ≡ some v
  pub here : read W' w.child ≡ q
  pub others : (i : ℕ) → i ≢ w.child → read W' i ≡ read W i
  pub root : root_place W' ≡ root_place W
  pub fits : Fits n w q
  pub touched : q.touched ≡ c
  pub kept : Found n W w → q.built ≡ (read W w.child).built
  pub mended : Lost n W w → q.built ≡ c
  pub kind : q.view.kind ≡ v.kind
  pub inner : v.kind ≢ leaf_kind → q.view ≡ v
  pub told : v.kind ≡ leaf_kind → (k : ℕ) → w.low ≤ k → k ≤ w.high → Been k (find k q.view.certs)

module _ {n : ℕ} {S W W' : List ℕ} {c : ℕ} {Been : States} {w : Place} {v : View} {q : Page}
    (I : Inv n S W c Been) (T : Touched n W W' c Been w v q) where
  good : Good n W
  good = working-good I

  pub found_here : Found n W' w
  found_here = ap (fits n w) T.here ∙ fits-of n w q T.fits

  pub shows-here : show n W' w ≡ some q.view
  shows-here = shows n W' w q T.here T.fits

  -- a node is w, or has another child
  pub which : {k : ℕ} {e : Place} → Node n W k e → (e ≡ w) ⊎ (e.child ≢ w.child)
  which {k} {e} x = go (eqb e.child w.child) refl
    where
      go : (b : Bool) → eqb e.child w.child ≡ b → (e ≡ w) ⊎ (e.child ≢ w.child)
      go true h = inl (I.once x T.node (eqb-true e.child w.child h))
      go false h = inr (eqb-false e.child w.child h)

  -- the other nodes show what they showed
  pub shows-other : {k : ℕ} {e : Place} → Node n W k e → e.child ≢ w.child → show n W' e ≡ show n W e
  shows-other {k} {e} x d =
      let u = good.whole x in
      show_as n W W' e u.view u.shows (T.others e.child d)
      (λ l. T.others e.previous (good.apart x l T.node))
      ∙ sym u.shows

  leads : (k : ℕ) (e : Place) → Node n W k e → under k e (show n W' e) ≡ under k e (show n W e)
  leads k e x = go (which x)
    where
      here : (b : Bool) → eqb v.kind leaf_kind ≡ b → under k w (show n W' w) ≡ under k w (show n W w)
      here true h =
          let l = eqb-true v.kind leaf_kind h in
          under-leaves n W W' k w v q.view T.shows shows-here l (T.kind ∙ l)
      here false h =
          ap (under k w) (shows-here ∙ (ap some (T.inner (eqb-false v.kind leaf_kind h)) ∙ sym T.shows))

      go : (e ≡ w) ⊎ (e.child ≢ w.child) → under k e (show n W' e) ≡ under k e (show n W e)
      go (inl h) =
          subst (λ (p : Place). under k p (show n W' p) ≡ under k p (show n W p)) (sym h) (here (eqb v.kind leaf_kind) refl)
      go (inr d) = ap (under k e) (shows-other x d)

  pub touch-ways : (k i : ℕ) → at n W' k i ≡ at n W k i
  touch-ways k i = at_goes n W W' k T.root (leads k) i

  pub touch-before : {k : ℕ} {e : Place} → Node n W' k e → Node n W k e
  touch-before {k} x = record { depth = x.depth; here = sym (touch-ways k x.depth) ∙ x.here }

  pub touch-after : {k : ℕ} {e : Place} → Node n W k e → Node n W' k e
  touch-after {k} x = record { depth = x.depth; here = touch-ways k x.depth ∙ x.here }

  -- ── The invariant ─────────────────────────────────────────────────────────────────────────────────────────────

  -- w's page as it was, where it was found
  view-found : Found n W w → v.kind ≡ (read W w.child).view.kind
  view-found f = go (show-some n W w v T.shows)
    where
      go : Shown n W w v → v.kind ≡ (read W w.child).view.kind
      go (fitting g h) = ap (λ (x : View). x.kind) h
      go (lost g m h) = absurd (false≢true (sym g ∙ f))

  -- w where it is a stable node
  old-here : (k : ℕ) (o : View) → Node n S k w → show n S w ≡ some o → Changed n S W' c Been k w o
  old-here k o x s =
      record {
        found = found_here;
        kept = λ f. ap (λ (p : Page). p.built) T.here ∙ kept f (I.old x s);
        mended = λ f. ap (λ (p : Page). p.built) T.here ∙ mended f (I.old x s);
        touched = ap (λ (p : Page). p.touched) T.here ∙ T.touched;
        kind = ap (λ (p : Page). p.view.kind) T.here ∙ kinds;
        told = λ l. subst (λ (p : Page). Been k (find k p.view.certs)) (sym T.here)
            (T.told (sym T.kind ∙ (kinds ∙ l)) k r.0 r.1);
        still = λ i. touch-after (node-same k T.node r.0 r.1);
      }
    where
      r : (w.low ≤ k) × (k ≤ w.high)
      r = node-range x

      u : Kindred n S W W c Been I (all_written n S W) w o
      u = kindred n S W W c Been I (all_written n S W) k w o x s

      kinds : q.view.kind ≡ o.kind
      kinds =
          T.kind
          ∙ (ap (λ (a : View). a.kind) (some-injective v u.view (sym T.shows ∙ u.shows)) ∙ u.kind)

      kept : Found n S w → Old n S W c Been k w o → q.built ≡ (read S w.child).built
      kept f (same h) = T.kept (found_as n S W w h f) ∙ ap (λ (p : Page). p.built) h
      kept f (changed y) = T.kept y.found ∙ y.kept f

      mended : Lost n S w → Old n S W c Been k w o → q.built ≡ c
      mended f (same h) = T.mended (ap (fits n w) h ∙ f)
      mended f (changed y) = T.kept y.found ∙ y.mended f

  -- a stable node that has w's child is w
  stable_which : {k : ℕ} {o : Place} → Node n S k o → (o ≡ w) ⊎ (o.child ≢ w.child)
  stable_which {k} {o} x = go (eqb o.child w.child) refl (I.node T.node)
    where
      go : (b : Bool) → eqb o.child w.child ≡ b → Node n S T.key w ⊎ New n S W c Been T.key w
          → (o ≡ w) ⊎ (o.child ≢ w.child)
      go false h z = inr (eqb-false o.child w.child h)
      go true h (inl y) = inl (I.good.once x y (eqb-true o.child w.child h))
      go true h (inr y) = absurd (y.no_child x (eqb-true o.child w.child h))

  old' : {k : ℕ} {o : Place} {a : View} → Node n S k o → show n S o ≡ some a → Old n S W' c Been k o a
  old' {k} {o} {a} x s = go (stable_which x)
    where
      go : (o ≡ w) ⊎ (o.child ≢ w.child) → Old n S W' c Been k o a
      go (inl h) =
          changed (subst (λ (e : Place). Changed n S W' c Been k e a) (sym h)
          (old-here k a (subst (Node n S k) h x) (sym (ap (show n S) h) ∙ s)))
      go (inr d) = old-again W' (T.others o.child d) (λ y i. touch-after (y.still i)) (I.old x s)

  -- what had left the tree has not come back
  gone' : {k : ℕ} {e : Place} (y : New n S W c Been k e) (j : ℕ) (d : Place) → Node n W' j d → d.child ≢ y.shade.child
  gone' y j d x = y.gone (touch-before x)

  new-here : {k : ℕ} → Node n W k w → New n S W c Been k w → New n S W' c Been k w
  new-here {k} x y =
      let r = node-range x in
      let kinds : q.view.kind ≡ (read W w.child).view.kind = T.kind ∙ view-found y.found in
      new-written W' y (gone' y) found_here
      (ap (λ (p : Page). p.built) T.here ∙ (T.kept y.found ∙ y.built))
      (ap (λ (p : Page). p.touched) T.here ∙ T.touched)
      (ap (λ (p : Page). p.view.kind) T.here ∙ kinds)
      (λ l. subst (λ (p : Page). Been k (find k p.view.certs)) (sym T.here)
      (T.told (sym T.kind ∙ (sym (ap (λ (p : Page). p.view.kind) T.here) ∙ l)) k r.0 r.1))

  node' : {k : ℕ} {e : Place} → Node n W' k e → Node n S k e ⊎ New n S W' c Been k e
  node' {k} {e} x = go (I.node (touch-before x)) (which (touch-before x))
    where
      go : Node n S k e ⊎ New n S W c Been k e → (e ≡ w) ⊎ (e.child ≢ w.child) → Node n S k e ⊎ New n S W' c Been k e
      go (inl y) z = inl y
      go (inr y) (inl h) =
          inr (subst (New n S W' c Been k) (sym h)
          (new-here (subst (Node n W k) h (touch-before x)) (subst (New n S W c Been k) h y)))
      go (inr y) (inr d) = inr (new-again W' y (gone' y) (T.others e.child d))

  births' : (i : ℕ) → 1 ≤ i → i < n → (read W' i).birth ≤ c
  births' i a b = go (eqb i w.child) refl (I.node T.node)
    where
      go : (t : Bool) → eqb i w.child ≡ t → Node n S T.key w ⊎ New n S W c Been T.key w → (read W' i).birth ≤ c
      go false h z =
          omega (arith, ap (λ (p : Page). p.birth) (T.others i (eqb-false i w.child h)), I.births_now i a b)
      go true h z =
          let e = ap (λ (j : ℕ). (read W' j).birth) (eqb-true i w.child h) in
          let f = ap (λ (p : Page). p.birth) T.here in
          omega (arith, e, f, T.fits.birth, born z)
        where
          born : Node n S T.key w ⊎ New n S W c Been T.key w → w.birth ≤ c
          born (inl x) = omega (arith, I.born x)
          born (inr y) = omega (arith, y.born)

  pub touch-inv : Inv n S W' c Been
  touch-inv = record {
    good = I.good;
    births = I.births;
    born = I.born;
    built = I.built;
    told = I.told;
    rooted = record {
      some_page = subst (λ (p : Place). 1 ≤ p.child) (sym T.root) I.rooted.some_page;
      in_table = subst (λ (p : Place). p.child < n) (sym T.root) I.rooted.in_table;
      previous_in = subst (λ (p : Place). p.previous < n) (sym T.root) I.rooted.previous_in;
    };
    once = λ x y. I.once (touch-before x) (touch-before y);
    births_now = births';
    old = old';
    spared = λ x l. T.others _ (I.apart x l T.node) ∙ I.spared x l;
    apart = λ x l y. I.apart x l (touch-before y);
    node = node';
  }

  pub touch-marks : {free waiting : ℕ → Bool} → Marks n S W free waiting → Marks n S W' free waiting
  touch-marks m = record {
    free_old = m.free_old;
    free_new = λ h x. m.free_new h (touch-before x);
    free_spared = m.free_spared;
    not_both = m.not_both;
    waiting_new = λ h x. m.waiting_new h (touch-before x);
    waiting_spared = m.waiting_spared;
  }
