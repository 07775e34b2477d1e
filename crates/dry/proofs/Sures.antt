-- Where the walk ahead is whole and marks nothing, each place that it enters fits: its source is its child.
-- Assumes nothing.
use Prim.Native.Nat.{ℕ, zero, suc, ◌≤◌, ◌<◌}
use native.Mathlib.Omega.{arith}
use mathlib.Core.Path.{◌≡◌, refl, ap, sym, subst, ◌∙◌}
use mathlib.Core.Bool.{Bool, true, false}
use mathlib.Core.List.{List, [], ◌∷◌}
use lib.Dec.{eqb}
use lib.ListN.{length, length-set, set, get_or}
use lib.Seq.{get_or-set_same, get_or-set_other}
use borrow.Author.Tests.{eqb-true, eqb-false}
use Rattle.std.specs.Prelude.{Option, Some, None, Result, Ok, Err}
use Rattle.rules.specs.Layout.{last_key}
use Rattle.rules.specs.Entry.{Cert}
use Rattle.rules.specs.Place.{root_place, kids, cut_view}
use Rattle.rules.specs.Page.{View}
use Rattle.rules.specs.Table.{read}
use Rattle.rules.specs.declared.Asked.{Asked}
use Rattle.rules.specs.declared.Place.{Place}
use Rattle.rules.proofs.Entries.Tests.{not_both}
use Rattle.rules.proofs.Entries.Sounds.{sound-cut-all}
use Rattle.rules.proofs.Entries.Places.{Fits, fits_true}
use Rattle.seen.specs.Run.{places}
use Rattle.dry.specs.Walk.{marked, Sighted, sighted, meets, asks, takes, breaks, dry_each, dry, dry_over}
use Rattle.dry.specs.Source.{source, marked_by}
use Rattle.dry.specs.Cursor.{in_reach, met_by, meet_of, due_lower, due_upper, due_root, due_last, due_of, settled, step_at, step_of, way_left, Reaching, reach_by, leaf_within, leaf_of, ahead_root, ahead, Names, Leads, Sure}
use Rattle.dry.specs.declared.Cursor.{Cursor}
use Rattle.dry.specs.declared.Damaged.{Damaged}
use Rattle.dry.specs.declared.Spot.{Spot}
use Rattle.dry.specs.declared.LeafAt.{LeafAt}
use Rattle.dry.specs.declared.Step.{Step}
use Rattle.dry.proofs.Sources.{marked-own, marked_other, source_fits}
use Rattle.dry.proofs.Meets.{meets_reach}
use Rattle.dry.proofs.Steps.{step-passes, step-damaged, step-goes}
use Rattle.dry.proofs.Ways.{Next, ahead_halts, lower-next, upper-next, root-next}
use Rattle.dry.proofs.Leads.{names-first, LeafShown}
use Rattle.dry.proofs.Going.{Taken, leaf_view, leaf-shown, leaf-comes}

-- ── Marks stay ──────────────────────────────────────────────────────────────────────────────────────────────────

-- what is marked stays so
abbrev pub Grows : List Bool → List Bool → Type 0
Grows m m' = (i : ℕ) → marked m i ≡ true → marked m' i ≡ true

marked-below : (m : List Bool) (i : ℕ) → marked m i ≡ true → i < length m
unfolding marked
marked-below [] i h = absurd (not_both h refl)
marked-below (x ∷ m) zero h = omega arith
marked-below (x ∷ m) (suc i) h = omega (arith, marked-below m i h)

set-grows : (m : List Bool) (j : ℕ) → Grows m (set m j true)
unfolding marked
set-grows m j i h = go (eqb i j) refl
  where
    go : (b : Bool) → eqb i j ≡ b → get_or (set m j true) i false ≡ true
    go true q =
        ap (λ (k : ℕ). get_or (set m k true) i false) (sym (eqb-true i j q)) ∙ get_or-set_same m i true false (marked-below m i h)
    go false q = get_or-set_other m j i true false (eqb-false i j q) ∙ h

by_grows : (i : ℕ) (e : Place) (m : List Bool) → Grows m (marked_by i e m)
by_grows i e m = go (eqb i e.child) refl
  where
    go : (b : Bool) → eqb i e.child ≡ b → Grows m (marked_by i e m)
    go true q = subst (Grows m) (marked-own i e m (eqb-true i e.child q)) (λ j h. h)
    go false q = subst (Grows m) (marked_other i e m (eqb-false i e.child q)) (set-grows m e.child)

length-by : (i : ℕ) (e : Place) (m : List Bool) → length (marked_by i e m) ≡ length m
length-by i e m = go (eqb i e.child) refl
  where
    go : (b : Bool) → eqb i e.child ≡ b → length (marked_by i e m) ≡ length m
    go true q = ap length (sym (marked-own i e m (eqb-true i e.child q)))
    go false q = ap length (sym (marked_other i e m (eqb-false i e.child q))) ∙ length-set m e.child true

-- no mark is lost, and none comes
module _ (n : ℕ) (a : Asked) (t : List ℕ) where
  met-length : (e : Place) (m : List Bool) (x : Option ℕ) → length (met_by t m e x).marks ≡ length m
  unfolding met_by
  met-length e m (Some i) = length-by i e m
  met-length e m None = refl

  meet-length : (above : List ℕ) (e : Place) (m : List Bool) → length (meet_of n a above t m e).marks ≡ length m
  unfolding meet_of
  meet-length above e m = go (in_reach a e) refl
    where
      go : (b : Bool) → in_reach a e ≡ b → length (meet_of n a above t m e).marks ≡ length m
      go true h = rw (meet_of, h) (met-length e m (source n above t m e))
      go false h = rw (meet_of, h) refl

  pub step-length : (c : Cursor) (m : List Bool) → length (step_of n a t c m).marks ≡ length m
  unfolding step_of step_at settled
  step-length c m = go (due_of t c)
    where
      go : (x : Option Spot) → length (step_at n a t m x).marks ≡ length m
      go (Some s) = meet-length (s.parent ∷ s.top ∷ []) s.place m
      go None = refl

  within-length : (k : ℕ) (c : Cursor) (m : List Bool) → length (leaf_within k n a t c m).marks ≡ length m
  unfolding leaf_within reach_by
  within-length zero c m = refl
  within-length (suc k) c m = go (within-length k) (step_of n a t c m).step (step_of n a t c m).marks ∙ step-length c m
    where
      go : ((x : Cursor) (y : List Bool) → length (leaf_within k n a t x y).marks ≡ length y)
          → (s : Result Step Damaged) (marks : List Bool) → length (reach_by (leaf_within k n a t) s marks).marks ≡ length marks
      go w (Ok (Step.On x)) marks = w x marks
      go w (Ok (Step.Leaf x)) marks = refl
      go w (Ok Step.End) marks = refl
      go w (Err x) marks = refl

  pub leaf-length : (c : Cursor) (m : List Bool) → length (leaf_of n a t c m).marks ≡ length m
  unfolding leaf_of
  leaf-length c m = within-length (suc (way_left c)) c m

-- a child that is not its own source is marked
mended_there : (i : ℕ) (e : Place) (m : List Bool) → e.child < length m → (i ≡ e.child → ⊥) → marked (marked_by i e m) e.child ≡ true
unfolding marked
mended_there i e m below z =
    ap (λ (k : List Bool). get_or k e.child false) (sym (marked_other i e m z)) ∙ get_or-set_same m e.child true false below

-- a walk leaves marked what is
abbrev Walks : (Place → Sighted → Sighted) → Type 0
Walks f = (e : Place) (d : Sighted) → Grows d.mended (f e d).mended

each_grows : (f : Place → Sighted → Sighted) → Walks f → (es : List Place) (d : Sighted) → Grows d.mended (dry_each f es d).mended
unfolding dry_each
each_grows f k [] d i h = h
each_grows f k (e ∷ es) d i h = each_grows f k es (f e d) i (k e d i h)

module _ (n : ℕ) (a : Asked) (t : List ℕ) where
  dry-grows : (level parent top : ℕ) → Walks (dry level n a parent top t)
  unfolding dry breaks takes
  dry-grows zero parent top e d = λ i h. h
  dry-grows (suc level) parent top e d = go (meets a e d) refl (source n (parent ∷ top ∷ []) t d.mended e) refl (dry-grows level e.child parent)
    where
      go : (b : Bool) → meets a e d ≡ b → (x : Option ℕ) → source n (parent ∷ top ∷ []) t d.mended e ≡ x
          → Walks (dry level n a e.child parent t) → Grows d.mended (dry (suc level) n a parent top t e d).mended
      go false p x q k = subst (λ (z : Sighted). Grows d.mended z.mended) (sym (step-passes n a parent top t e d level p)) (λ i h. h)
      go true p None q k =
          subst (λ (z : Sighted). Grows d.mended z.mended) (sym (step-damaged n a parent top t e d level p q)) (λ i h. h)
      go true p (Some j) q k =
          let v = cut_view e.low e.high (read t j).view in
          subst (λ (z : Sighted). Grows d.mended z.mended) (sym (step-goes n a parent top t e d level j p q))
          (λ i h. each_grows (dry level n a e.child parent t) k (kids e v) (takes a v d (marked_by j e d.mended)) i (by_grows j e d.mended i h))

  pub ahead-grows : (c : Cursor) (d : Sighted) → Grows d.mended (ahead n a t c d).mended
  unfolding ahead ahead_root
  ahead-grows c d i h =
      go c.fresh _
      (each_grows (dry 2 n a c.root 0 t) (dry-grows 2 c.root 0) (places t last_key c.upper) _ i
      (each_grows (dry 1 n a c.parent c.root t) (dry-grows 1 c.parent c.root) (places t c.high c.lower) d i h))
    where
      go : (b : Bool) (x : Sighted) → marked x.mended i ≡ true → marked (ahead_root n a t b x).mended i ≡ true
      go true x k = dry-grows 3 0 0 (root_place t) x i k
      go false x k = k

  -- ── A place that is met ─────────────────────────────────────────────────────────────────────────────────────────

  module _ (found : List Cert) (m : List Bool) (room : length found < a.room) (s : Spot) (level : ℕ) (below : s.place.child < length m)
      (whole : (ahead n a t s.rest (dry (suc level) n a s.parent s.top t s.place (sighted true found m))).whole ≡ true)
      (still : (i : ℕ) → marked (ahead n a t s.rest (dry (suc level) n a s.parent s.top t s.place (sighted true found m))).mended i ≡ false)
      (h : in_reach a s.place ≡ true) where
    abbrev e : Place
    e = s.place

    abbrev d : Sighted
    d = sighted true found m

    met : meets a e d ≡ true
    met = meets_reach a s.place found m room ∙ h

    pub source-own : source n (s.parent ∷ s.top ∷ []) t m e ≡ Some e.child
    unfolding breaks takes
    source-own = go (source n (s.parent ∷ s.top ∷ []) t m s.place) refl
      where
        go : (x : Option ℕ) → source n (s.parent ∷ s.top ∷ []) t m s.place ≡ x → source n (s.parent ∷ s.top ∷ []) t m s.place ≡ Some s.place.child
        go None p =
            absurd
            (not_both whole
            (ap (λ (x : Sighted). (ahead n a t s.rest x).whole) (step-damaged n a s.parent s.top t e d level met p)
            ∙ ap (λ (x : Sighted). x.whole) (ahead_halts n a t s.rest (breaks d) refl)))
        go (Some i) p = own (eqb i s.place.child) refl
          where
            own : (b : Bool) → eqb i s.place.child ≡ b → source n (s.parent ∷ s.top ∷ []) t m s.place ≡ Some s.place.child
            own true q = p ∙ ap Some (eqb-true i s.place.child q)
            own false q =
                absurd
                (not_both
                (subst (λ (x : Sighted). marked (ahead n a t s.rest x).mended s.place.child ≡ true)
                (sym (step-goes n a s.parent s.top t e d level i met p))
                (ahead-grows s.rest _ s.place.child
                (each_grows (dry level n a s.place.child s.parent t) (dry-grows level s.place.child s.parent) _ _ s.place.child
                (mended_there i s.place m below (eqb-false i s.place.child q)))))
                (still s.place.child))

  -- ── The place that is next ──────────────────────────────────────────────────────────────────────────────────────

  same_spot : (x y : Spot) → Some x ≡ Some y → x ≡ y
  same_spot x y h = cc

  never : (x : Spot) → None ≡ Some x → ⊥
  never x h = let z : ◌≡◌ {A = ℕ} 0 1 = cc in omega arith

  module _ (c : Cursor) (m : List Bool) (leads : Leads n t c) (sure : Sure n a t c m) where
    abbrev Own : Spot → Type 0
    Own s = in_reach a s.place ≡ true → source n (s.parent ∷ s.top ∷ []) t m s.place ≡ Some s.place.child

    own : (s : Spot) (level : ℕ) → Next n a t c s level → Names n s.place → Own s
    own s level next names h =
        let e = next (sighted true sure.found m) in
        source-own sure.found m sure.room s level (omega (arith, names, sure.marks))
        (ap (λ (x : Sighted). x.whole) (sym e) ∙ sure.whole)
        (λ i. ap (λ (x : Sighted). marked x.mended i) (sym e) ∙ sure.still i) h

    pub sure_own : (s : Spot) → due_of t c ≡ Some s → Own s
    unfolding due_of due_last due_lower due_upper due_root
    sure_own s d = go (eqb c.lower.left 0) refl (eqb c.upper.left 0) refl c.fresh refl d
      where
        go : (x : Bool) → eqb c.lower.left 0 ≡ x → (y : Bool) → eqb c.upper.left 0 ≡ y → (b : Bool) → c.fresh ≡ b
            → due_of t c ≡ Some s → Own s
        go false p y q b r e =
            let z = eqb-false c.lower.left 0 p in
            subst Own (same_spot (due_lower t c) s (sym (rw (due_of, p)) ∙ e))
            (own (due_lower t c) 0 (lower-next n a t c z) (names-first n t c.high c.lower z leads.lower_names))
        go true p false q b r e =
            let z = eqb-false c.upper.left 0 q in
            subst Own (same_spot (due_upper t c) s (sym (rw (due_of, p, q)) ∙ e))
            (own (due_upper t c) 1 (upper-next n a t c (eqb-true c.lower.left 0 p) z) (names-first n t last_key c.upper z leads.upper_names))
        go true p true q true r e =
            subst Own (same_spot (due_root t) s (sym (rw (due_of, p, q) (ap (due_last t) r)) ∙ e))
            (own (due_root t) 2 (root-next n a t c (eqb-true c.lower.left 0 p) (eqb-true c.upper.left 0 q) r) leads.root_names)
        go true p true q false r e = absurd (never s (sym (rw (due_of, p, q) (ap (due_last t) r)) ∙ e))

-- ── A leaf of such a walk ───────────────────────────────────────────────────────────────────────────────────────

module _ {n : ℕ} {a : Asked} {t : List ℕ} {c : Cursor} {count : ℕ} {m : List Bool} {s : Result (Option LeafAt) Damaged} {marks : List Bool} (y : Taken n a t c count m s marks)
    (size : n ≤ length m) (still : (i : ℕ) → marked (dry_over n a t).mended i ≡ false) (l : LeafAt) (q : s ≡ Ok (Some l)) where
  before : List Bool
  before = (leaf-shown y l q).0

  shown : LeafShown n t before marks l
  unfolding before
  shown = (leaf-shown y l q).1

  -- as many as the walk was given
  before-length : length before ≡ length m
  before-length =
      sym (ap length shown.marks_are ∙ length-by l.page l.place before)
      ∙ ap (λ (x : Reaching). length x.marks) y.is
      ∙ leaf-length n a t c m

  own-page : l.page ≡ l.place.child
  own-page = go (eqb l.page l.place.child) refl
    where
      go : (b : Bool) → eqb l.page l.place.child ≡ b → l.page ≡ l.place.child
      go true z = eqb-true l.page l.place.child z
      go false z =
          absurd
          (not_both
          (subst (λ (x : Sighted). marked x.mended l.place.child ≡ true) (leaf-comes y l q)
          (ahead-grows n a t l.after _ l.place.child
          (subst (λ (x : List Bool). marked x l.place.child ≡ true) (sym shown.marks_are)
          (mended_there l.page l.place before (omega (arith, size, shown.names, before-length)) (eqb-false l.page l.place.child z)))))
          (still l.place.child))

  -- it fits its place
  pub leaf-fits : Fits n l.place (read t l.page)
  leaf-fits =
      subst (λ (i : ℕ). Fits n l.place (read t i)) (sym own-page)
      (fits_true n l.place (read t l.place.child)
      (source_fits n (shown.parent ∷ shown.top ∷ []) t before l.place (shown.source_is ∙ ap Some own-page)))

  -- so it is shown as it lies
  pub leaf-view : (found : List Cert) → leaf_view t a l found ≡ asks a (read t l.page).view found
  leaf-view found = ap (λ (v : View). asks a v found) (sound-cut-all leaf-fits.sound)
