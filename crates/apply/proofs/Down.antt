-- The splits of a way, one page after the other from the highest that is full down to the leaf. Assumes nothing.
use Prim.Native.Nat.{ℕ, zero, suc, ◌+◌, ◌-◌, ◌*◌, ◌≤◌, ◌<◌}
use native.Mathlib.Omega.{arith}
use mathlib.Core.Path.{◌≡◌, refl, sym, ap, ◌∙◌, subst}
use mathlib.Core.Logic.{◌≢◌}
use mathlib.Core.Bool.{Bool, true, false}
use mathlib.Core.List.{List, [], ◌∷◌}
use borrow.Author.Tests.{eqb-true, eqb-false, eq-eqb, ne_eqb}
use lib.Dec.{eqb}
use lib.ListN.{length, drop, get_or, drop_of_length-le}
use lib.Seq.{drop-cons, drop-drop}
use Rattle.rules.specs.Insert.{Making, making, grow, halve, split}
use Rattle.rules.specs.declared.Session.{Session}
use Rattle.rules.proofs.Bytes.All.{All, all_head, all-at}
use Rattle.split.specs.Split.{step_at, Halves, Grows}
use Rattle.plan.specs.Plan.{full_by, splits_by, heads_of}
use Rattle.way.specs.Ways.{no_step}
use Rattle.way.specs.declared.Step.{Step}
use Rattle.apply.specs.Leads.{HeadRead, step_on, steps_in, ReadyWay, Level, Starts, start_of}
use Rattle.apply.proofs.Levels.{level-stays}
use Rattle.apply.proofs.Numbers.{full-read, below-above, below_halves, below_split, two-left, three-left, top-grows, top_halves, top_split}
use Rattle.apply.proofs.Handed.{ready-level, some_page}

-- ── How many pages split ────────────────────────────────────────────────────────────────────────────────────────

abbrev splits : List Step → ℕ
splits xs = splits_by (heads_of xs)

splits-more : (x : Step) (xs : List Step) → full_by x.head ≡ true → splits (x ∷ xs) ≡ suc (splits xs)
unfolding splits_by
splits-more x xs f = rw (f, splits_by)

splits-none : (x : Step) (xs : List Step) → full_by x.head ≡ false → splits (x ∷ xs) ≡ 0
unfolding splits_by
splits-none x xs f = rw (f, splits_by)

no_steps : splits [] ≡ 0
unfolding splits_by
no_steps = refl

splits-short : (xs : List Step) → splits xs ≤ length xs
splits-short [] = omega (arith, no_steps)
splits-short (x ∷ xs) = go (full_by x.head) refl (splits-short xs)
  where
    go : (b : Bool) → full_by x.head ≡ b → splits xs ≤ length xs → splits (x ∷ xs) ≤ length (x ∷ xs)
    go true f ih = omega (arith, splits-more x xs f)
    go false f ih = omega (arith, splits-none x xs f)

-- those below that number are full
splits-full : (xs : List Step) (j : ℕ) → j < splits xs → full_by (get_or xs j no_step).head ≡ true
splits-full [] j h = absurd (omega (arith, no_steps))
splits-full (x ∷ xs) j h = go j h (full_by x.head) refl (splits-full xs)
  where
    go : (i : ℕ) → i < splits (x ∷ xs) → (b : Bool) → full_by x.head ≡ b
        → ((i : ℕ) → i < splits xs → full_by (get_or xs i no_step).head ≡ true) → full_by (get_or (x ∷ xs) i no_step).head ≡ true
    go i l false f ih = absurd (omega (arith, splits-none x xs f))
    go zero l true f ih = f
    go (suc i) l true f ih = ih i (omega (arith, splits-more x xs f))

-- and the one after them is not
splits-end : (xs : List Step) → splits xs < length xs → full_by (get_or xs (splits xs) no_step).head ≡ false
splits-end [] h = absurd (omega arith)
splits-end (x ∷ xs) h = go (full_by x.head) refl (splits-end xs)
  where
    go : (b : Bool) → full_by x.head ≡ b → (splits xs < length xs → full_by (get_or xs (splits xs) no_step).head ≡ false)
        → full_by (get_or (x ∷ xs) (splits (x ∷ xs)) no_step).head ≡ false
    go false f ih = ap (λ (i : ℕ). full_by (get_or (x ∷ xs) i no_step).head) (splits-none x xs f) ∙ f
    go true f ih =
        ap (λ (i : ℕ). full_by (get_or (x ∷ xs) i no_step).head) (splits-more x xs f) ∙ ih (omega (arith, splits-more x xs f))

-- ── What stands above a step ────────────────────────────────────────────────────────────────────────────────────

-- once all above it is split: what the page above has become, or a new root
unfoldable pub over_of : ℕ → ℕ → List ℕ → List Step → ℕ → List ℕ → Session → Making
over_of c k t [] i pages s = making t s 0
over_of c k t (x ∷ []) i pages s = grow c (step_at t x.place) (get_or pages (i + 2) 0) (making t s 0)
over_of c k t (x ∷ (y ∷ above)) i pages s = split c k (steps_in t (y ∷ above)) (drop (i + 2) pages) (making t s 0)

module _ {c k : ℕ} {t : List ℕ} (pages : List ℕ) (s : Session) where
  over_halves : (x : Step) (above : List Step) (i : ℕ) → Level c k t (x ∷ above) (drop i pages) → full_by x.head ≡ true
      → (t' : List ℕ) (m' : Session) (at : ℕ) → making t' m' at ≡ over_of c k t (x ∷ above) i pages s
      → Halves t' x.place x.head (get_or pages i 0) (get_or pages (i + 1) 0) at
  unfolding over_of
  over_halves x [] i L f t' m' at q = top_halves i pages L refl f s t' m' at q
  over_halves x (y ∷ above) i L f t' m' at q = below_halves i pages L refl f s t' m' at q

  over-split : (x : Step) (above : List Step) (i : ℕ) → Level c k t (x ∷ above) (drop i pages) → full_by x.head ≡ true
      → (t' : List ℕ) (m' : Session) (at : ℕ) (r : Making) → making t' m' at ≡ over_of c k t (x ∷ above) i pages s
      → r ≡ halve c k (step_at t' x.place) (get_or pages i 0) (get_or pages (i + 1) 0) (making t' m' at)
      → r ≡ split c k (steps_in t (x ∷ above)) (drop i pages) (making t s 0)
  unfolding over_of
  over-split x [] i L f t' m' at r q z = top_split i pages L refl f s t' m' at r q z
  over-split x (y ∷ above) i L f t' m' at r q z = below_split i pages L refl f s t' m' at r q z

-- each step that splits has numbers of its own, two for a step
levels : {c k : ℕ} {t : List ℕ} (xs : List Step) (pages : List ℕ) (j : ℕ) → Level c k t xs pages → j < splits xs
    → Level c k t (drop j xs) (drop (2 * j) pages)
levels xs pages zero L h = L
levels [] pages (suc j) L h = absurd (omega (arith, no_steps))
levels {c} {k} {t} (x ∷ xs) pages (suc j) L h = go xs (full_by x.head) refl L h (levels xs (drop 2 pages) j)
  where
    two : drop (2 * j) (drop 2 pages) ≡ drop (2 * suc j) pages
    two =
        let e : 2 + 2 * j ≡ 2 * suc j = omega arith in
        drop-drop (2 * j) 2 pages ∙ ap (λ (i : ℕ). drop i pages) e

    go : (ys : List Step) (b : Bool) → full_by x.head ≡ b → Level c k t (x ∷ ys) pages → suc j < splits (x ∷ ys)
        → (Level c k t ys (drop 2 pages) → j < splits ys → Level c k t (drop j ys) (drop (2 * j) (drop 2 pages)))
        → Level c k t (drop j ys) (drop (2 * suc j) pages)
    go ys false f M l ih = absurd (omega (arith, splits-none x ys f))
    go [] true f M l ih = absurd (omega (arith, splits-more x [] f, no_steps))
    go (y ∷ ys) true f M l ih =
        subst (Level c k t (drop j (y ∷ ys))) two (ih (below-above 0 pages M refl f) (omega (arith, splits-more x (y ∷ ys) f)))

-- ── Turn by turn ────────────────────────────────────────────────────────────────────────────────────────────────

-- a step's page halved where it stands, by its own two numbers
abbrev halved : ℕ → ℕ → List Step → List ℕ → ℕ → Making → Making
halved c k w pages j m = halve c k (step_at m.table (step_on w j).place) (get_or pages (2 * j) 0) (get_or pages (2 * j + 1) 0) m

-- the last so many, one after the other
unfoldable pub halvings : ℕ → ℕ → List Step → List ℕ → ℕ → Making → Making
halvings c k w pages zero m = m
halvings c k w pages (suc j) m = halvings c k w pages j (halved c k w pages j m)

-- and what each of them asks for
abbrev pub Asks : ℕ → ℕ → List Step → List ℕ → ℕ → Making → Type 0
Asks c k w pages zero m = Unit {0}
Asks c k w pages (suc j) m =
    Halves m.table (step_on w j).place (step_on w j).head (get_or pages (2 * j) 0) (get_or pages (2 * j + 1) 0) m.at
    × Asks c k w pages j (halved c k w pages j m)

module _ (c k : ℕ) (w : List Step) (pages : List ℕ) (i : ℕ) (some : 0 < i) (m : Making) (a : Asks c k w pages i m)
    (x : Step) (e : x ≡ step_on w (i - 1)) where
  back : i ≡ suc (i - 1)
  back = omega arith

  asks : Asks c k w pages (suc (i - 1)) m
  asks = subst (λ (j : ℕ). Asks c k w pages j m) back a

  pub turn-asks : Halves m.table x.place x.head (get_or pages (2 * (i - 1)) 0) (get_or pages (2 * (i - 1) + 1) 0) m.at
  turn-asks =
      subst (λ (y : Step). Halves m.table y.place y.head (get_or pages (2 * (i - 1)) 0) (get_or pages (2 * (i - 1) + 1) 0) m.at)
      (sym e) asks.0

  module _ (r : Making)
      (z : r ≡ halve c k (step_at m.table x.place) (get_or pages (2 * (i - 1)) 0) (get_or pages (2 * (i - 1) + 1) 0) m) where
    one : r ≡ halved c k w pages (i - 1) m
    one =
        z ∙ ap (λ (y : Step). halve c k (step_at m.table y.place) (get_or pages (2 * (i - 1)) 0) (get_or pages (2 * (i - 1) + 1) 0) m) e

    pub turn-leaves : Asks c k w pages (i - 1) r
    turn-leaves = subst (Asks c k w pages (i - 1)) (sym one) asks.1

    pub turn-goes_on : halvings c k w pages (i - 1) r ≡ halvings c k w pages i m
    unfolding halvings
    turn-goes_on =
        ap (halvings c k w pages (i - 1)) one ∙ ap (λ (j : ℕ). halvings c k w pages j m) (sym back)

none_left : (c k : ℕ) (w : List Step) (pages : List ℕ) (i : ℕ) (m r : Making) → i ≡ 0 → halvings c k w pages i m ≡ r → m ≡ r
unfolding halvings
none_left c k w pages i m r e q = ap (λ (j : ℕ). halvings c k w pages j m) (sym e) ∙ q

-- ── The way ─────────────────────────────────────────────────────────────────────────────────────────────────────

-- with the last so many pages still to be halved: what stands above the next of them, and at last the whole split
unfoldable pub reached : ℕ → List ℕ → Session → List Step → List ℕ → ℕ → Making
reached k t s w pages zero = split s.c k (steps_in t w) pages (making t s 0)
reached k t s w pages (suc j) = over_of s.c k t (drop j w) (2 * j) pages s

module _ {k : ℕ} {t : List ℕ} {s : Session} {w : List Step} {pages : List ℕ} (R : ReadyWay k t s w pages)
    (many : ℕ) (q : many ≡ splits_by (heads_of w)) where
  abbrev xs : List Step
  xs = w

  many_is : many ≡ splits xs
  many_is = q

  below-many : {j : ℕ} → j < many → j < length xs
  below-many h = omega (arith, many_is, splits-short xs)

  here : (j : ℕ) → j < length xs → drop j xs ≡ step_on w j ∷ drop (suc j) xs
  here j h = drop-cons xs j no_step h

  level-here : (j : ℕ) → j < many → Level s.c k t (step_on w j ∷ drop (suc j) xs) (drop (2 * j) pages)
  level-here j h =
      subst (λ (zs : List Step). Level s.c k t zs (drop (2 * j) pages)) (here j (below-many h))
      (levels xs pages j (ready-level R xs refl) (omega (arith, many_is)))

  full-here : (j : ℕ) → j < many → full_by (step_on w j).head ≡ true
  full-here j h = splits-full xs j (omega (arith, many_is))

  over-here : (j : ℕ) → j < many → reached k t s w pages (suc j) ≡ over_of s.c k t (step_on w j ∷ drop (suc j) xs) (2 * j) pages s
  unfolding reached
  over-here j h = ap (λ (zs : List Step). over_of s.c k t zs (2 * j) pages s) (here j (below-many h))

  -- what stands above a step is the page above it, split
  over_below : (j : ℕ) → suc j < length xs
      → reached k t s w pages (suc j) ≡ split s.c k (steps_in t (drop (suc j) xs)) (drop (2 * suc j) pages) (making t s 0)
  unfolding reached over_of
  over_below j h =
      let a = here j (omega arith) in
      let b = here (suc j) h in
      let e : 2 * j + 2 ≡ 2 * suc j = omega arith in
      ap (λ (zs : List Step). over_of s.c k t zs (2 * j) pages s) (a ∙ ap (λ (zs : List Step). step_on w j ∷ zs) b)
      ∙ (ap (λ (zs : List Step). split s.c k (steps_in t zs) (drop (2 * j + 2) pages) (making t s 0)) (sym b)
      ∙ ap (λ (i : ℕ). split s.c k (steps_in t (drop (suc j) xs)) (drop i pages) (making t s 0)) e)

  reached-split : (j : ℕ) → j < length xs
      → split s.c k (steps_in t (drop j xs)) (drop (2 * j) pages) (making t s 0) ≡ reached k t s w pages j
  unfolding reached
  reached-split zero h = refl
  reached-split (suc j) h = sym (over_below j h)

  pub turn_halves : (j : ℕ) → j < many → (t' : List ℕ) (m' : Session) (at : ℕ) → making t' m' at ≡ reached k t s w pages (suc j)
      → Halves t' (step_on w j).place (step_on w j).head (get_or pages (2 * j) 0) (get_or pages (2 * j + 1) 0) at
  turn_halves j h t' m' at z =
      over_halves pages s (step_on w j) (drop (suc j) xs) (2 * j) (level-here j h) (full-here j h) t' m' at (z ∙ over-here j h)

  turn_reaches : (j : ℕ) → j < many → (t' : List ℕ) (m' : Session) (at : ℕ) (r : Making)
      → making t' m' at ≡ reached k t s w pages (suc j)
      → r ≡ halve s.c k (step_at t' (step_on w j).place) (get_or pages (2 * j) 0) (get_or pages (2 * j + 1) 0) (making t' m' at)
      → r ≡ reached k t s w pages j
  turn_reaches j h t' m' at r z y =
      over-split pages s (step_on w j) (drop (suc j) xs) (2 * j) (level-here j h) (full-here j h) t' m' at r (z ∙ over-here j h) y
      ∙ (ap (λ (zs : List Step). split s.c k (steps_in t zs) (drop (2 * j) pages) (making t s 0)) (sym (here j (below-many h)))
      ∙ reached-split j (below-many h))

  -- one halved after the other: each asks for what stands, and at last the whole split is reached
  next : (j : ℕ) → j < many → halved s.c k w pages j (reached k t s w pages (suc j)) ≡ reached k t s w pages j
  next j h =
      let m = reached k t s w pages (suc j) in
      turn_reaches j h m.table m.session m.at (halved s.c k w pages j m) refl refl

  pub asks-all : (j : ℕ) → j ≤ many → Asks s.c k w pages j (reached k t s w pages j)
  asks-all zero h = tt
  asks-all (suc j) h =
      let m = reached k t s w pages (suc j) in (
        turn_halves j (omega arith) m.table m.session m.at refl,
        subst (Asks s.c k w pages j) (sym (next j (omega arith))) (asks-all j (omega arith)),
      )

  pub halved_all : (j : ℕ) → j ≤ many
      → halvings s.c k w pages j (reached k t s w pages j) ≡ split s.c k (steps_in t w) pages (making t s 0)
  unfolding halvings reached
  halved_all zero h = refl
  halved_all (suc j) h = ap (halvings s.c k w pages j) (next j (omega arith)) ∙ halved_all j (omega arith)

  top : (j : ℕ) → suc j ≡ length w → drop (suc j) xs ≡ []
  top j e = drop_of_length-le xs {i = suc j} (omega arith)

  -- two numbers for each, and one more for a new root
  pub enough-halves : 2 * many ≤ length pages
  enough-halves = go many refl
    where
      go : (i : ℕ) → i ≡ many → 2 * i ≤ length pages
      go zero e = omega arith
      go (suc j) e =
          let h : j < many = omega (arith, e) in
          omega (arith, two-left (2 * j) pages (level-here j h) refl (full-here j h))

  enough-root : many ≡ length w → 2 * many < length pages
  enough-root e = go many refl e
    where
      go : (i : ℕ) → i ≡ many → i ≡ length w → 2 * i < length pages
      go zero d e = absurd (some_page R (sym e))
      go (suc j) d e =
          let h : j < many = omega (arith, d) in
          let L = subst (λ (zs : List Step). Level s.c k t (step_on w j ∷ zs) (drop (2 * j) pages)) (top j e) (level-here j h) in
          omega (arith, three-left (2 * j) pages L refl (full-here j h))

  -- ── Where it starts ───────────────────────────────────────────────────────────────────────────────────────────

  pub way-starts : Starts t w pages many
  way-starts = record {
    some = omega (arith, some_page R);
    len = R.len;
    short = omega (arith, many_is, splits-short xs);
    root = enough-root;
    grows = λ e. go many e refl;
  }
    where
      go : (i : ℕ) → i ≡ length w → i ≡ many → Grows t (step_on w (i - 1)).place (step_on w (i - 1)).head (get_or pages (2 * i) 0)
      go zero e d = absurd (some_page R (sym e))
      go (suc j) e d =
          let two : 2 * j + 2 ≡ 2 * suc j = omega arith in
          let L = subst (λ (zs : List Step). Level s.c k t (step_on w j ∷ zs) (drop (2 * j) pages)) (top j e) (level-here j (omega (arith, d))) in
          let one : j ≡ suc j - 1 = omega arith in
          subst (λ (i : ℕ). Grows t (step_on w i).place (step_on w i).head (get_or pages (2 * suc j) 0)) one
          (subst (λ (i : ℕ). Grows t (step_on w j).place (step_on w j).head (get_or pages i 0)) two
          (top-grows (2 * j) pages L refl (full-here j (omega (arith, d))) s))

  pub way-started : start_of s.c t w pages many s ≡ reached k t s w pages many
  unfolding start_of reached over_of
  way-started = go many refl (eqb many (length w)) refl
    where
      go : (i : ℕ) → i ≡ many → (b : Bool) → eqb i (length w) ≡ b → start_of s.c t w pages i s ≡ reached k t s w pages i
      go zero d true f = absurd (some_page R (sym (eqb-true 0 (length w) f)))
      go (suc j) d true f =
          let e = eqb-true (suc j) (length w) f in
          let one : suc j - 1 ≡ j = omega arith in
          let two : 2 * suc j ≡ 2 * j + 2 = omega arith in
          rw (f, start_of)
          (ap (λ (z : ℕ). grow s.c (step_at t (step_on w z).place) (get_or pages (2 * suc j) 0) (making t s 0)) one
          ∙ (ap (λ (z : ℕ). grow s.c (step_at t (step_on w j).place) (get_or pages z 0) (making t s 0)) two
          ∙ ap (λ (zs : List Step). over_of s.c k t zs (2 * j) pages s)
          (sym (here j (omega arith) ∙ ap (λ (zs : List Step). step_on w j ∷ zs) (top j e)))))
      go i d false f =
          let less : i < length xs = omega (arith, d, many_is, splits-short xs, eqb-false i (length w) f) in
          let room : full_by (step_on w i).head ≡ false =
          ap (λ (z : ℕ). full_by (get_or xs z no_step).head) (d ∙ many_is) ∙ splits-end xs (omega (arith, d, many_is)) in
          let read-room = full-read t (step_on w i) (all-at R.heads i no_step less) ∙ room in
          rw (f, start_of)
          (level-stays s.c k t (step_on w i) (drop (suc i) xs) (drop (2 * i) pages) s read-room
          ∙ (ap (λ (zs : List Step). split s.c k (steps_in t zs) (drop (2 * i) pages) (making t s 0)) (sym (here i less))
          ∙ reached-split i less))

-- ── Where the code starts ───────────────────────────────────────────────────────────────────────────────────────

pub start-grows : {t : List ℕ} {w : List Step} {pages : List ℕ} {many : ℕ} → Starts t w pages many → many ≡ length w
    → (x : Step) → x ≡ step_on w (many - 1) → Grows t x.place x.head (get_or pages (2 * many) 0)
start-grows {t} {w} {pages} {many} S e x d = subst (λ (y : Step). Grows t y.place y.head (get_or pages (2 * many) 0)) (sym d) (S.grows e)

module _ (c : ℕ) (t : List ℕ) (w : List Step) (pages : List ℕ) (many : ℕ) (s : Session) where
  pub start-grown : many ≡ length w → (x : Step) → x ≡ step_on w (many - 1) → (r : Making)
      → r ≡ grow c (step_at t x.place) (get_or pages (2 * many) 0) (making t s 0) → r ≡ start_of c t w pages many s
  unfolding start_of
  start-grown e x d r q =
      let f = eq-eqb many (length w) e in
      q ∙ (ap (λ (y : Step). grow c (step_at t y.place) (get_or pages (2 * many) 0) (making t s 0)) d ∙ rw (f, start_of))

  pub start-stays : many ≢ length w → (x : Step) → x ≡ step_on w many → making t s x.place.child ≡ start_of c t w pages many s
  unfolding start_of
  start-stays e x d =
      let f = ne_eqb many (length w) e in
      ap (λ (y : Step). making t s y.place.child) d ∙ rw (f, start_of)

module _ {k : ℕ} {t : List ℕ} {s : Session} {w : List Step} {pages : List ℕ} (R : ReadyWay k t s w pages)
    (many : ℕ) (q : many ≡ splits_by (heads_of w)) (m : Making) (z : m ≡ start_of s.c t w pages many s) where
  pub way-begins : Asks s.c k w pages many m
  way-begins = subst (Asks s.c k w pages many) (sym (z ∙ way-started R many q)) (asks-all R many q many (omega arith))

  pub way-ends : (i : ℕ) (r : Making) → i ≡ 0 → halvings s.c k w pages i r ≡ halvings s.c k w pages many m
      → r ≡ split s.c k (steps_in t w) pages (making t s 0)
  way-ends i r e h =
      none_left s.c k w pages i r (split s.c k (steps_in t w) pages (making t s 0)) e
      (h ∙ (ap (halvings s.c k w pages many) (z ∙ way-started R many q) ∙ halved_all R many q many (omega arith)))

-- ── A leaf that has room ────────────────────────────────────────────────────────────────────────────────────────

pub leaf-stays : {k : ℕ} {t : List ℕ} {s : Session} {w : List Step} {pages : List ℕ} → ReadyWay k t s w pages → {b : Bool}
    → b ≡ full_by (step_on w 0).head → b ≡ false
    → making t s (step_on w 0).place.child ≡ split s.c k (steps_in t w) pages (making t s 0)
leaf-stays {k} {t} {s} {w} {pages} R q e = go w (some_page R) R.heads (sym q ∙ e)
  where
    go : (xs : List Step) → length xs ≢ 0 → All (HeadRead t) xs → full_by (step_on xs 0).head ≡ false
        → making t s (step_on xs 0).place.child ≡ split s.c k (steps_in t xs) pages (making t s 0)
    go [] z h f = absurd (z refl)
    go (x ∷ xs) z h f = level-stays s.c k t x xs pages s (full-read t x (all_head h) ∙ f)
