-- A page on a way is halved below one that has its entry and room for one more: which pages stand where afterwards, and
-- that the half on the key's way leads on as the page did. Assumes nothing.
use Prim.Native.Nat.{ℕ, suc, ◌-◌, ◌≤◌, ◌<◌}
use native.Mathlib.Omega.{arith}
use mathlib.Core.Path.{◌≡◌, refl, sym, ap, ◌∙◌, subst}
use mathlib.Core.Logic.{◌⊎◌, inl, inr, ◌≢◌}
use mathlib.Core.Bool.{Bool, true, false}
use mathlib.Core.List.{List}
use mathlib.Core.Option.{some}
use lib.Dec.{ltb, eqb}
use lib.ListN.{length}
use borrow.Author.Tests.{ltb-true, ltb-false}
use Rattle.rules.specs.Layout.{leaf_kind}
use Rattle.rules.specs.Test.{mem}
use Rattle.rules.specs.Entry.{Child, keys, find, put}
use Rattle.rules.specs.Page.{View, Page, is_leaf, view_in, page_in, fresh, touch}
use Rattle.rules.specs.Table.{page_at, read, build, change}
use Rattle.rules.specs.Place.{kids, pick}
use Rattle.rules.specs.Walk.{Step}
use Rattle.rules.specs.Insert.{full, divide, lower_half, upper_half, previous_of, new_child, put_child, lower_page, upper_page, twins, changed, Making, making, halve}
use Rattle.rules.specs.declared.Place.{Place}
use Rattle.rules.specs.declared.Session.{Session}
use Rattle.rules.proofs.Entries.Tests.{fails}
use Rattle.rules.proofs.Entries.Views.{Shaped, shaped-read, shaped-lower, shaped-upper}
use Rattle.rules.proofs.Entries.Sounds.{Sound, sound-of, sound-same, starts-mem}
use Rattle.rules.proofs.Entries.Places.{Fits}
use Rattle.rules.proofs.Entries.Picks.{Kid, kid-key}
use Rattle.rules.proofs.Entries.Asks.{pick-leaf, kids-pick, kids_part}
use Rattle.rules.proofs.Entries.Puts.{length-put-le, length-put-present}
use Rattle.rules.proofs.Entries.Halves.{Divided, divided, find-lower, find-upper, lower_page-fits, upper_page-fits, lower-room, upper-room, room}
use Rattle.rules.proofs.Entries.Twins.{shaped-twins}
use Rattle.rules.proofs.Bytes.Pages.{Wide, room-page_bytes}
use Rattle.rules.proofs.Bytes.Tables.{Has, Room, has-page, wide_read, length-build, read-build-same, read-build-other, bytes-build, length-change, read-change-other, bytes-change}
use Rattle.rules.proofs.Bytes.Widths.{wide-lower_page, wide-upper_page}
use Rattle.head.specs.declared.Head.{Head}
use Rattle.head.proofs.Headers.{head_of}
use Rattle.build.specs.Range.{Divides}
use Rattle.build.proofs.Sounds.{full-divides}
use Rattle.edit.specs.Takes.{TakesTwins}
use Rattle.split.specs.Split.{step_at, Halves}
use Rattle.split.proofs.Halved.{room-lower, room-upper}
use Rattle.apply.specs.Leads.{Whole, Stands}

-- ── The page on the key's way ───────────────────────────────────────────────────────────────────────────────────

-- what stands on the page at a number leads the key on as what was shown at e, and has room
pub record Onward (n k : ℕ) (t : List ℕ) (i : ℕ) (e : Place) (v : View) : Type 0 where
  pub place : Place
  pub page : 1 ≤ i
  pub below : i < n
  pub fits : Fits n place (read t i)
  pub low : place.low ≤ k
  pub high : k ≤ place.high
  pub kind : (read t i).view.kind ≡ v.kind
  pub leads : pick k (kids place (read t i).view) ≡ pick k (kids e v)
  pub holds : find k (read t i).view.certs ≡ find k v.certs
  pub roomy : full (read t i).view ≡ false

-- the page above takes the two entries that a full page's entry becomes
pub takes : {n k : ℕ} {t : List ℕ} {i : ℕ} (u s : Step) → Onward n k t i u.place u.page.view → is_leaf u.page.view ≡ false
    → pick k (kids u.place u.page.view) ≡ some s.place → Fits n s.place s.page → Shaped s.page.view
    → full s.page.view ≡ true → TakesTwins s.page.low (divide s.page.view) (read t i).view
unfolding is_leaf
takes {n} {k} {t} {i} u s o inner h f w q =
    let v = (read t i).view in
    let d : Kid (v.kind - 1) o.place.high v.children s.place = kids-pick o.place o.fits.sound k s.place (o.leads ∙ h) in
    let x = divided f.sound w q in
    let up : s.page.low < divide s.page.view = omega (arith, f.low, x.above) in
    record {
      has = record {
        inner = ap (λ (j : ℕ). eqb j leaf_kind) o.kind ∙ inner;
        room = (room v o.roomy).1;
        rises = o.fits.sound.children_rise;
        present = ap (λ (l : ℕ). mem l (keys v.children)) f.low ∙ kid-key d;
      };
      absent = none_between d (divide s.page.view) (omega (arith, x.above)) x.within;
    }
  where
    none_between : {want high : ℕ} {xs : List Child} {e : Place} → Kid want high xs e → (m : ℕ) → e.low < m → m ≤ e.high
        → mem m (keys xs) ≡ false
    none_between {xs = xs} x m a b = fails (mem m (keys xs)) (λ q. absurd (omega (arith, x.next m q a)))

leaf-lower : (v : View) → is_leaf v ≡ true → is_leaf (lower_half v) ≡ true
unfolding is_leaf lower_half
leaf-lower v h = h

leaf-upper : (v : View) → is_leaf v ≡ true → is_leaf (upper_half v) ≡ true
unfolding is_leaf upper_half
leaf-upper v h = h

-- ── Halved ──────────────────────────────────────────────────────────────────────────────────────────────────────

-- the numbers of the halves and of the page above, all pages and all others
pub record Sites (n : ℕ) (e : Place) (lower upper at : ℕ) : Type 0 where
  pub lower_page_lem : 1 ≤ lower
  pub lower_below : lower < n
  pub upper_page_lem : 1 ≤ upper
  pub upper_below : upper < n
  pub at_below : at < n
  pub two : lower ≢ upper
  pub child_lower : e.child ≢ lower
  pub at_lower : at ≢ lower
  pub at_upper : at ≢ upper

module _ {n c k : ℕ} {T : List ℕ} (w : Whole n c T) {e : Place} (st : Stands n k T (step_at T e)) (f : full (read T e.child).view ≡ true)
    {lower upper at : ℕ} (x : Sites n e lower upper at)
    (tk : TakesTwins (read T e.child).low (divide (read T e.child).view) (read T at).view) where
  abbrev p : Page
  p = read T e.child

  abbrev T₁ : List ℕ
  T₁ = build T lower (lower_page c p)

  abbrev T₂ : List ℕ
  T₂ = build T₁ upper (upper_page c p)

  abbrev above : Page → Page
  above q = touch c (twins c (step_at T e) lower upper q.view) q

  abbrev T₃ : List ℕ
  T₃ = change T₂ at (above (read T₂ at))

  shaped : Shaped p.view
  shaped = shaped-read T e.child

  own : Sound n p.low p.high p.view
  own = sound-same (sym st.fits.low) (sym st.fits.high) st.fits.sound

  pub divides : Divides p.view
  unfolding read view_in page_in
  divides = full-divides n (page_at T e.child) (sound-of n p own) f

  d : Divided e.low e.high p.view
  d = divided st.fits.sound shaped f

  wide : Wide p
  wide = wide_read T e.child w.bytes

  rl : Room (lower_page c p)
  rl = room-lower c T e.child

  ru : Room (upper_page c p)
  ru = room-upper c T e.child divides

  hl : Has T lower
  hl = has-page T n lower w.long x.lower_below

  l₁ : length T₁ ≡ length T
  l₁ = length-build T lower (lower_page c p) hl rl

  hu : Has T₁ upper
  hu = has-page T₁ n upper (l₁ ∙ w.long) x.upper_below

  l₂ : length T₂ ≡ length T
  l₂ = length-build T₁ upper (upper_page c p) hu ru ∙ l₁

  stays₂ : (i : ℕ) → i ≢ lower → i ≢ upper → read T₂ i ≡ read T i
  stays₂ i a b = read-build-other T₁ upper (upper_page c p) hu ru i b ∙ read-build-other T lower (lower_page c p) hl rl i a

  room-above : (q : Page) → Shaped q.view → TakesTwins p.low (divide p.view) q.view → Room (above q)
  unfolding touch twins put_child new_child
  room-above q sh tq =
      let y = new_child c (divide p.view) upper (previous_of c (step_at T e)) in
      let z = new_child c p.low lower (previous_of c (step_at T e)) in
      let xs = q.view.children in
      let same = length-put-present z xs tq.has.rises tq.has.present in
      let more = length-put-le y (put z xs) in
      room-page_bytes (above q) (shaped-twins c (step_at T e) lower upper q.view tq.has.inner sh)
      (omega (arith, ap length (sh.inner tq.has.inner))) (omega (arith, same, more, tq.has.room))

  ra : Room (above (read T₂ at))
  ra =
      room-above (read T₂ at) (shaped-read T₂ at)
      (subst (λ (q : Page). TakesTwins p.low (divide p.view) q.view) (sym (stays₂ at x.at_lower x.at_upper)) tk)

  ha : Has T₂ at
  ha = has-page T₂ n at (l₂ ∙ w.long) x.at_below

  whole : Whole n c T₃
  whole = record {
    long = length-change T₂ at (above (read T₂ at)) ha ra ∙ (l₂ ∙ w.long);
    few = w.few;
    bytes = bytes-change T₂ at (above (read T₂ at)) (bytes-build T₁ upper (upper_page c p) (bytes-build T lower (lower_page c p) w.bytes));
    counter = w.counter;
  }

  others : (i : ℕ) → i ≢ lower → i ≢ upper → i ≢ at → read T₃ i ≡ read T i
  others i a b q = read-change-other T₂ at (above (read T₂ at)) ha ra i q ∙ stays₂ i a b

  at_lower : read T₃ lower ≡ lower_page c p
  at_lower =
      read-change-other T₂ at (above (read T₂ at)) ha ra lower (λ q. x.at_lower (sym q))
      ∙ (read-build-other T₁ upper (upper_page c p) hu ru lower x.two
      ∙ read-build-same T lower (lower_page c p) hl rl (wide-lower_page w.counter wide))

  at_upper : read T₃ upper ≡ upper_page c p
  at_upper =
      read-change-other T₂ at (above (read T₂ at)) ha ra upper (λ q. x.at_upper (sym q))
      ∙ read-build-same T₁ upper (upper_page c p) hu ru (wide-upper_page w.counter wide)

  -- the places that the two entries ask for
  abbrev lower_asked : Place
  lower_asked = record { child = lower; previous = 0; birth = c; low = e.low; high = divide p.view - 1; want = 0 }

  abbrev upper_asked : Place
  upper_asked = record { child = upper; previous = 0; birth = c; low = divide p.view; high = e.high; want = 0 }

  leads-lower : k < divide p.view → pick k (kids lower_asked (lower_half p.view)) ≡ pick k (kids e p.view)
  leads-lower b = go (is_leaf p.view) refl
    where
      go : (t : Bool) → is_leaf p.view ≡ t → pick k (kids lower_asked (lower_half p.view)) ≡ pick k (kids e p.view)
      go true i = pick-leaf k lower_asked (lower_half p.view) (shaped-lower p.view shaped) (leaf-lower p.view i) ∙ sym (pick-leaf k e p.view shaped i)
      go false i =
          let back : suc (divide p.view - 1) ≡ divide p.view = omega (arith, d.above) in
          ap (λ (v : View). pick k (kids lower_asked v)) d.lower
          ∙ kids_part e st.fits.sound lower_asked k (starts-mem e.low p.view.children (st.fits.sound.starts i))
          (omega (arith, d.within)) (inr (ap (λ (m : ℕ). mem m (keys p.view.children)) back ∙ d.key i)) st.low (omega (arith, d.above))

  leads-upper : divide p.view ≤ k → pick k (kids upper_asked (upper_half p.view)) ≡ pick k (kids e p.view)
  leads-upper b = go (is_leaf p.view) refl
    where
      go : (t : Bool) → is_leaf p.view ≡ t → pick k (kids upper_asked (upper_half p.view)) ≡ pick k (kids e p.view)
      go true i = pick-leaf k upper_asked (upper_half p.view) (shaped-upper p.view shaped) (leaf-upper p.view i) ∙ sym (pick-leaf k e p.view shaped i)
      go false i =
          ap (λ (v : View). pick k (kids upper_asked v)) d.upper
          ∙ kids_part e st.fits.sound upper_asked k (d.key i) (omega arith) (inl refl) b st.high

  on_lower : k < divide p.view → Onward n k T₃ lower e p.view
  unfolding lower_page lower_half fresh
  on_lower b = record {
    place = lower_asked;
    page = x.lower_page_lem;
    below = x.lower_below;
    fits = subst (Fits n lower_asked) (sym at_lower) (lower_page-fits c lower_asked p own shaped f refl (sym st.fits.low) refl (inl refl));
    low = st.low;
    high = omega (arith, d.above);
    kind = ap (λ (q : Page). q.view.kind) at_lower;
    leads = ap (λ (q : Page). pick k (kids lower_asked q.view)) at_lower ∙ leads-lower b;
    holds = ap (λ (q : Page). find k q.view.certs) at_lower ∙ find-lower st.fits.sound shaped f k st.low b;
    roomy = ap (λ (q : Page). full q.view) at_lower ∙ lower-room p.view;
  }

  on_upper : divide p.view ≤ k → Onward n k T₃ upper e p.view
  unfolding upper_page upper_half fresh
  on_upper b = record {
    place = upper_asked;
    page = x.upper_page_lem;
    below = x.upper_below;
    fits = subst (Fits n upper_asked) (sym at_upper) (upper_page-fits c upper_asked p own shaped f refl refl (sym st.fits.high) (inl refl));
    low = b;
    high = st.high;
    kind = ap (λ (q : Page). q.view.kind) at_upper;
    leads = ap (λ (q : Page). pick k (kids upper_asked q.view)) at_upper ∙ leads-upper b;
    holds = ap (λ (q : Page). find k q.view.certs) at_upper ∙ find-upper st.fits.sound shaped f k b st.high;
    roomy = ap (λ (q : Page). full q.view) at_upper ∙ upper-room st.fits.sound;
  }

  -- ── What is left, and what the code asks for ──────────────────────────────────────────────────────────────────

  abbrev left : Session → Making
  left s = halve c k (step_at T e) lower upper (making T s at)

  pub left-table : (s : Session) → (left s).table ≡ T₃
  unfolding halve changed
  left-table s = refl

  pub left-whole : (s : Session) → Whole n c (left s).table
  left-whole s = subst (Whole n c) (sym (left-table s)) whole

  pub left-others : (s : Session) (i : ℕ) → i ≢ lower → i ≢ upper → i ≢ at → read (left s).table i ≡ read T i
  left-others s i a b q = ap (λ (t : List ℕ). read t i) (left-table s) ∙ others i a b q

  pub left-onward : (s : Session) → Onward n k (left s).table (left s).at e p.view
  unfolding halve
  left-onward s = subst (λ (t : List ℕ). Onward n k t (left s).at e p.view) (sym (left-table s)) (go (ltb k (divide p.view)) refl)
    where
      go : (b : Bool) → ltb k (divide p.view) ≡ b → Onward n k T₃ (left s).at e p.view
      go true q = rw (q, halve) (on_lower (ltb-true k (divide p.view) q))
      go false q = rw (q, halve) (on_upper (ltb-false k (divide p.view) q))

  pub left_at : (s : Session) → ((left s).at ≡ lower) ⊎ ((left s).at ≡ upper)
  unfolding halve
  left_at s = go (ltb k (divide p.view)) refl
    where
      go : (b : Bool) → ltb k (divide p.view) ≡ b → ((left s).at ≡ lower) ⊎ ((left s).at ≡ upper)
      go true q = inl (rw (q, halve))
      go false q = inr (rw (q, halve))

  pub halves : (h : Head) → h ≡ head_of p → Halves T e h lower upper at
  halves h q = record {
    few = omega (arith, w.long, w.few);
    child_in_lem = omega (arith, w.long, st.below);
    lower_in = omega (arith, w.long, x.lower_below);
    upper_in = omega (arith, w.long, x.upper_below);
    above_in_lem = omega (arith, w.long, x.at_below);
    head = q;
    divides = divides;
    takes = tk;
    child_lower = x.child_lower;
    above_lower = x.at_lower;
    above_upper = x.at_upper;
  }
