-- The way of the inserted key after the splits, in tables of any bytes: it still leads down from the root, through the pages that
-- were halved anew, to the page that the key goes into.
use Prim.Native.Nat.{ℕ, ◌-◌, ◌*◌, ◌≤◌, ◌<◌}
use native.Mathlib.Omega.{arith}
use mathlib.Core.Path.{◌≡◌, refl, sym, ap, ◌∙◌, subst}
use mathlib.Core.Logic.{◌⊎◌, inl, inr, ◌≢◌}
use mathlib.Core.Bool.{Bool, true, false}
use mathlib.Core.List.{List, [], ◌∷◌}
use mathlib.Core.Option.{some, none-ne-some}
use lib.Dec.{ltb}
use lib.ListN.{length}
use borrow.Author.Tests.{ltb-true, ltb-false}
use Rattle.rules.specs.Layout.{page_size, inner_room, zero_kind}
use Rattle.rules.specs.Test.{mem}
use Rattle.rules.specs.Entry.{Child, keys}
use Rattle.rules.specs.Page.{View, Page, is_leaf, page_in, touch}
use Rattle.rules.specs.Table.{read, kind0, n0}
use Rattle.rules.specs.Place.{root_place, kids, pick}
use Rattle.rules.specs.Walk.{Step, numbers}
use Rattle.rules.specs.Insert.{full, divide, previous_of, new_child, put_child, lower_page, upper_page, twins, Making, halve}
use Rattle.rules.specs.declared.Place.{Place}
use Rattle.rules.proofs.Entries.Tests.{not_both, fails, mem-nil, mem-head, mem_tail, mem_cases}
use Rattle.rules.proofs.Entries.Views.{Shaped, shaped-read}
use Rattle.rules.proofs.Entries.Sounds.{Sound, sound-same}
use Rattle.rules.proofs.Entries.Places.{Fits}
use Rattle.rules.proofs.Bytes.EntryBytes.{WideChild}
use Rattle.rules.proofs.Entries.Picks.{Kid, kid-key, pick-holds}
use Rattle.rules.proofs.Entries.Asks.{pick-leaf, kids-pick, kids-rising, kids-within}
use Rattle.rules.proofs.Entries.Puts.{length-put-le}
use Rattle.rules.proofs.Entries.Halves.{Divided, divided, room, lower_page-fits, upper_page-fits, twins-fits, previous_of-below}
use Rattle.rules.proofs.Entries.Twins.{Twin, lower_place, upper_place, kids-twins, twin-pick-lower, twin-pick-upper}
use Rattle.rules.proofs.Bytes.Pages.{Wide, wide-touch}
use Rattle.rules.proofs.Bytes.Widths.{wide-put_child, wide-new_child, divide-bound, wide-lower_page, wide-upper_page}
use Rattle.rules.proofs.Bytes.Tables.{wide_read}
use Rattle.rules.proofs.Bytes.PageZero.{Same0, same0, root_place-same}
use Rattle.apply.specs.Leads.{Whole, Stands, Leads}
use Rattle.apply.proofs.Halving.{Sites}
use Rattle.apply.proofs.Going.{leads-first}
use Rattle.reading.proofs.Leading.{top_of, leads_in}
use Rattle.reading.proofs.Writing.{halve-other, halve-lower, halve-upper, halve-above}

-- ── Steps from the root down to a page ──────────────────────────────────────────────────────────────────────────

-- the place of the last step up
abbrev pub top_place : Step → List Step → Place
top_place s above = top_of above s.place

-- a way in T from its root to page i, over pages entered and new
pub record Chained (n k : ℕ) (T : List ℕ) (i : ℕ) (entered new : List ℕ) : Type 0 where
  pub first : Step
  pub rest : List Step
  pub leads : Leads n k T (first ∷ rest)
  pub root : root_place T ≡ top_place first rest
  pub child : first.place.child ≡ i
  pub only : (j : ℕ) → mem j (numbers (first ∷ rest)) ≡ true → (mem j entered ≡ true) ⊎ (mem j new ≡ true)
  -- page 0 is still one of such a table
  pub zero_kind_lem : kind0 T ≡ zero_kind
  pub zero_pages : n0 T ≡ n

-- the first step shows another page
pub leads-again : (n k : ℕ) (t u : List ℕ) (s : Step) (q : Page) (above : List Step) → Stands n k u (record { place = s.place; page = q })
    → ((j : ℕ) → mem j (numbers above) ≡ true → read u j ≡ read t j) → Leads n k t (s ∷ above)
    → Leads n k u (record { place = s.place; page = q } ∷ above)
leads-again n k t u s q [] x f l = (x, l.1, l.2)
leads-again n k t u s q (v ∷ above) x f l = (x, l.1, l.2, leads_in n k t u v above f l.3)

-- the first step's number is none of those above
pub first-apart : (n k : ℕ) (t : List ℕ) (s : Step) (above : List Step) → Leads n k t (s ∷ above) → (j : ℕ) → mem j (numbers above) ≡ true
    → j ≢ s.place.child
unfolding numbers
first-apart n k t s [] l j m q = mem-nil j m
first-apart n k t s (u ∷ above) l j m q = not_both (ap (λ (i : ℕ). mem i (numbers (u ∷ above))) (sym q) ∙ m) l.1

-- ── One page halved below the last of them ──────────────────────────────────────────────────────────────────────

module _ {n c k : ℕ} (M : Making) (s : Step) (e : Place) {entered ns : List ℕ} (w : Whole n c M.table) (st : Stands n k M.table s)
    (f : full s.page.view ≡ true) {a b : ℕ} (x : Sites n s.place a b M.at) (C : Chained n k M.table M.at entered ns)
    (picks : pick k (kids C.first.place C.first.page.view) ≡ some e) (low : e.low ≡ s.page.low) (high : e.high ≡ s.page.high)
    (want : e.want ≡ s.page.view.kind) (roomy : full (read M.table M.at).view ≡ false)
    (end : length (halve c k s a b M).table ≡ n * page_size) (a-old : mem a entered ≡ false) (a_new : mem a ns ≡ false)
    (b-old : mem b entered ≡ false) (b_new : mem b ns ≡ false) where
  abbrev T : List ℕ
  T = (halve c k s a b M).table

  abbrev u : Step
  u = C.first

  abbrev v : View
  v = C.first.page.view

  U : Stands n k M.table C.first
  U = leads-first C.first C.rest C.leads

  here : read M.table M.at ≡ C.first.page
  here = ap (read M.table) (sym C.child) ∙ U.reads

  short : length (halve c k s a b M).table ≤ length M.table
  short = omega (arith, end, w.long)

  shaped-u : Shaped C.first.page.view
  shaped-u = subst (λ (q : Page). Shaped q.view) here (shaped-read M.table M.at)

  shaped_s : Shaped s.page.view
  shaped_s = subst (λ (q : Page). Shaped q.view) st.reads (shaped-read M.table s.place.child)

  inner : is_leaf C.first.page.view ≡ false
  inner = fails (is_leaf v) (λ l. none-ne-some e (sym (pick-leaf k u.place v shaped-u l) ∙ picks))

  kid : Kid (v.kind - 1) u.place.high v.children e
  kid = kids-pick u.place U.fits.sound k e picks

  within : (u.place.low ≤ e.low) × (e.high ≤ u.place.high)
  within = kids-within u.place U.fits.sound e kid

  cleft : Divided s.place.low s.place.high s.page.view
  cleft = divided st.fits.sound shaped_s f

  own : Sound n s.page.low s.page.high s.page.view
  own = sound-same (sym st.fits.low) (sym st.fits.high) st.fits.sound

  abbrev X : Child
  X = new_child c s.page.low a (previous_of c s)

  abbrev Y : Child
  Y = new_child c (divide s.page.view) b (previous_of c s)

  twin : Twin (v.kind - 1) u.place.high v.children e X Y
  unfolding new_child
  twin = record {
    order = kids-rising u.place U.fits.sound;
    kid = kid;
    same = sym low;
    up = omega (arith, low, st.fits.low, cleft.above);
    to = omega (arith, high, st.fits.high, cleft.within);
  }

  before : previous_of c s < n
  before = previous_of-below n c s st.previous st.below

  few-children : length v.children < inner_room
  few-children = (room v (subst (λ (q : Page). full q.view ≡ false) here roomy)).1

  abbrev page : Page
  page = touch c (twins c s a b v) u.page

  fits-page : Fits n C.first.place page
  fits-page =
      twins-fits c s a b (ap (λ (i : ℕ). mem i (keys v.children)) (sym low) ∙ kid-key kid) few-children
      (omega (arith, within.0, low, st.fits.low, cleft.above)) (omega (arith, within.1, high, st.fits.high, cleft.within))
      x.lower_page_lem x.lower_below x.upper_page_lem x.upper_below before U.fits

  wide-u : Wide C.first.page
  wide-u = subst Wide here (wide_read M.table M.at w.bytes)

  wide_s : Wide s.page
  wide_s = subst Wide st.reads (wide_read M.table s.place.child w.bytes)

  wide_x : WideChild X
  wide_x = wide-new_child {child = a} {previous = previous_of c s} w.counter wide_s.low (omega (arith, x.lower_below, w.few)) (omega (arith, before, w.few))

  wide_y : WideChild Y
  wide_y =
      wide-new_child {child = b} {previous = previous_of c s} w.counter (divide-bound wide_s.view) (omega (arith, x.upper_below, w.few))
      (omega (arith, before, w.few))

  wide-page : Wide page
  unfolding twins put_child is_leaf
  wide-page =
      wide-touch
      (wide-put_child (wide-put_child wide-u.view wide_x inner (omega (arith, few-children))) wide_y inner
      (omega (arith, length-put-le X v.children, few-children)))
      w.counter wide-u

  at_lower : ltb k (divide s.page.view) ≡ true → (halve c k s a b M).at ≡ a
  unfolding halve
  at_lower q = rw (q, halve)

  at_upper : ltb k (divide s.page.view) ≡ false → (halve c k s a b M).at ≡ b
  unfolding halve
  at_upper q = rw (q, halve)

  at_from : 1 ≤ M.at
  at_from = omega (arith, C.child, U.page)

  long : n * page_size ≤ length M.table
  long = omega (arith, w.long)

  reads-above : read (halve c k s a b M).table M.at ≡ page
  reads-above =
      halve-above c k M s a b long x.lower_below x.upper_below x.at_below short u.page here wide-page x.at_lower x.at_upper

  reads_other : (j : ℕ) → j ≢ a → j ≢ b → j ≢ M.at → read (halve c k s a b M).table j ≡ read M.table j
  unfolding read
  reads_other j p q r =
      ap page_in (halve-other c k M s a b long x.lower_below x.upper_below x.at_below short j p q r)

  -- pages of the chain are none of the new ones
  chain_not : (i j : ℕ) → mem i entered ≡ false → mem i ns ≡ false → mem j (numbers (C.first ∷ C.rest)) ≡ true → j ≢ i
  chain_not i j p q m z = go (C.only j m)
    where
      go : (mem j entered ≡ true) ⊎ (mem j ns ≡ true) → ⊥
      go (inl h) = not_both (ap (λ (o : ℕ). mem o entered) (sym z) ∙ h) p
      go (inr h) = not_both (ap (λ (o : ℕ). mem o ns) (sym z) ∙ h) q

  rest-same : (j : ℕ) → mem j (numbers C.rest) ≡ true → read (halve c k s a b M).table j ≡ read M.table j
  unfolding numbers
  rest-same j m =
      let i = mem_tail j u.place.child (numbers C.rest) m in
      reads_other j (chain_not a j a-old a_new i) (chain_not b j b-old b_new i)
      (λ q. first-apart n k M.table C.first C.rest C.leads j m (q ∙ sym C.child))

  above-stands : Stands n k (halve c k s a b M).table (record { place = C.first.place; page = page })
  above-stands = record {
    page = U.page;
    below = U.below;
    previous = U.previous;
    reads = ap (read (halve c k s a b M).table) C.child ∙ reads-above;
    fits = fits-page;
    low = U.low;
    high = U.high;
  }

  above-leads : Leads n k (halve c k s a b M).table (record { place = C.first.place; page = page } ∷ C.rest)
  above-leads = leads-again n k M.table (halve c k s a b M).table C.first page C.rest above-stands rest-same C.leads

  zero_same : Same0 (halve c k s a b M).table M.table
  zero_same =
      same0 (halve c k s a b M).table M.table
      (halve-other c k M s a b long x.lower_below x.upper_below x.at_below short 0
      (λ q. absurd (omega (arith, q, x.lower_page_lem))) (λ q. absurd (omega (arith, q, x.upper_page_lem))) (λ q. absurd (omega (arith, q, at_from))))

  -- the half that the key's way goes on in
  module _ (h : Step) (stands : Stands n k (halve c k s a b M).table h)
      (goes : pick k (kids C.first.place (twins c s a b C.first.page.view)) ≡ some h.place)
      (new : (h.place.child ≡ a) ⊎ (h.place.child ≡ b)) where
    half_apart : mem h.place.child (numbers (C.first ∷ C.rest)) ≡ false
    half_apart = fails (mem h.place.child (numbers (C.first ∷ C.rest))) (λ m. go new m)
      where
        go : (h.place.child ≡ a) ⊎ (h.place.child ≡ b) → mem h.place.child (numbers (C.first ∷ C.rest)) ≡ true → ⊥
        go (inl q) m = chain_not a h.place.child a-old a_new m q
        go (inr q) m = chain_not b h.place.child b-old b_new m q

    half_chained : (i : ℕ) → h.place.child ≡ i → Chained n k (halve c k s a b M).table i (s.place.child ∷ entered) (a ∷ (b ∷ ns))
    unfolding numbers touch
    half_chained i q = record {
      first = h;
      rest = record { place = C.first.place; page = page } ∷ C.rest;
      leads = (stands, half_apart, goes, above-leads);
      root = root_place-same zero_same ∙ C.root;
      child = q;
      only = λ j m. which j (mem_cases j h.place.child (u.place.child ∷ numbers C.rest) m);
      zero_kind_lem = zero_same.kind ∙ C.zero_kind_lem;
      zero_pages = zero_same.n ∙ C.zero_pages;
    }
      where
        own_new : (j : ℕ) → j ≡ h.place.child → (h.place.child ≡ a) ⊎ (h.place.child ≡ b) → mem j (a ∷ (b ∷ ns)) ≡ true
        own_new j z (inl y) = ap (λ (o : ℕ). mem o (a ∷ (b ∷ ns))) (z ∙ y) ∙ mem-head a (b ∷ ns)
        own_new j z (inr y) = ap (λ (o : ℕ). mem o (a ∷ (b ∷ ns))) (z ∙ y) ∙ mem_tail b a (b ∷ ns) (mem-head b ns)

        old : (j : ℕ) → (mem j entered ≡ true) ⊎ (mem j ns ≡ true) → (mem j (s.place.child ∷ entered) ≡ true) ⊎ (mem j (a ∷ (b ∷ ns)) ≡ true)
        old j (inl y) = inl (mem_tail j s.place.child entered y)
        old j (inr y) = inr (mem_tail j a (b ∷ ns) (mem_tail j b ns y))

        which : (j : ℕ) → (j ≡ h.place.child) ⊎ (mem j (u.place.child ∷ numbers C.rest) ≡ true)
            → (mem j (s.place.child ∷ entered) ≡ true) ⊎ (mem j (a ∷ (b ∷ ns)) ≡ true)
        which j (inl z) = inr (own_new j z new)
        which j (inr z) = old j (C.only j z)

  holds : (e.low ≤ k) × (k ≤ e.high)
  holds = pick-holds k (kids u.place v) e picks

  lower_chained : k < divide s.page.view → Chained n k (halve c k s a b M).table a (s.place.child ∷ entered) (a ∷ (b ∷ ns))
  unfolding new_child
  lower_chained l =
      half_chained (record { place = lower_place e X Y; page = lower_page c s.page })
      (record {
        page = x.lower_page_lem;
        below = x.lower_below;
        previous = before;
        reads = halve-lower c k M s a b long x.lower_below x.upper_below x.at_below short (wide-lower_page w.counter wide_s) x.two
            (λ q. x.at_lower (sym q));
        fits = lower_page-fits c (lower_place e X Y) s.page own shaped_s f refl low refl (inr want);
        low = holds.0;
        high = omega (arith, l);
      })
      (ap (pick k) (kids-twins u.place c s a b v) ∙ twin-pick-lower twin k holds.0 l) (inl refl) a refl

  upper_chained : divide s.page.view ≤ k → Chained n k (halve c k s a b M).table b (s.place.child ∷ entered) (a ∷ (b ∷ ns))
  unfolding new_child
  upper_chained l =
      half_chained (record { place = upper_place e Y; page = upper_page c s.page })
      (record {
        page = x.upper_page_lem;
        below = x.upper_below;
        previous = before;
        reads = halve-upper c k M s a b long x.lower_below x.upper_below x.at_below short (wide-upper_page w.counter wide_s)
            (λ q. x.at_upper (sym q));
        fits = upper_page-fits c (upper_place e Y) s.page own shaped_s f refl refl high (inr want);
        low = l;
        high = holds.1;
      })
      (ap (pick k) (kids-twins u.place c s a b v) ∙ twin-pick-upper twin k l holds.1) (inr refl) b refl

  pub halve_chained : Chained n k (halve c k s a b M).table (halve c k s a b M).at (s.place.child ∷ entered) (a ∷ (b ∷ ns))
  halve_chained = go (ltb k (divide s.page.view)) refl
    where
      Goal : ℕ → Type 0
      Goal i = Chained n k (halve c k s a b M).table i (s.place.child ∷ entered) (a ∷ (b ∷ ns))

      go : (t : Bool) → ltb k (divide s.page.view) ≡ t → Goal (halve c k s a b M).at
      go true q = subst Goal (sym (at_lower q)) (lower_chained (ltb-true k (divide s.page.view) q))
      go false q = subst Goal (sym (at_upper q)) (upper_chained (ltb-false k (divide s.page.view) q))
