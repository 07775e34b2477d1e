-- After an insert that is done a lookup of its key finds the record, in tables of any bytes, with any session.
use Prim.Native.Nat.{ℕ, suc, ◌+◌, ◌-◌, ◌^◌, ◌≤◌, ◌<◌}
use native.Mathlib.Omega.{arith}
use mathlib.Core.Path.{◌≡◌, refl, sym, ap, ◌∙◌, subst}
use mathlib.Core.Logic.{◌≢◌}
use mathlib.Core.Bool.{true, false}
use mathlib.Core.List.{List, [], ◌∷◌}
use mathlib.Core.Option.{some, none}
use lib.ListN.{length}
use borrow.Author.Tests.{eq-eqb, lt-ltb}
use Rattle.rules.specs.Layout.{top_kind, leaf_room, zero_kind, last_key}
use Rattle.rules.specs.Test.{mem}
use Rattle.rules.specs.Key.{good_key}
use Rattle.rules.specs.Entry.{Cert, find}
use Rattle.rules.specs.Page.{Page, is_leaf, touch}
use Rattle.rules.specs.Table.{read, kind0, n0, root0, previous0, fit0}
use Rattle.rules.specs.Place.{root_place, kids, pick, fits}
use Rattle.rules.specs.Enter.{Entered, enter}
use Rattle.rules.specs.Walk.{Step, numbers, certs_at, descend, way_of}
use Rattle.rules.specs.Insert.{put_cert, changed, Making}
use Rattle.rules.specs.declared.Place.{Place}
use Rattle.rules.proofs.Entries.Tests.{every_of, between-of}
use Rattle.rules.proofs.Entries.Views.{Shaped, shaped-read}
use Rattle.rules.proofs.Entries.Places.{Fits, fits-of, put_cert-fits}
use Rattle.rules.proofs.Entries.Asks.{pick-leaf}
use Rattle.rules.proofs.Entries.Puts.{find-put-same}
use Rattle.rules.proofs.Entries.Halves.{room}
use Rattle.rules.proofs.Bytes.EntryBytes.{WideCert}
use Rattle.rules.proofs.Bytes.Pages.{Wide, wide-touch}
use Rattle.rules.proofs.Bytes.Widths.{wide-put_cert}
use Rattle.rules.proofs.Bytes.Tables.{wide_read, read-change-same, read-change-other}
use Rattle.rules.proofs.Bytes.PageZero.{Same0, root_place-same, same0_change}
use Rattle.apply.specs.Leads.{Stands, Leads}
use Rattle.apply.proofs.Going.{Gone, leads-first}
use Rattle.reading.proofs.Changes.{leaf_at_lem, room_at, has-at}
use Rattle.reading.proofs.Counts.{kind-above}
use Rattle.reading.proofs.Chains.{top_place, Chained, leads-again, first-apart}

-- ── A way that stands is walked without a mend ──────────────────────────────────────────────────────────────────

enter-stands : {n k : ℕ} {t : List ℕ} (c : ℕ) (above : List ℕ) (s : Step) → Stands n k t s → mem s.place.child above ≡ false
    → enter n c above t s.place ≡ record { table = t; page = some s.page }
unfolding enter
enter-stands {n} {k} {t} c above s st m =
    let f : fits n s.place (read t s.place.child) ≡ true =
    fits-of n s.place (read t s.place.child) (subst (Fits n s.place) (sym st.reads) st.fits) in
    rw (m, enter, f) (ap (λ (p : Page). record { table = t; page = some p }) st.reads)

-- kinds rise by one, so there are no more than three steps
kinds : (n k : ℕ) (t : List ℕ) (s : Step) (above : List Step) → Leads n k t (s ∷ above) → s.page.view.kind + length above ≤ top_kind
kinds n k t s [] l = omega (arith, l.0.fits.sound.kind_to)
kinds n k t s (u ∷ above) l =
    let a = kind-above s u l.0 (leads-first u above l.3) l.2 in
    omega (arith, a, kinds n k t u above l.3)

none_in : (i : ℕ) → mem i (numbers []) ≡ false
unfolding mem numbers
none_in i = refl

-- a step is none of those above it
step-apart : (n k : ℕ) (t : List ℕ) (s : Step) (above : List Step) → Leads n k t (s ∷ above) → mem s.place.child (numbers above) ≡ false
step-apart n k t s [] l = none_in s.place.child
step-apart n k t s (u ∷ above) l = l.1

module _ (n c k : ℕ) (t : List ℕ) where
  descend_on : (level : ℕ) (above : List Step) (s : Step) (d : Place) → Stands n k t s → mem s.place.child (numbers above) ≡ false
      → pick k (kids s.place s.page.view) ≡ some d
      → descend (suc level) n c k above t s.place ≡ descend level n c k (s ∷ above) t d
  unfolding descend
  descend_on level above s d st m q =
      let e = enter-stands c (numbers above) s st m in
      rw (descend, e, q) (ap (λ (y : Entered). descend level n c k (s ∷ above) y.table d) e)

  descend-ends : (level : ℕ) (above : List Step) (s : Step) → Stands n k t s → mem s.place.child (numbers above) ≡ false
      → pick k (kids s.place s.page.view) ≡ none
      → descend (suc level) n c k above t s.place ≡ record { table = t; steps = some (s ∷ above) }
  unfolding descend
  descend-ends level above s st m q =
      let e = enter-stands c (numbers above) s st m in
      rw (descend, e, q) (ap (λ (y : Entered). record { table = y.table; steps = some (s ∷ above) }) e)

  -- down to a step of the way
  reaches : (s : Step) (above : List Step) → Leads n k t (s ∷ above) → root_place t ≡ top_place s above
      → (level : ℕ) → level + length above ≡ top_kind → way_of n c k t ≡ descend level n c k above t s.place
  unfolding way_of
  reaches s [] l r level h =
      ap (λ (e : Place). descend top_kind n c k [] t e) r ∙ ap (λ (i : ℕ). descend i n c k [] t s.place) (omega (arith, h))
  reaches s (u ∷ above) l r level h =
      reaches u above l.3 r (suc level) (omega (arith, h))
      ∙ descend_on level above u s.place (leads-first u above l.3) (step-apart n k t u above l.3) l.2

  pub leads-way : (s : Step) (above : List Step) → Leads n k t (s ∷ above) → root_place t ≡ top_place s above → is_leaf s.page.view ≡ true
      → way_of n c k t ≡ record { table = t; steps = some (s ∷ above) }
  leads-way s above l r leaf =
      let st = leads-first s above l in
      let level = 2 - length above in
      let shape = subst (λ (p : Page). Shaped p.view) st.reads (shaped-read t s.place.child) in
      reaches s above l r (suc level) (omega (arith, kinds n k t s above l, st.fits.sound.kind_from))
      ∙ descend-ends level above s st (step-apart n k t s above l) (pick-leaf k s.place s.page.view shape leaf)

-- ── Page 0 ──────────────────────────────────────────────────────────────────────────────────────────────────────

-- a place names a page, and a page or none as its previous
record Named (n : ℕ) (e : Place) : Type 0 where
  from : 1 ≤ e.child
  below : e.child < n
  previous : e.previous < n

top-named : (n k : ℕ) (t : List ℕ) (s : Step) (above : List Step) → Leads n k t (s ∷ above) → Named n (top_place s above)
top-named n k t s [] l = record { from = l.0.page; below = l.0.below; previous = l.0.previous }
top-named n k t s (u ∷ above) l = top-named n k t u above l.3

fit_of : (n : ℕ) (t : List ℕ) → kind0 t ≡ zero_kind → n0 t ≡ n → Named n (root_place t) → fit0 n t ≡ true
unfolding fit0 root_place
fit_of n t a b x =
    let f = x.from in
    let g = x.below in
    every_of _ (
      eq-eqb (kind0 t) zero_kind a,
      (eq-eqb (n0 t) n b, (between-of 1 (n - 1) (root0 t) f (omega (arith, f, g)), (lt-ltb (previous0 t) n x.previous, tt))),
    )

-- ── The entry put in ────────────────────────────────────────────────────────────────────────────────────────────

module _ {n c k : ℕ} {t : List ℕ} {s : Step} {above : List Step} {new entered : List ℕ} {m : Making} (g : Gone n c k t s above new m)
    (leaf : is_leaf s.page.view ≡ true) (good : good_key k ≡ true) (x : ℕ) (small : x < 256 ^ 4) (bound : k ≤ last_key)
    (C : Chained n k m.table m.at entered new) where
  abbrev cert : Cert
  cert = record { key = k; value = x }

  abbrev F : List ℕ
  F = changed c (put_cert (record { key = k; value = x })) m.table m.at

  abbrev old : Page
  old = read m.table m.at

  abbrev page : Page
  page = touch c (put_cert cert old.view) old

  U : Stands n k m.table C.first
  U = leads-first C.first C.rest C.leads

  here : read m.table m.at ≡ C.first.page
  here = ap (read m.table) (sym C.child) ∙ U.reads

  leaf-here : is_leaf (read m.table m.at).view ≡ true
  leaf-here = leaf_at_lem g leaf cert

  few-certs : length (read m.table m.at).view.certs < leaf_room
  few-certs = (room (read m.table m.at).view g.onward.roomy).0

  fits-page : Fits n C.first.place page
  fits-page = put_cert-fits c cert few-certs good U.low U.high (subst (Fits n C.first.place) (sym here) U.fits)

  wide-page : Wide page
  wide-page =
      let o = wide_read m.table m.at g.whole.bytes in
      let h : WideCert cert = record { key = omega (arith, bound); value = small } in
      wide-touch (wide-put_cert o.view h leaf-here (omega (arith, few-certs))) g.whole.counter o

  reads-page : read F m.at ≡ page
  unfolding changed
  reads-page = read-change-same m.table m.at page (has-at g leaf cert) (room_at g leaf cert) wide-page

  reads_other : (j : ℕ) → j ≢ m.at → read F j ≡ read m.table j
  unfolding changed
  reads_other j d = read-change-other m.table m.at page (has-at g leaf cert) (room_at g leaf cert) j d

  zero_same : Same0 F m.table
  unfolding changed
  zero_same = same0_change m.table m.at (has-at g leaf cert) (omega (arith, C.child, U.page)) page (room_at g leaf cert)

  stands : Stands n k F (record { place = C.first.place; page = page })
  stands = record {
    page = U.page;
    below = U.below;
    previous = U.previous;
    reads = ap (read F) C.child ∙ reads-page;
    fits = fits-page;
    low = U.low;
    high = U.high;
  }

  leads : Leads n k F (record { place = C.first.place; page = page } ∷ C.rest)
  leads =
      leads-again n k m.table F C.first page C.rest stands
      (λ j i. reads_other j (λ q. first-apart n k m.table C.first C.rest C.leads j i (q ∙ sym C.child))) C.leads

  leaf-page : is_leaf page.view ≡ true
  unfolding touch put_cert is_leaf
  leaf-page = leaf-here

  -- the way of the key in the table that the insert leaves, and what it finds
  abbrev pub put-steps : List Step
  put-steps = record { place = C.first.place; page = page } ∷ C.rest

  root_is : root_place F ≡ top_place (record { place = C.first.place; page = page }) C.rest
  root_is = root_place-same zero_same ∙ C.root

  pub put-way : (c' : ℕ) → way_of n c' k F ≡ record { table = F; steps = some put-steps }
  put-way c' = leads-way n c' k F (record { place = C.first.place; page = page }) C.rest leads root_is leaf-page

  pub put_fit : fit0 n F ≡ true
  put_fit =
      fit_of n F (zero_same.kind ∙ C.zero_kind_lem) (zero_same.n ∙ C.zero_pages)
      (subst (Named n) (sym root_is) (top-named n k F (record { place = C.first.place; page = page }) C.rest leads))

  pub put-found : find k (certs_at put-steps) ≡ some x
  unfolding certs_at touch put_cert
  put-found = find-put-same cert old.view.certs
