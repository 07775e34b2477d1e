-- An insert that is done: which pages and which marks it moves, in tables of any bytes.
use Rattle.std.specs.Prelude.{Ok}
use Prim.Native.Nat.{ℕ, ◌*◌, ◌^◌, ◌≤◌, ◌<◌}
use native.Mathlib.Omega.{arith}
use mathlib.Core.Path.{◌≡◌, refl, sym, ap, ◌∙◌, subst}
use mathlib.Core.Logic.{◌⊎◌, inl, inr, ◌≢◌}
use mathlib.Core.Bool.{Bool, true, false, ◌&&◌}
use mathlib.Core.List.{List, [], ◌∷◌}
use mathlib.Core.Option.{Option, some, none}
use lib.Dec.{ltb}
use lib.ListN.{length, take, drop, take-append-drop}
use lib.Seq.{length-take-le}
use borrow.Author.Tests.{ltb-false}
use Rattle.rules.specs.Layout.{page_size, top_kind}
use Rattle.rules.specs.Test.{mem, distinct}
use Rattle.rules.specs.Key.{key_of, good_parts}
use Rattle.rules.specs.Entry.{Cert, find}
use Rattle.rules.specs.Page.{Page, is_leaf, touch}
use Rattle.rules.specs.Table.{page_at, read, fit0, Tables}
use Rattle.rules.specs.Place.{root_place}
use Rattle.rules.specs.Walk.{Step, numbers, certs_at, way_of}
use Rattle.rules.specs.Marks.{counted, free_pages}
use Rattle.rules.specs.Call.{Left, lengths_for, inserted_no, insert_error_no}
use Rattle.rules.specs.Insert.{splitting, root_splits, new_pages, too_high, too_soon, no_room, put_cert, changed, Making, making, split, insert_refused, insert_done, insert_along, insert_key, insert}
use Rattle.rules.specs.declared.Session.{Session}
use Rattle.rules.specs.Answer.{Inserted}
use Rattle.rules.proofs.Entries.Tests.{fails, mem-nil, mem_cases, mem_index, distinct-left, or_none, and_other}
use Rattle.rules.proofs.Bytes.All.{All, all-at, all_map, all_take}
use Rattle.rules.proofs.Bytes.Numbers.{FreePage, all-free_pages, distinct-free_pages}
use Rattle.rules.proofs.Entries.Views.{Shaped, shaped-read, shaped-put_cert, leaf-same}
use Rattle.rules.proofs.Entries.Puts.{length-put-le}
use Rattle.rules.proofs.Entries.Halves.{room}
use Rattle.rules.proofs.Bytes.Pages.{room-page_bytes}
use Rattle.rules.proofs.Bytes.Tables.{Has, Room, has-page, length-change, page_at-change-other}
use Rattle.rules.proofs.Bytes.Lengths.{lengths_for_true}
use Rattle.way.proofs.Stood.{way-stands}
use Rattle.apply.specs.Leads.{Whole, Leads, Fresh, Chosen}
use Rattle.apply.proofs.Going.{Gone, apart_by}
use Rattle.apply.proofs.Whole.{split-gone}
use Rattle.reading.specs.Leaving.{asked_for, Typed}
use Rattle.reading.specs.Inserting.{taken_for, FewChange, InsertChanges}
use Rattle.reading.proofs.WayLeft.{WayLeft, way-left}
use Rattle.reading.proofs.Refused.{key-bound}
use Rattle.reading.proofs.Leading.{WayLeads, way-leads, top_of}
use Rattle.reading.proofs.Splitting.{split-take, split-others}
use Rattle.reading.proofs.Marking.{split-marks, split-taken}
use Rattle.reading.proofs.Counts.{counts}

-- ── What an insert that is done has passed ──────────────────────────────────────────────────────────────────────

pub record Along (k x : ℕ) (s : Session) (w t : List ℕ) (r : Left Inserted) : Type 0 where
  pub lengths : lengths_for s w t ≡ true
  pub fit : fit0 s.n w ≡ true
  pub steps : List Step
  pub way : (way_of s.n s.c k w).steps ≡ some steps
  pub roomy : no_room steps (free_pages s (numbers steps)) ≡ false
  pub is : r ≡ insert_done k x (counted s) steps (way_of s.n s.c k w).table t

along_done : (k x : ℕ) (s : Session) (way : List Step) (u t : List ℕ) → (insert_along k x s way u t).answer ≡ Ok tt
    → (no_room way (free_pages s (numbers way)) ≡ false) × (insert_along k x s way u t ≡ insert_done k x (counted s) way u t)
unfolding insert_along insert_refused insert_error_no
along_done k x s way u t h = go (find k (certs_at way)) refl (too_soon s.c (splitting way)) refl (no_room way (free_pages s (numbers way))) refl
  where
    go : (o : Option ℕ) → find k (certs_at way) ≡ o → (a : Bool) → too_soon s.c (splitting way) ≡ a
        → (b : Bool) → no_room way (free_pages s (numbers way)) ≡ b
        → (no_room way (free_pages s (numbers way)) ≡ false) × (insert_along k x s way u t ≡ insert_done k x (counted s) way u t)
    go (some y) o a p b q = absurd (omega (arith, ap inserted_no (rw (insert_along, o) at h)))
    go none o true p b q = absurd (omega (arith, ap inserted_no (rw (insert_along, o, p) at h)))
    go none o false p true q = absurd (omega (arith, ap inserted_no (rw (insert_along, o, p, q) at h)))
    go none o false p false q = (q, rw (insert_along, o, p, q))

key-done : (k x : ℕ) (s : Session) (w t : List ℕ) → lengths_for s w t ≡ true → fit0 s.n w ≡ true
    → (insert_key k x s w t).answer ≡ Ok tt → Along k x s w t (insert_key k x s w t)
unfolding insert_key insert_refused insert_error_no
key-done k x s w t l f h = go (way_of s.n s.c k w).steps refl
  where
    go : (o : Option (List Step)) → (way_of s.n s.c k w).steps ≡ o → Along k x s w t (insert_key k x s w t)
    go none o = absurd (omega (arith, ap inserted_no (rw (insert_key, o) at h)))
    go (some steps) o =
        let d = along_done k x s steps (way_of s.n s.c k w).table t (rw (insert_key, o) at h) in
        rw (insert_key, o) (record { lengths = l; fit = f; steps = steps; way = o; roomy = d.0; is = d.1 })

pub insert_done_lem : (w t : List ℕ) (s : Session) (model serial issue x : ℕ) → (insert w t s model serial issue x).answer ≡ Ok tt
    → Along (key_of model serial issue) x s w t (insert w t s model serial issue x)
unfolding insert insert_refused insert_error_no
insert_done_lem w t s model serial issue x h = go (lengths_for s w t) refl (good_parts model serial issue) refl (fit0 s.n w) refl
  where
    go : (a : Bool) → lengths_for s w t ≡ a → (b : Bool) → good_parts model serial issue ≡ b
        → (c : Bool) → fit0 s.n w ≡ c → Along (key_of model serial issue) x s w t (insert w t s model serial issue x)
    go false p b q c o = absurd (omega (arith, ap inserted_no (rw (insert, p) at h)))
    go true p false q c o = absurd (omega (arith, ap inserted_no (rw (insert, p, q) at h)))
    go true p true q false o = absurd (omega (arith, ap inserted_no (rw (insert, p, q, o) at h)))
    go true p true q true o = rw (insert, p, q, o) (key-done (key_of model serial issue) x s w t p o (rw (insert, p, q, o) at h))

-- ── The numbers taken ───────────────────────────────────────────────────────────────────────────────────────────

module _ (s : Session) (way : List Step) (roomy : no_room way (free_pages s (numbers way)) ≡ false) where
  abbrev free : List ℕ
  free = free_pages s (numbers way)

  enough : new_pages way ≤ length free
  unfolding no_room
  enough = ltb-false (length free) (new_pages way) (or_none (ltb (length free) (new_pages way)) (root_splits way && too_high way) roomy).0

  not_high : root_splits way ≡ true → too_high way ≡ false
  unfolding no_room
  not_high = and_other (root_splits way) (too_high way) (or_none (ltb (length free) (new_pages way)) (root_splits way && too_high way) roomy).1

  as_many : length (taken_for s way) ≡ new_pages way
  unfolding taken_for
  as_many = length-take-le (new_pages way) free enough

  fresh-of : (i : ℕ) → FreePage s (numbers way) i → Fresh s.n (numbers way) i
  fresh-of i x = record { page = x.page; below = x.below; apart = x.apart }

  free_of : All (FreePage s (numbers way)) (taken_for s way)
  unfolding taken_for
  free_of = all_take (new_pages way) (all-free_pages s (numbers way))

  free-at : (i : ℕ) → mem i (taken_for s way) ≡ true → FreePage s (numbers way) i
  free-at i m =
      let j = mem_index i (taken_for s way) 0 m in
      subst (FreePage s (numbers way)) j.2 (all-at free_of j.0 0 j.1)

  pub chosen : Chosen s.n way (taken_for s way)
  unfolding taken_for
  chosen = record {
    fresh = all_map fresh-of free_of;
    apart = distinct-left (take (new_pages way) free) (drop (new_pages way) free)
        (ap distinct (take-append-drop (new_pages way) free) ∙ distinct-free_pages s (numbers way));
    enough = omega (arith, as_many);
    room = not_high;
  }

-- ── The entry put in ────────────────────────────────────────────────────────────────────────────────────────────

module _ {n c k : ℕ} {t : List ℕ} {s : Step} {above : List Step} {new : List ℕ} {m : Making} (g : Gone n c k t s above new m)
    (leaf : is_leaf s.page.view ≡ true) (x : Cert) where
  abbrev old : Page
  old = read m.table m.at

  abbrev page : Page
  page = touch c (put_cert x old.view) old

  pub leaf_at_lem : is_leaf old.view ≡ true
  leaf_at_lem = leaf-same old.view s.page.view g.onward.kind ∙ leaf

  shaped-at : Shaped old.view
  shaped-at = shaped-read m.table m.at

  pub room_at : Room page
  unfolding touch put_cert
  room_at =
      room-page_bytes page (shaped-put_cert x old.view leaf_at_lem shaped-at)
      (omega (arith, length-put-le x old.view.certs, (room old.view g.onward.roomy).0))
      (omega (arith, ap length (shaped-at.leaf leaf_at_lem)))

  pub has-at : Has m.table m.at
  has-at = has-page m.table n m.at g.whole.long g.onward.below

  pub put-length : length (changed c (put_cert x) m.table m.at) ≡ n * page_size
  unfolding changed
  put-length = length-change m.table m.at page has-at room_at ∙ g.whole.long

  put_other : (i : ℕ) → mem i (numbers (s ∷ above)) ≡ false → mem i new ≡ false
      → page_at (changed c (put_cert x) m.table m.at) i ≡ page_at m.table i
  unfolding changed
  put_other i z r = page_at-change-other m.table m.at page has-at room_at i (not_at g.at_is)
    where
      not_at : (mem m.at (numbers (s ∷ above)) ≡ true) ⊎ (mem m.at new ≡ true) → i ≢ m.at
      not_at (inl h) e = apart_by (numbers (s ∷ above)) h z (sym e)
      not_at (inr h) e = apart_by new h r (sym e)

-- ── An insert along a way ───────────────────────────────────────────────────────────────────────────────────────

module _ (w t : List ℕ) (s : Session) (k x : ℕ) (table : Tables s.n w t) (L : WayLeft s.n s.c (asked_for s.n s.c k w) w (way_of s.n s.c k w))
    (counter : s.c < 256 ^ 4) (first : Step) (rest : List Step) (way : (way_of s.n s.c k w).steps ≡ some (first ∷ rest))
    (leads : Leads s.n k (way_of s.n s.c k w).table (first ∷ rest)) (short : length (first ∷ rest) ≤ top_kind)
    (leaf : is_leaf first.page.view ≡ true) (roomy : no_room (first ∷ rest) (free_pages s (numbers (first ∷ rest))) ≡ false) where
  abbrev pub u : List ℕ
  u = (way_of s.n s.c k w).table

  abbrev pub steps : List Step
  steps = first ∷ rest

  abbrev pub new : List ℕ
  new = taken_for s steps

  pub whole : Whole s.n s.c u
  whole = record { long = L.long; few = table.most; bytes = L.bytes; counter = counter }

  abbrev pub made : Making
  made = split s.c k steps new (making u s 0)

  pub gone : Gone s.n s.c k u first rest new made
  gone = split-gone s whole first rest new short leads (chosen s steps roomy)

  same-made : split s.c k steps (free_pages s (numbers steps)) (making u s 0) ≡ made
  unfolding taken_for
  same-made = split-take s.c k u s first rest (free_pages s (numbers steps)) (enough s steps roomy)

  abbrev pub done : Making → Left Inserted
  done m = record {
    answer = Ok tt;
    session = m.session;
    working = changed s.c (put_cert (record { key = k; value = x })) m.table m.at;
    stable = t;
  }

  pub same-done : insert_done k x s steps u t ≡ done made
  unfolding insert_done
  same-done = ap done same-made

  page-stays : (i : ℕ) → (i ≡ 0 → root_splits steps ≡ false) → mem i (numbers steps) ≡ false → mem i new ≡ false
      → page_at (done made).working i ≡ page_at w i
  page-stays i o z r =
      put_other gone leaf (record { key = k; value = x }) i z r
      ∙ (split-others k s whole first rest new short leads (chosen s steps roomy) i o z r ∙ L.others steps way i z)

  zero-entered : (ss : List Step) → mem 0 (numbers ss) ≡ true → Leads s.n k u ss → ⊥
  unfolding numbers
  zero-entered [] m l = l
  zero-entered (v ∷ []) m l = go (mem_cases 0 v.place.child [] m)
    where
      go : (0 ≡ v.place.child) ⊎ (mem 0 [] ≡ true) → ⊥
      go (inl q) = omega (arith, q, l.0.page)
      go (inr q) = mem-nil 0 q
  zero-entered (v ∷ (v' ∷ vs)) m l = go (mem_cases 0 v.place.child (numbers (v' ∷ vs)) m) (λ q. zero-entered (v' ∷ vs) q l.3)
    where
      go : (0 ≡ v.place.child) ⊎ (mem 0 (numbers (v' ∷ vs)) ≡ true) → (mem 0 (numbers (v' ∷ vs)) ≡ true → ⊥) → ⊥
      go (inl q) ih = omega (arith, q, l.0.page)
      go (inr q) ih = ih q

  -- page 0 is as the walk found it
  pub zero-stays : page_at u 0 ≡ page_at w 0
  zero-stays = L.others steps way 0 (fails (mem 0 (numbers steps)) (λ m. zero-entered steps m leads))

  pub few-change : FewChange w s k (insert_done k x s steps u t)
  few-change = subst (FewChange w s k) (sym same-done) (record {
    steps = steps;
    way = way;
    count = counts s.n k u first rest short leads (not_high s steps roomy);
    as_many = as_many s steps roomy;
    length_stays = put-length gone leaf (record { key = k; value = x }) ∙ sym table.working;
    page = λ i o z r. page-stays i (λ e. absurd (omega (arith, e, o))) z r;
    page0 = λ o. page-stays 0 (λ e. o) (fails (mem 0 (numbers steps)) (λ m. zero-entered steps m leads))
        (fails (mem 0 new) (λ m. absurd (omega (arith, (free-at s steps roomy 0 m).page))));
    taken = λ i m.
        let f = free-at s steps roomy i m in
        (f.free, split-taken s.c k u s i first rest new (as_many s steps roomy) f.apart m);
    marks = λ i z r. split-marks s.c k u s i first rest new (omega (arith, as_many s steps roomy)) z r;
  })

-- ── The call ────────────────────────────────────────────────────────────────────────────────────────────────────

-- an insert that is done, with the way that it went
pub record Went (w t : List ℕ) (s : Session) (k x : ℕ) (r : Left Inserted) : Type 0 where
  pub tables : Tables s.n w t
  pub fit : fit0 s.n w ≡ true
  pub first : Step
  pub rest : List Step
  pub way : (way_of s.n s.c k w).steps ≡ some (first ∷ rest)
  pub leads : Leads s.n k (way_of s.n s.c k w).table (first ∷ rest)
  pub top : top_of rest first.place ≡ root_place w
  pub short : length (first ∷ rest) ≤ top_kind
  pub leaf : is_leaf first.page.view ≡ true
  pub roomy : no_room (first ∷ rest) (free_pages s (numbers (first ∷ rest))) ≡ false
  pub is : r ≡ insert_done k x (counted s) (first ∷ rest) (way_of s.n s.c k w).table t

module _ (w t : List ℕ) (s : Session) (model serial issue x : ℕ) (y : Typed w s model serial issue)
    (h : (insert w t s model serial issue x).answer ≡ Ok tt) where
  abbrev k : ℕ
  k = key_of model serial issue

  D : Along k x s w t (insert w t s model serial issue x)
  D = insert_done_lem w t s model serial issue x h

  T : Tables s.n w t
  T = lengths_for_true s w t D.lengths

  WL : WayLeads s.n k top_kind (root_place w) (way_of s.n s.c k w).table D.steps
  WL = way-leads s.n s.c k w T.working D.fit y.bytes y.counter (key-bound y) D.steps D.way

  pub insert-went : Went w t s k x (insert w t s model serial issue x)
  insert-went =
      let q = WL.are in
      let v = way-stands s.n s.c k w T.working D.fit y.bytes y.counter (key-bound y) D.steps D.way in
      let e : v.leaf ≡ WL.first = cc (sym v.are ∙ q) in
      record {
        tables = T;
        fit = D.fit;
        first = WL.first;
        rest = WL.rest;
        way = D.way ∙ ap some q;
        leads = WL.leads;
        top = WL.top;
        short = omega (arith, ap length q, WL.short);
        leaf = subst (λ (z : Step). is_leaf z.page.view ≡ true) e v.ends;
        roomy = subst (λ (ss : List Step). no_room ss (free_pages s (numbers ss)) ≡ false) q D.roomy;
        is = D.is ∙ ap (λ (ss : List Step). insert_done k x (counted s) ss (way_of s.n s.c k w).table t) q;
      }

-- how many certificates are counted has no say
few-counted : {w : List ℕ} {s : Session} {k : ℕ} {r : Left Inserted} → FewChange w (counted s) k r → FewChange w s k r
unfolding taken_for free_pages
few-counted x = record {
  steps = x.steps;
  way = x.way;
  count = x.count;
  as_many = x.as_many;
  length_stays = x.length_stays;
  page = x.page;
  page0 = x.page0;
  taken = x.taken;
  marks = λ i z r. let m = x.marks i z r in record { free = m.free; waiting = m.waiting };
}

pub insert_changes : InsertChanges
unfolding InsertChanges free_pages
insert_changes w t s model serial issue x y h =
    let k = key_of model serial issue in
    let g = insert-went w t s model serial issue x y h in
    subst (FewChange w s k) (sym g.is)
    (few-counted
    (few-change w t (counted s) k x g.tables (way-left s.n s.c k w g.tables.working g.fit y.bytes y.counter (key-bound y))
    y.counter g.first g.rest g.way g.leads g.short g.leaf g.roomy))
