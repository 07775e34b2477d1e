-- After an insert that is done a lookup of its key finds the record and mends nothing, in tables of any bytes.
use Rattle.std.specs.Prelude.{Ok}
use Prim.Native.Nat.{ℕ, ◌^◌, ◌≤◌, ◌<◌}
use native.Mathlib.Omega.{arith}
use mathlib.Core.Path.{◌≡◌, refl, sym, ap, ◌∙◌, subst}
use mathlib.Core.Bool.{Bool, true, false}
use mathlib.Core.List.{List, ◌∷◌}
use mathlib.Core.Option.{some}
use lib.ListN.{length}
use borrow.Author.Tests.{eqb-true}
use Rattle.rules.specs.Layout.{top_kind, zero_kind}
use Rattle.rules.specs.Key.{key_of, good_parts, good_key}
use Rattle.rules.specs.Entry.{find}
use Rattle.rules.specs.Page.{is_leaf}
use Rattle.rules.specs.Table.{kind0, n0, fit0, Tables}
use Rattle.rules.specs.Place.{root_place}
use Rattle.rules.specs.Walk.{Step, Way, certs_at, numbers, way_of}
use Rattle.rules.specs.Marks.{counted, free_pages}
use Rattle.rules.specs.Call.{Left, lengths_for, inserted_no, insert_error_no}
use Rattle.rules.specs.Insert.{Making, no_room, insert_refused, insert_done, insert}
use Rattle.rules.specs.Lookup.{found_in, lookup_left, lookup_key, lookup}
use Rattle.rules.specs.declared.Session.{Session}
use Rattle.rules.specs.Answer.{Inserted, Looked}
use Rattle.rules.proofs.Bytes.Keys.{good_key-key_of}
use Rattle.rules.proofs.Bytes.Lengths.{tables-lengths_for}
use Rattle.rules.proofs.Entries.Tests.{every_true}
use Rattle.rules.proofs.Bytes.PageZero.{Same0, same0, root_place-same}
use Rattle.apply.specs.Leads.{Leads}
use Rattle.apply.proofs.Going.{Gone}
use Rattle.reading.specs.Leaving.{asked_for, Typed}
use Rattle.reading.specs.Inserting.{taken_for, FoundThen, InsertFound}
use Rattle.reading.proofs.WayLeft.{WayLeft, way-left}
use Rattle.reading.proofs.Refused.{key-bound}
use Rattle.reading.proofs.Changes.{made, done, gone, whole, chosen, same-done, zero-stays, put-length, insert-went}
use Rattle.reading.proofs.Chains.{top_place, Chained}
use Rattle.reading.proofs.SplitChain.{split_chained}
use Rattle.reading.proofs.Found.{put-steps, put-way, put_fit, put-found}
use Rattle.reading.proofs.Marking.{done-n}

-- ── A lookup of a way that is known ─────────────────────────────────────────────────────────────────────────────

found_of : (k x : ℕ) (steps : List Step) → find k (certs_at steps) ≡ some x → found_in k steps ≡ Ok x
unfolding found_in
found_of k x steps h = rw (found_in, h)

key_of_lem : (k : ℕ) (s : Session) (w t : List ℕ) (steps : List Step) → way_of s.n s.c k w ≡ record { table = w; steps = some steps }
    → lookup_key k s w t ≡ lookup_left s w t (found_in k steps)
unfolding lookup_key
key_of_lem k s w t steps h =
    rw (lookup_key, h) (ap (λ (y : Way). lookup_left s y.table t (found_in k steps)) h)

lookup-of : (w t : List ℕ) (s : Session) (model serial issue : ℕ) (steps : List Step) → lengths_for s w t ≡ true
    → good_parts model serial issue ≡ true → fit0 s.n w ≡ true
    → way_of s.n s.c (key_of model serial issue) w ≡ record { table = w; steps = some steps }
    → lookup w t s model serial issue ≡ lookup_left s w t (found_in (key_of model serial issue) steps)
unfolding lookup
lookup-of w t s model serial issue steps l g f h =
    rw (l, lookup) (rw g (rw f (key_of_lem (key_of model serial issue) s w t steps h)))

-- a key that was inserted has no part that is zero
pub done-good : (w t : List ℕ) (s : Session) (model serial issue x : ℕ) → (insert w t s model serial issue x).answer ≡ Ok tt
    → good_parts model serial issue ≡ true
unfolding insert insert_refused insert_error_no
done-good w t s model serial issue x h = go (lengths_for s w t) refl (good_parts model serial issue) refl
  where
    go : (a : Bool) → lengths_for s w t ≡ a → (b : Bool) → good_parts model serial issue ≡ b → good_parts model serial issue ≡ true
    go false p b q = absurd (omega (arith, ap inserted_no (rw (insert, p) at h)))
    go true p false q = absurd (omega (arith, ap inserted_no (rw (insert, p, q) at h)))
    go true p true q = q

-- ── An insert along a way ───────────────────────────────────────────────────────────────────────────────────────

zero-tests : (n : ℕ) (w : List ℕ) → fit0 n w ≡ true → (kind0 w ≡ zero_kind) × (n0 w ≡ n)
unfolding fit0
zero-tests n w f = let x = every_true _ f in (eqb-true (kind0 w) zero_kind x.0, eqb-true (n0 w) n x.1.0)

module _ (w t : List ℕ) (s : Session) (model serial issue x : ℕ) (y : Typed w s model serial issue) (small : x < 256 ^ 4)
    (good : good_parts model serial issue ≡ true) (table : Tables s.n w t) (fit : fit0 s.n w ≡ true)
    (first : Step) (rest : List Step) (way : (way_of s.n s.c (key_of model serial issue) w).steps ≡ some (first ∷ rest))
    (leads : Leads s.n (key_of model serial issue) (way_of s.n s.c (key_of model serial issue) w).table (first ∷ rest))
    (top : top_place first rest ≡ root_place w) (short : length (first ∷ rest) ≤ top_kind)
    (leaf : is_leaf first.page.view ≡ true) (roomy : no_room (first ∷ rest) (free_pages s (numbers (first ∷ rest))) ≡ false) where
  abbrev k : ℕ
  k = key_of model serial issue

  L : WayLeft s.n s.c (asked_for s.n s.c k w) w (way_of s.n s.c k w)
  L = way-left s.n s.c k w table.working fit y.bytes y.counter (key-bound y)

  abbrev m : Making
  m = made w t s k x table L y.counter first rest way leads short leaf roomy

  G : Gone s.n s.c k (way_of s.n s.c k w).table first rest (taken_for s (first ∷ rest)) m
  G = gone w t s k x table L y.counter first rest way leads short leaf roomy

  zero-way : Same0 (way_of s.n s.c k w).table w
  zero-way = same0 (way_of s.n s.c k w).table w (zero-stays w t s k x table L y.counter first rest way leads short leaf roomy)

  chain : Chained s.n k m.table m.at (numbers (first ∷ rest)) (taken_for s (first ∷ rest))
  chain =
      split_chained s (whole w t s k x table L y.counter first rest way leads short leaf roomy) (key-bound y)
      (zero-way.kind ∙ (zero-tests s.n w fit).0) (zero-way.n ∙ (zero-tests s.n w fit).1) first rest (taken_for s (first ∷ rest)) short leads
      (root_place-same zero-way ∙ sym top) (chosen s (first ∷ rest) roomy)

  abbrev left : Left Inserted
  left = done w t s k x table L y.counter first rest way leads short leaf roomy m

  good_key_lem : good_key k ≡ true
  good_key_lem = good_key-key_of model serial issue y.wide_serial y.wide_issue ∙ good

  pages : m.session.n ≡ s.n
  pages =
      ap (λ (r : Left Inserted). r.session.n) (sym (same-done w t s k x table L y.counter first rest way leads short leaf roomy))
      ∙ done-n k x s (first ∷ rest) (way_of s.n s.c k w).table t

  lengths : lengths_for left.session left.working t ≡ true
  lengths =
      tables-lengths_for left.session {w = left.working} {t = t}
      (subst (λ (i : ℕ). Tables i left.working t) (sym pages)
      (record {
        least = table.least;
        most = table.most;
        working = put-length G leaf (record { key = k; value = x });
        stable = table.stable;
      }))

  abbrev then : List Step
  then = put-steps G leaf good_key_lem x small (key-bound y) chain

  there : lookup left.working t left.session model serial issue
      ≡ lookup_left left.session left.working t (Ok x)
  there =
      lookup-of left.working t left.session model serial issue then lengths good
      (subst (λ (i : ℕ). fit0 i left.working ≡ true) (sym pages) (put_fit G leaf good_key_lem x small (key-bound y) chain))
      (subst (λ (i : ℕ). way_of i left.session.c k left.working ≡ record { table = left.working; steps = some then }) (sym pages)
      (put-way G leaf good_key_lem x small (key-bound y) chain left.session.c))
      ∙ ap (lookup_left left.session left.working t) (found_of k x then (put-found G leaf good_key_lem x small (key-bound y) chain))

  found-then : FoundThen (insert_done k x s (first ∷ rest) (way_of s.n s.c k w).table t) model serial issue x
  unfolding lookup_left
  found-then =
      subst (λ (r : Left Inserted). FoundThen r model serial issue x)
      (sym (same-done w t s k x table L y.counter first rest way leads short leaf roomy))
      (record {
        answer = ap (λ (r : Left Looked). r.answer) there;
        working = ap (λ (r : Left Looked). r.working) there;
      })

typed_counted : {w : List ℕ} {s : Session} {model serial issue : ℕ} → Typed w s model serial issue → Typed w (counted s) model serial issue
typed_counted y = record {
  bytes = y.bytes;
  counter = y.counter;
  wide_model = y.wide_model;
  wide_serial = y.wide_serial;
  wide_issue = y.wide_issue;
}

pub insert-found : InsertFound
unfolding InsertFound free_pages
insert-found w t s model serial issue x y small h =
    let g = insert-went w t s model serial issue x y h in
    subst (λ (r : Left Inserted). FoundThen r model serial issue x) (sym g.is)
    (found-then w t (counted s) model serial issue x (typed_counted y) small (done-good w t s model serial issue x h) g.tables g.fit
    g.first g.rest g.way g.leads g.top g.short g.leaf g.roomy)
