-- Certificates that go into a store one after another, each done, end up in it in key order. Assumes nothing.
use Rattle.std.specs.Prelude.{Ok, Err}
use Prim.Native.Nat.{ℕ, suc, ◌+◌, ◌^◌, ◌≤◌, ◌<◌}
use native.Mathlib.Omega.{arith}
use mathlib.Core.Path.{◌≡◌, refl, sym, ap, ◌∙◌, subst}
use mathlib.Core.Bool.{Bool, true, false}
use mathlib.Core.List.{List, [], ◌∷◌, ◌++◌}
use lib.Dec.{eqb}
use borrow.Author.Tests.{eqb-true, ltb-true}
use lib.ListN.{length}
use Rattle.rules.specs.Test.{all}
use Rattle.rules.specs.Key.{model_of, serial_of, issue_of}
use Rattle.rules.specs.Entry.{Cert, keys, put, rises_from, rising}
use Rattle.rules.specs.Call.{Left, inserted_no, insert_error_no}
use Rattle.rules.specs.Insert.{insert}
use Rattle.rules.specs.Reports.{insert_reported}
use Rattle.rules.specs.Batch.{Between, insert_item, after_item, item_no, answered, after_items, items_answered}
use Rattle.rules.specs.History.{Event, inserts, State, after_insert, step, run, start, Proper, AllProper}
use Rattle.rules.specs.Demand.{Lent}
use Rattle.rules.specs.Answer.{Inserted}
use Rattle.rules.specs.declared.InsertError.{InsertError}
use Rattle.rules.specs.declared.Item.{Item}
use Rattle.rules.proofs.Entries.Tests.{every_true, all_head, all_tail}
use Rattle.rules.proofs.Entries.Puts.{put-nil, put-behind}
use Rattle.rules.proofs.Entries.Rises.{rises-head, rises_tail, rises-lower, rising-from, rising_tail}
use Rattle.rules.proofs.Bytes.Keys.{key_of_parts, model_of-bound, serial_of-bound, issue_of-bound}
use Rattle.rules.proofs.Demand1.Batches.{length-answered}
use Rattle.rules.proofs.Demand1.Refusals.{insert_stable}
use Rattle.rules.proofs.Demand3.Histories.Batches.{Leaves}
use Rattle.exchange.specs.Told.{cert_parts}
use Rattle.exchange.specs.Written.{good_cert}
use Rattle.exchange.specs.ReadFile.{as_item, as_items, done_in}
use Rattle.exchange.proofs.ReadBy.{length-as_items}
use Rattle.reading.specs.Inserting.{inserted}
use Rattle.reading.specs.Agreeing.{held, InsertPuts}
use Rattle.reading.proofs.Adds.{run-then, proper_then, done-pages}
use Rattle.reading.proofs.Puts.{insert-puts}

-- ── Put one after another ───────────────────────────────────────────────────────────────────────────────────────

unfoldable pub put_all : List Cert → List Cert → List Cert
put_all [] ys = ys
put_all (x ∷ xs) ys = put_all xs (put x ys)

-- those above an entry leave it where it is
put-behind-all : (y : Cert) (xs ys : List Cert) → rises_from y.key (keys xs) ≡ true → put_all xs (y ∷ ys) ≡ y ∷ put_all xs ys
unfolding put_all keys
put-behind-all y [] ys r = refl
put-behind-all y (x ∷ xs) ys r =
    let a = rises-head y.key x.key (keys xs) r in
    let b = rises_tail y.key x.key (keys xs) r in
    ap (put_all xs) (put-behind x y ys a) ∙ put-behind-all y xs (put x ys) (rises-lower y.key x.key (keys xs) (omega (arith, a)) b)

-- put into nothing, they stay as they are
pub put_all-rising : (xs : List Cert) → rising (keys xs) ≡ true → put_all xs [] ≡ xs
unfolding put_all keys
put_all-rising [] r = refl
put_all-rising (x ∷ xs) r =
    ap (put_all xs) (put-nil x)
    ∙ (put-behind-all x xs [] (rising-from x.key (keys xs) r)
    ∙ ap (λ (zs : List Cert). x ∷ zs) (put_all-rising xs (rising_tail x.key (keys xs) r)))

-- ── Each is done ────────────────────────────────────────────────────────────────────────────────────────────────

done-most : (xs : List Item) → done_in xs ≤ length xs
unfolding done_in
done-most [] = omega arith
done-most (x ∷ xs) = go (eqb x.answer 0) refl (done-most xs)
  where
    go : (b : Bool) → eqb x.answer 0 ≡ b → done_in xs ≤ length xs → done_in (x ∷ xs) ≤ length (x ∷ xs)
    go true h ih = rw (done_in, h) (omega (arith, ih))
    go false h ih = rw (done_in, h) (omega (arith, ih))

-- if as many are done as there are, the first is, and so are the others
all_done : (x : Item) (xs : List Item) → done_in (x ∷ xs) ≡ length (x ∷ xs) → (x.answer ≡ 0) × (done_in xs ≡ length xs)
unfolding done_in
all_done x xs d = go (eqb x.answer 0) refl
  where
    go : (b : Bool) → eqb x.answer 0 ≡ b → (x.answer ≡ 0) × (done_in xs ≡ length xs)
    go true h = (eqb-true x.answer 0 h, (let e = rw (done_in, h) at d in omega (arith, e)))
    go false h = absurd (let e = rw (done_in, h) at d in omega (arith, e, done-most xs))

only-done : (a : Inserted) → inserted_no a ≡ 0 → a ≡ Ok tt
unfolding insert_error_no
only-done (Ok done) h = refl
only-done (Err InsertError.Length) h = absurd (omega (arith, h))
only-done (Err InsertError.BadKey) h = absurd (omega (arith, h))
only-done (Err InsertError.Damaged) h = absurd (omega (arith, h))
only-done (Err InsertError.Present) h = absurd (omega (arith, h))
only-done (Err InsertError.SyncFirst) h = absurd (omega (arith, h))
only-done (Err InsertError.Full) h = absurd (omega (arith, h))

-- ── Along a history ─────────────────────────────────────────────────────────────────────────────────────────────

-- what stands between two items stands in a state of a history
abbrev pub Stands : List ℕ → Between → State → Type 0
Stands t b m = Leaves b.working t b.session m

abbrev insert_of : List ℕ → Between → Cert → Left Inserted
insert_of t b e = insert b.working t b.session (model_of e.key) (serial_of e.key) (issue_of e.key) e.value

abbrev event_for : Cert → Event
event_for e = inserts (model_of e.key) (serial_of e.key) (issue_of e.key) e.value

module _ (t : List ℕ) (b : Between) (m : State) (st : Stands t b m) (e : Cert) where
  same-insert : inserted m (model_of e.key) (serial_of e.key) (issue_of e.key) e.value ≡ insert_of t b e
  same-insert = λ i. insert (st.working i) (st.stable i) (st.session i) (model_of e.key) (serial_of e.key) (issue_of e.key) e.value

  next-stands : Stands t (after_item t b (as_item (cert_parts e))) (step (event_for e) m)
  unfolding step after_insert after_item insert_item insert_reported as_item cert_parts
  next-stands = record {
    working = ap (λ (r : Left Inserted). r.working) same-insert;
    stable = ap (λ (r : Left Inserted). r.stable) same-insert ∙ insert_stable b.working t b.session (model_of e.key) (serial_of e.key) (issue_of e.key) e.value;
    session = ap (λ (r : Left Inserted). r.session) same-insert;
  }

  item-done : item_no t b (as_item (cert_parts e)) ≡ 0 → (inserted m (model_of e.key) (serial_of e.key) (issue_of e.key) e.value).answer ≡ Ok tt
  unfolding item_no insert_item insert_reported as_item cert_parts
  item-done h = ap (λ (r : Left Inserted). r.answer) same-insert ∙ only-done (insert_of t b e).answer h

module _ (n : ℕ) (w s : List ℕ) (l : Lent n w s) (t : List ℕ) where
  -- a row of certificates from a point of a history on
  pub record Row (h : List Event) (b : Between) (cs : List Cert) : Type 0 where
    pub proper : AllProper n h
    pub pages : (run h (start w s)).session.n ≡ n
    pub stands : Stands t b (run h (start w s))
    pub good : all good_cert cs ≡ true
    pub done : done_in (items_answered t b (as_items cs)) ≡ length cs

  module _ (h : List Event) (b : Between) (e : Cert) (cs : List Cert) (r : Row h b (e ∷ cs)) where
    abbrev m : State
    m = run h (start w s)

    abbrev model : ℕ
    model = model_of e.key

    abbrev serial : ℕ
    serial = serial_of e.key

    abbrev issue : ℕ
    issue = issue_of e.key

    split_done : (item_no t b (as_item (cert_parts e)) ≡ 0) × (done_in (items_answered t (after_item t b (as_item (cert_parts e))) (as_items cs)) ≡ length cs)
    unfolding as_items items_answered answered
    split_done =
        let x = as_item (cert_parts e) in
        let ys = items_answered t (after_item t b x) (as_items cs) in
        let k = length-answered t (after_item t b x) (as_items cs) ∙ length-as_items cs in
        let d = all_done (answered (item_no t b x) x) ys (r.done ∙ ap suc (sym k)) in
        (d.0, d.1 ∙ k)

    first_done : (inserted m model serial issue e.value).answer ≡ Ok tt
    first_done = item-done t b m r.stands e split_done.0

    wide : (model < 65536) × (serial < 4294967296) × (issue < 65536) × (e.value < 4294967296)
    unfolding good_cert
    wide =
        let g = every_true _ (all_head good_cert e cs r.good) in
        let k = ltb-true e.key (2 ^ 64) g.0 in
        let v = ltb-true e.value (2 ^ 32) g.1.1.0 in
        let a = model_of-bound e.key (omega (arith, k)) in
        let z = serial_of-bound e.key in
        let i = issue_of-bound e.key in
        (omega (arith, a), omega (arith, z), omega (arith, i), omega (arith, v))

    later : Row (h ++ (event_for e ∷ [])) (after_item t b (as_item (cert_parts e))) cs
    unfolding Proper
    later = record {
      proper = proper_then n h (event_for e) r.proper wide;
      pages = done-pages w s h model serial issue e.value first_done ∙ r.pages;
      stands = subst (Stands t (after_item t b (as_item (cert_parts e)))) (sym (run-then h (event_for e) (start w s))) (next-stands t b m r.stands e);
      good = all_tail good_cert e cs r.good;
      done = split_done.1;
    }

    first-held : held (after_item t b (as_item (cert_parts e))).session (after_item t b (as_item (cert_parts e))).working ≡ put e (held b.session b.working)
    unfolding InsertPuts step after_insert
    first-held =
        let x = next-stands t b m r.stands e in
        let p = insert-puts n w s l h r.proper r.pages model serial issue e.value wide.0 wide.1 wide.2 wide.3 first_done in
        (λ i. held (sym x.session i) (sym x.working i))
        ∙ (p
        ∙ ((λ i. put (record { key = key_of_parts e.key i; value = e.value }) (held m.session m.working))
        ∙ (λ i. put e (held (r.stands.session i) (r.stands.working i)))))

  pub row_held : (cs : List Cert) (h : List Event) (b : Between) → Row h b cs
      → held (after_items t b (as_items cs)).session (after_items t b (as_items cs)).working ≡ put_all cs (held b.session b.working)
  unfolding as_items after_items put_all
  row_held [] h b r = refl
  row_held (e ∷ cs) h b r =
      row_held cs (h ++ (event_for e ∷ [])) (after_item t b (as_item (cert_parts e))) (later h b e cs r)
      ∙ ap (put_all cs) (first-held h b e cs r)

  -- and the history in which they all went in
  pub record Ended (b : Between) : Type 0 where
    pub history : List Event
    pub proper : AllProper n history
    pub pages : (run history (start w s)).session.n ≡ n
    pub stands : Stands t b (run history (start w s))

  pub row_ends : (cs : List Cert) (h : List Event) (b : Between) → Row h b cs → Ended (after_items t b (as_items cs))
  unfolding as_items after_items
  row_ends [] h b r = record { history = h; proper = r.proper; pages = r.pages; stands = r.stands }
  row_ends (e ∷ cs) h b r = row_ends cs (h ++ (event_for e ∷ [])) (after_item t b (as_item (cert_parts e))) (later h b e cs r)
