-- The turns over a file's certificates, one after another, make the rule `read_file`. Assumes nothing.
use mir.Val.{bool_byte}
use Rattle.std.specs.Prelude.{Ok, Err, is_ok}
use Prim.Native.Nat.{ℕ, suc, ◌+◌, ◌≤◌, ◌<◌}
use native.Mathlib.Omega.{arith}
use mathlib.Core.Path.{◌≡◌, refl, sym, ap, ◌∙◌}
use mathlib.Core.Bool.{Bool, true, false}
use mathlib.Core.List.{List, [], ◌∷◌}
use lib.Dec.{eqb}
use lib.ListN.{length, drop}
use lib.Seq.{drop-length}
use Rattle.fields.specs.Field.{le_at}
use Rattle.rules.specs.Report.{Reported, nothing}
use Rattle.rules.specs.Answer.{Inserted}
use Rattle.rules.specs.Call.{Left, lengths_for, insert_error_no, inserted_no}
use Rattle.rules.specs.Reports.{insert_reported}
use Rattle.rules.specs.Batch.{Between, between, insert_item, joins, item_no, answered, after_item, after_items, items_answered}
use Rattle.rules.specs.declared.Session.{Session}
use Rattle.rules.specs.declared.Item.{Item}
use Rattle.rules.specs.declared.Report.{Report}
use Rattle.rules.specs.declared.InsertError.{InsertError}
use Rattle.rules.specs.Handing.{Inserting}
use Rattle.rules.specs.Handing.{leaving as inserted}
use Rattle.exchange.specs.Item.{count_width}
use Rattle.exchange.specs.Judged.{certs_at, judged, checked}
use Rattle.exchange.specs.Told.{certs_in, cert_in, meters_in}
use Rattle.exchange.specs.ReadFile.{Read, as_item, as_items, done_in, read_file}
use Rattle.exchange.specs.declared.ReadError.{ReadError}
use Rattle.exchange.specs.declared.Section.{Section}
use Rattle.exchange.specs.declared.Certificate.{Certificate}
use Rattle.exchange.proofs.Exact.{exact}
use Rattle.exchange.proofs.Accepts.{length-told}
use Rattle.exchange.proofs.ReadBy.{bad_judged, read_length, read_bad, read_fine, length-as_items, as_items-at}
use Rattle.read.specs.Readings.{Running, leaving, running, beginning, one_done, one_more, goes}
use Rattle.read.specs.declared.Made.{Made}

-- ── One turn ────────────────────────────────────────────────────────────────────────────────────────────────────

pub more-is : (w t : List ℕ) (m : Made) (c : Certificate) (r : Inserting) (l : List ℕ) (k : ℕ) (q : Report)
    → inserted r l t ≡ insert_reported w t m.session c.model c.serial c.issue c.«record»
    → k ≡ one_done m.done (inserted_no r.answer) → q ≡ joins m.report r.report
    → running (record { done = k; report = q; session = r.session }) l ≡ one_more t (running m w) (as_item c)
unfolding one_more item_no after_item insert_item as_item
more-is w t m c r l k q e f g =
    (λ i. made (f i) (g i) r.session l)
    ∙ (λ i. made (one_done m.done (inserted_no (e i).left.answer)) (joins m.report (e i).report) (e i).left.session (e i).left.working)
  where
    made : ℕ → Report → Session → List ℕ → Running
    made j y s v = running (record { done = j; report = y; session = s }) v

-- only an insert that is done is counted, since each refusal has a number of its own
pub done-more : (done : ℕ) (a : Inserted) → done + bool_byte (is_ok a) ≡ one_done done (inserted_no a)
unfolding one_done insert_error_no
done-more done (Ok x) = refl
done-more done (Err InsertError.Length) = omega arith
done-more done (Err InsertError.BadKey) = omega arith
done-more done (Err InsertError.Damaged) = omega arith
done-more done (Err InsertError.Present) = omega arith
done-more done (Err InsertError.SyncFirst) = omega arith
done-more done (Err InsertError.Full) = omega arith

-- a turn counts one at most
pub one_at_most : (t : List ℕ) (m : Running) (x : Item) → (one_more t m x).done ≤ m.done + 1
unfolding one_more one_done
one_at_most t m x = go (eqb (item_no t m.stands x) 0) refl
  where
    go : (b : Bool) → eqb (item_no t m.stands x) 0 ≡ b → one_done m.done (item_no t m.stands x) ≤ m.done + 1
    go true h = rw (one_done, h) (omega arith)
    go false h = rw (one_done, h) (omega arith)

-- ── All turns ───────────────────────────────────────────────────────────────────────────────────────────────────

module _ (f : List ℕ) (n : ℕ) (good : checked f ≡ Ok n) where
  -- as many certificates as the check counted
  count-is : n ≡ length (as_items (certs_in f))
  count-is = exact.counts f n good ∙ sym (length-as_items (certs_in f))

  -- each of them lies within the file
  pub there : (i : ℕ) → i < n → (judged f ≡ Ok tt) × (i < le_at f (certs_at f) count_width)
  unfolding certs_in
  there i h = (
    exact.accepts f n good,
    omega (arith, h, exact.counts f n good, length-told f Section.Certificates (meters_in f) (certs_at f)),
  )

  -- the turn of the certificate at a place
  pub turn_at : (t : List ℕ) (i : ℕ) → i < n → (m : Running)
      → goes t m (drop i (as_items (certs_in f))) ≡ goes t (one_more t m (as_item (cert_in f i))) (drop (i + 1) (as_items (certs_in f)))
  unfolding goes cert_in
  turn_at t i h m =
      ap (goes t m)
      (as_items-at (certs_in f) i (record { key = 0; value = 0 }) (omega (arith, h, exact.counts f n good)))
      ∙ ap (λ (j : ℕ). goes t (one_more t m (as_item (cert_in f i))) (drop j (as_items (certs_in f)))) next
    where
      next : suc i ≡ i + 1
      next = omega arith

  -- behind the last there is none
  pub turns-end : (t : List ℕ) (i : ℕ) → i ≡ n → (m : Running) → goes t m (drop i (as_items (certs_in f))) ≡ m
  unfolding goes
  turns-end t i h m =
      ap (goes t m) (ap (λ (k : ℕ). drop k (as_items (certs_in f))) (h ∙ count-is) ∙ drop-length (as_items (certs_in f)))

-- ── The call ────────────────────────────────────────────────────────────────────────────────────────────────────

-- all turns leave what all items of a batch leave, and count those that answered 0
abbrev after : List ℕ → Running → List Item → Running
after t m xs = record { done = m.done + done_in (items_answered t m.stands xs); stands = after_items t m.stands xs }

goes_after : (t : List ℕ) (m : Running) (xs : List Item) → goes t m xs ≡ after t m xs
unfolding goes one_more one_done done_in items_answered answered after_items
goes_after t m [] = λ i. record { done = zero_more i; stands = m.stands }
  where
    zero_more : m.done ≡ m.done + 0
    zero_more = omega arith
goes_after t m (x ∷ xs) = goes_after t (one_more t m x) xs ∙ (λ i. record { done = go (eqb (item_no t m.stands x) 0) refl i; stands = after_items t (after_item t m.stands x) xs })
  where
    rest : ℕ
    rest = done_in (items_answered t (after_item t m.stands x) xs)

    go : (b : Bool) → eqb (item_no t m.stands x) 0 ≡ b
        → one_done m.done (item_no t m.stands x) + rest ≡ m.done + done_in (items_answered t m.stands (x ∷ xs))
    go true h = rw (one_done, done_in, h) (omega arith)
    go false h = rw (one_done, done_in, h)

pub turns-read : (w t : List ℕ) (s : Session) (f : List ℕ) (n : ℕ) → checked f ≡ Ok n → lengths_for s w t ≡ true
    → (m : Made) (l : List ℕ) → running m l ≡ goes t (beginning w s) (as_items (certs_in f))
    → leaving (record { answer = Ok m.done; report = m.report; session = m.session }) l t ≡ read_file w t s f
turns-read w t s f n good h m l e =
    let xs = as_items (certs_in f) in
    let b = between w s nothing in
    (λ i. told (e i).done (e i).stands)
    ∙ ((λ i. told (goes_after t (beginning w s) xs i).done (goes_after t (beginning w s) xs i).stands)
    ∙ ((λ i. told (from-none (done_in (items_answered t b xs)) i) (after_items t b xs)) ∙ sym (read_fine w t s f h (exact.accepts f n good))))
  where
    from-none : (k : ℕ) → 0 + k ≡ k
    from-none k = omega arith

    told : ℕ → Between → Reported (Left Read)
    told k b = record {
      left = record { answer = Ok k; session = b.session; working = b.working; stable = t };
      report = b.report;
    }

-- what is refused leaves all as it was
pub refused-length : (w t : List ℕ) (s : Session) (f : List ℕ) (r : Report) → r ≡ nothing → lengths_for s w t ≡ false
    → leaving (record { answer = Err ReadError.Length; report = r; session = s }) w t ≡ read_file w t s f
refused-length w t s f r e h = (λ i. leaving (record { answer = Err ReadError.Length; report = e i; session = s }) w t) ∙ sym (read_length w t s f h)

pub refused-file : (w t : List ℕ) (s : Session) (f : List ℕ) (at : ℕ) (r : Report) → r ≡ nothing → lengths_for s w t ≡ true
    → checked f ≡ Err at → leaving (record { answer = Err (ReadError.File at); report = r; session = s }) w t ≡ read_file w t s f
refused-file w t s f at r e h b =
    (λ i. leaving (record { answer = Err (ReadError.File at); report = e i; session = s }) w t) ∙ sym (read_bad w t s f h at (bad_judged f at b))
