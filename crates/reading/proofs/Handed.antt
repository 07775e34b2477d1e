-- Each certificate that newest and list hand out, and one where has-any says yes, was read from a leaf that their walk entered, in
-- tables of any bytes.
-- Assumes nothing.
use Rattle.std.specs.Prelude.{Ok}
use Prim.Native.Nat.{ℕ, zero, suc, ◌-◌, ◌≤◌}
use native.Mathlib.Omega.{arith}
use mathlib.Core.Path.{◌≡◌, refl, sym, ap, ◌∙◌, subst}
use mathlib.Core.Logic.{◌⊎◌, inl, inr}
use mathlib.Core.Bool.{Bool, true, false}
use mathlib.Core.List.Memᴰ
use mathlib.Core.List.{List, [], ◌∷◌, ◌++◌, Memᴰ}
use mathlib.Core.Option.{some}
use lib.ListN.{length, take}
use Rattle.rules.specs.Test.{between, all}
use Rattle.rules.specs.Key.{issue_of}
use Rattle.rules.specs.Entry.{Cert, keys, cut}
use Rattle.rules.specs.Page.{Page, over}
use Rattle.rules.specs.Table.{fit0}
use Rattle.rules.specs.Enter.{enter}
use Rattle.rules.specs.Walk.{Walked, enters, finds, stops, walk_of}
use Rattle.rules.specs.Call.{lengths_for, newest_no, newest_issue, newest_record, any_no, any_yes, listed_no, listed_count, any_error_no, find_error_no, list_error_no}
use Rattle.rules.specs.Newest.{meter, newest_in}
use Rattle.rules.specs.HasAny.{first_of, any_in}
use Rattle.rules.specs.List.{ListLeft, up_from, records_of, list_done, list_refused, list_from, list}
use Rattle.rules.specs.declared.Place.{Place}
use Rattle.rules.specs.declared.Asked.{Asked}
use Rattle.rules.specs.declared.Session.{Session}
use Rattle.rules.specs.Answer.{newest_is}
use Rattle.rules.proofs.Entries.Tests.{all_head, all_tail, between-low, between-high}
use Rattle.rules.proofs.Entries.Rises.{length-keys}
use Rattle.rules.proofs.Entries.Entries.{cut_in, cut_out}
use Rattle.rules.proofs.Bytes.Over.{take-over}
use Rattle.enter.proofs.Stands.{comes}
use Rattle.answers.specs.Range.{Parent, numbers_of, Comes}
use Rattle.answers.proofs.RangeWalks.{walk-keeps}
use Rattle.answers.proofs.Ranges.{newest-done, any-done}
use Rattle.reading.specs.Reading.{last_issue, ReadFrom, NewestExact, AnyExact, ListExact}
use Rattle.reading.proofs.Exact.{holds-leaf, shaped-entered, Good, good-entered}
use Rattle.reading.proofs.Meters.{meter-low, meter-high, issue-from, issue-to, model_of_lem, serial_of_lem, first-model, first-serial}

-- ── Members of lists ────────────────────────────────────────────────────────────────────────────────────────────

in_append : (x : Cert) (ys zs : List Cert) → Memᴰ x (ys ++ zs) → Memᴰ x ys ⊎ Memᴰ x zs
in_append x [] zs m = inr m
in_append x (y ∷ ys) zs m = go (Memᴰ.cases_cons m) (in_append x ys zs)
  where
    more : Memᴰ x ys ⊎ Memᴰ x zs → Memᴰ x (y ∷ ys) ⊎ Memᴰ x zs
    more (inl m) = inl (Memᴰ.tail m)
    more (inr m) = inr m

    go : (x ≡ y) ⊎ Memᴰ x (ys ++ zs) → (Memᴰ x (ys ++ zs) → Memᴰ x ys ⊎ Memᴰ x zs)
        → Memᴰ x (y ∷ ys) ⊎ Memᴰ x zs
    go (inl q) ih = inl (Memᴰ.head q)
    go (inr m) ih = more (ih m)

in_take : (n : ℕ) (x : Cert) (ys : List Cert) → Memᴰ x (take n ys) → Memᴰ x ys
in_take zero x ys m = absurd (Memᴰ.not-nil m)
in_take (suc n) x [] m = absurd (Memᴰ.not-nil m)
in_take (suc n) x (y ∷ ys) m = go (Memᴰ.cases_cons m) (in_take n x ys)
  where
    go : (x ≡ y) ⊎ Memᴰ x (take n ys) → (Memᴰ x (take n ys) → Memᴰ x ys) → Memᴰ x (y ∷ ys)
    go (inl q) ih = Memᴰ.head q
    go (inr m) ih = Memᴰ.tail (ih m)

in_cut : (low high : ℕ) (x : Cert) (ys : List Cert) → Memᴰ x (cut low high ys)
    → Memᴰ x ys × (between low high x.key ≡ true)
unfolding cut
in_cut low high x [] m = absurd (Memᴰ.not-nil m)
in_cut low high x (y ∷ ys) m = go (between low high y.key) refl (in_cut low high x ys)
  where
    Rest : Type 0
    Rest = Memᴰ x (cut low high ys) → Memᴰ x ys × (between low high x.key ≡ true)

    first : between low high y.key ≡ true → (x ≡ y) ⊎ Memᴰ x (cut low high ys) → Rest
        → Memᴰ x (y ∷ ys) × (between low high x.key ≡ true)
    first b (inl q) ih = (Memᴰ.head q, ap (λ (z : Cert). between low high z.key) q ∙ b)
    first b (inr m) ih = let r = ih m in (Memᴰ.tail r.0, r.1)

    go : (b : Bool) → between low high y.key ≡ b → Rest → Memᴰ x (y ∷ ys) × (between low high x.key ≡ true)
    go true b ih = first b (Memᴰ.cases_cons (subst (Memᴰ x) (cut_in low high y ys b) m)) ih
    go false b ih = let r = ih (subst (Memᴰ x) (cut_out low high y ys b) m) in (Memᴰ.tail r.0, r.1)

in_good : (x : Cert) (ys : List Cert) → Memᴰ x ys → all Good ys ≡ true → Good x ≡ true
in_good x [] m g = absurd (Memᴰ.not-nil m)
in_good x (y ∷ ys) m g = go (Memᴰ.cases_cons m) (in_good x ys)
  where
    go : (x ≡ y) ⊎ Memᴰ x ys → (Memᴰ x ys → all Good ys ≡ true → Good x ≡ true) → Good x ≡ true
    go (inl q) ih = ap Good q ∙ all_head Good y ys g
    go (inr m) ih = ih m (all_tail Good y ys g)

-- ── What a walk finds ───────────────────────────────────────────────────────────────────────────────────────────

module _ (n c : ℕ) (a : Asked) (w : List ℕ) where
  abbrev AllRead : Walked → Type 0
  AllRead y = (x : Cert) → Memᴰ x y.found → ReadFrom n c a w x

  pub all_read : AllRead (walk_of n c a w)
  unfolding finds stops
  all_read =
      walk-keeps n c a w AllRead (λ above y e z p h ih. ih)
      (λ above y e leaf z p h ih x m.
      both above y e leaf z p h ih x
      (in_append x y.found (take (a.room - length y.found) (cut a.low a.high leaf.view.certs)) m))
      (λ x m. absurd (Memᴰ.not-nil m))
    where
      both : (above : List Parent) (y : Walked) (e : Place) (leaf : Page) → Comes n c a w above y e → enters a e y ≡ true
          → (enter n c (numbers_of above) y.table e).page ≡ some leaf → AllRead y → (x : Cert)
          → Memᴰ x y.found ⊎ Memᴰ x (take (a.room - length y.found) (cut a.low a.high leaf.view.certs))
          → ReadFrom n c a w x
      both above y e leaf z p h ih x (inl m) = ih x m
      both above y e leaf z p h ih x (inr m) =
          let o = in_take (a.room - length y.found) x (cut a.low a.high leaf.view.certs) m in
          let r = in_cut a.low a.high x leaf.view.certs o in
          let u = enter n c (numbers_of above) y.table e in
          let k = comes n c (numbers_of above) y.table e in
          record {
            above = above;
            so_far = y;
            place = e;
            comes = z;
            entered = p;
            leaf = leaf;
            found = h;
            is_leaf_lem = holds-leaf leaf.view x (shaped-entered u k leaf h) r.0;
            held = r.0;
            from = between-low a.low a.high x.key r.1;
            to = between-high a.low a.high x.key r.1;
            good = in_good x leaf.view.certs r.0 (good-entered u k leaf h);
          }

-- ── Newest ──────────────────────────────────────────────────────────────────────────────────────────────────────

-- what is answered is of one that was found
last_found : (xs : List Cert) (i x : ℕ) → newest_in xs ≡ Ok (newest_is i x)
    → (entry : Cert) × Memᴰ entry xs × (issue_of entry.key ≡ i) × (entry.value ≡ x)
unfolding newest_in find_error_no newest_issue newest_record
last_found [] i x h = absurd (omega (arith, ap newest_no h))
last_found (y ∷ []) i x h = (y, Memᴰ.head refl, ap newest_issue h, ap newest_record h)
last_found (y ∷ (z ∷ zs)) i x h =
    let r = last_found (z ∷ zs) i x h in
    (r.0, Memᴰ.tail r.1, r.2, r.3)

pub newest_exact : NewestExact
unfolding NewestExact find_error_no
newest_exact w t s model serial i x wide h =
    let d = newest-done w t s model serial (ap newest_no h) in
    let r = last_found (walk_of s.n s.c (meter model serial) w).found i x (sym d ∙ h) in
    let k = r.0.key in
    let f = all_read s.n s.c (meter model serial) w r.0 r.1 in
    let low = subst (λ (z : ℕ). z ≤ k) (meter-low model serial) f.from in
    let high = subst (λ (z : ℕ). k ≤ z) (meter-high model serial) f.to in
    record {
      entry = r.0;
      read_from = f;
      of_model = model_of_lem model serial k low high wide;
      of_serial = serial_of_lem model serial k low high wide;
      of_issue = r.2;
      value = r.3;
      first = subst (λ (z : ℕ). 1 ≤ z) r.2 (issue-from model serial k low high);
      last = subst (λ (z : ℕ). z ≤ last_issue) r.2 (issue-to model serial k low high);
    }

-- ── Has-any ─────────────────────────────────────────────────────────────────────────────────────────────────────

one_found : (xs : List Cert) → any_in xs ≡ Ok true → (entry : Cert) × Memᴰ entry xs
unfolding any_in any_yes
one_found [] h = absurd (omega (arith, ap any_yes h))
one_found (x ∷ xs) h = (x, Memᴰ.head refl)

pub any_exact : AnyExact
unfolding AnyExact any_error_no
any_exact w t s model serial wide h =
    let r = one_found (walk_of s.n s.c (first_of model serial) w).found (sym (any-done w t s model serial (ap any_no h)) ∙ h) in
    let f = all_read s.n s.c (first_of model serial) w r.0 r.1 in
    record {
      entry = r.0;
      read_from = f;
      of_model = first-model model serial r.0.key f.from f.to wide;
      of_serial = first-serial model serial r.0.key f.from f.to wide;
    }

-- ── List ────────────────────────────────────────────────────────────────────────────────────────────────────────

length-records : (xs : List Cert) → length (records_of xs) ≡ length xs
unfolding records_of
length-records [] = refl
length-records (x ∷ xs) = ap suc (length-records xs)

module _ (w t : List ℕ) (s : Session) (start : ℕ) (ks xs : List ℕ) where
  abbrev walked : Walked
  walked = walk_of s.n s.c (up_from start ks xs) w

  list-is : listed_no (list w t s start ks xs).answer ≡ 0
      → list w t s start ks xs ≡ list_done s walked.table t walked.found ks xs
  unfolding list list_from list_refused list_error_no
  list-is z = go (lengths_for s w t) refl (fit0 s.n w) refl walked.whole refl
    where
      go : (a : Bool) → lengths_for s w t ≡ a → (b : Bool) → fit0 s.n w ≡ b → (d : Bool) → walked.whole ≡ d
          → list w t s start ks xs ≡ list_done s walked.table t walked.found ks xs
      go false p b q d o = absurd (omega (arith, rw (list, p) at z))
      go true p false q d o = absurd (omega (arith, rw (list, p, q) at z))
      go true p true q false o = absurd (omega (arith, rw (list, p, q, list_from, o) at z))
      go true p true q true o = rw (list, p, q, list_from, o)

pub list_exact : ListExact
unfolding ListExact list_error_no listed_count list_done
list_exact w t s start ks xs k h =
    let d = list-is w t s start ks xs (ap listed_no h) in
    let found = (walk_of s.n s.c (up_from start ks xs) w).found in
    let m : length found ≡ k = ap listed_count (sym (ap (λ (r : ListLeft). r.answer) d) ∙ h) in
    record {
      entries = found;
      many = m;
      in_keys = ap (λ (r : ListLeft). take k r.keys) d
          ∙ (ap (λ (j : ℕ). take j (over (keys found) ks)) (sym (length-keys found ∙ m)) ∙ take-over (keys found) ks);
      in_records = ap (λ (r : ListLeft). take k r.records) d
          ∙ (ap (λ (j : ℕ). take j (over (records_of found) xs)) (sym (length-records found ∙ m)) ∙ take-over (records_of found) xs);
      read_from = all_read s.n s.c (up_from start ks xs) w;
    }
