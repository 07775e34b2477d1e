-- In every history an insert that is done puts its certificate among those that the tree holds.
use Rattle.std.specs.Prelude.{Ok}
use Prim.Native.Nat.{ℕ, ◌<◌}
use native.Mathlib.Omega.{arith}
use mathlib.Core.Path.{◌≡◌, refl, sym, ap, ◌∙◌, subst}
use mathlib.Core.Logic.{◌≢◌}
use mathlib.Core.Bool.{Bool, true, false}
use mathlib.Core.List.{List, [], ◌∷◌, ◌++◌}
use mathlib.Core.Option.{Option, some, none, some-injective, none-ne-some}
use lib.Dec.{eqb, ltb, leb}
use borrow.Author.Tests.{eqb-true, eqb-false, ltb-true, ltb-false, leb-true, leb-false}
use Rattle.rules.specs.Layout.{last_key}
use Rattle.rules.specs.Key.{key_of, model_of, serial_of, issue_of, good_parts, good_key}
use Rattle.rules.specs.Entry.{Cert, keys, find, put, rising}
use Rattle.rules.specs.Tree.{tree_of}
use Rattle.rules.specs.Call.{looked_no, find_error_no}
use Rattle.rules.specs.Lookup.{lookup}
use Rattle.rules.specs.History.{inserts, State, after_insert, step, run, start, Proper}
use Rattle.rules.proofs.Bytes.Keys.{key_of_parts, model_of-bound, serial_of-bound, issue_of-bound}
use Rattle.rules.proofs.Entries.Tests.{not_both, between-above}
use Rattle.rules.proofs.Entries.Rises.{rising-from, rising_tail}
use Rattle.rules.proofs.Entries.Entries.{find_head, find_tail, find-below, find_outside, all-find}
use Rattle.rules.proofs.Entries.Puts.{find-put-same, find-put-other, put-rising}
use Rattle.reading.specs.Inserting.{InsertAdds}
use Rattle.reading.specs.Agreeing.{held, Passes, answer_for, AgreeIn, HistoriesAgree, InsertPuts}
use Rattle.reading.proofs.FoundThen.{done-good}
use Rattle.rules.proofs.Demand3.Reads.TreeCerts.{all_ordered, all-good}
use Rattle.reading.proofs.Agrees.{passing}
use Rattle.reading.proofs.HistoriesAgree.{histories_agree}
use Rattle.reading.proofs.Adds.{run-then, proper_then, insert-adds, done-pages}

-- ── Lists that rise are told by what is found in them ───────────────────────────────────────────────────────────

abbrev cert_of : ℕ → ℕ → Cert
cert_of k x = record { key = k; value = x }

same-entry : (x y : Cert) → x.key ≡ y.key → x.value ≡ y.value → x ≡ y
same-entry x y p q = ap (λ (k : ℕ). cert_of k x.value) p ∙ ap (cert_of y.key) q

abbrev Finds : List Cert → List Cert → Type 0
Finds xs ys = (k : ℕ) → find k xs ≡ find k ys

-- a key below all of a list
below_none : (k : ℕ) (y : Cert) (ys : List Cert) → rising (keys (y ∷ ys)) ≡ true → k < y.key → find k (y ∷ ys) ≡ none
unfolding keys
below_none k y ys r h =
    find_tail k y ys (λ q. absurd (omega (arith, q, h)))
    ∙ find-below y.key k ys (rising-from y.key (keys ys) r) (omega arith)

own-none : (y : Cert) (ys : List Cert) → rising (keys (y ∷ ys)) ≡ true → find y.key ys ≡ none
unfolding keys
own-none y ys r = find-below y.key y.key ys (rising-from y.key (keys ys) r) (omega arith)

ext_find : (xs ys : List Cert) → rising (keys xs) ≡ true → rising (keys ys) ≡ true → Finds xs ys → xs ≡ ys
unfolding keys find
ext_find [] [] p q f = refl
ext_find [] (y ∷ ys) p q f = absurd (none-ne-some y.value (f y.key ∙ find_head y.key y ys refl))
ext_find (x ∷ xs) [] p q f = absurd (none-ne-some x.value (sym (f x.key) ∙ find_head x.key x xs refl))
ext_find (x ∷ xs) (y ∷ ys) p q f =
    go (ltb x.key y.key) refl (ltb y.key x.key) refl
    (ext_find xs ys (rising_tail x.key (keys xs) p) (rising_tail y.key (keys ys) q))
  where
    rest : x.key ≡ y.key → Finds xs ys
    rest e k = at (eqb k x.key) refl
      where
        at : (b : Bool) → eqb k x.key ≡ b → find k xs ≡ find k ys
        at true h =
            let z = eqb-true k x.key h in
            ap (λ (j : ℕ). find j xs) z ∙ (own-none x xs p ∙ (sym (own-none y ys q) ∙ ap (λ (j : ℕ). find j ys) (sym (z ∙ e))))
        at false h =
            let z = eqb-false k x.key h in
            sym (find_tail k x xs z) ∙ (f k ∙ find_tail k y ys (λ w. z (w ∙ sym e)))

    go : (a : Bool) → ltb x.key y.key ≡ a → (b : Bool) → ltb y.key x.key ≡ b → (Finds xs ys → xs ≡ ys) → x ∷ xs ≡ y ∷ ys
    go true a b c ih =
        absurd (none-ne-some x.value
        (sym (below_none x.key y ys q (ltb-true x.key y.key a)) ∙ (sym (f x.key) ∙ find_head x.key x xs refl)))
    go false a true c ih =
        absurd (none-ne-some y.value
        (sym (below_none y.key x xs p (ltb-true y.key x.key c)) ∙ (f y.key ∙ find_head y.key y ys refl)))
    go false a false c ih =
        let u = ltb-false x.key y.key a in
        let w = ltb-false y.key x.key c in
        let e : x.key ≡ y.key = omega (arith, u, w) in
        let v = some-injective x.value y.value
        (sym (find_head x.key x xs refl) ∙ (f x.key ∙ find_head x.key y ys e)) in
        ap (λ (z : Cert). z ∷ xs) (same-entry x y e v) ∙ ap (λ (zs : List Cert). y ∷ zs) (ih (rest e))

-- ── Answers tell what is held ───────────────────────────────────────────────────────────────────────────────────

answer-same : (a b : Option ℕ) → answer_for a ≡ answer_for b → a ≡ b
unfolding answer_for find_error_no
answer-same none none h = refl
answer-same none (some y) h = absurd (omega (arith, ap looked_no h))
answer-same (some x) none h = absurd (omega (arith, ap looked_no h))
answer-same (some x) (some y) h = let q : Ok x ≡ Ok y = h in cc

module _ (m : State) (p : Passes m.working m.stable m.session) where
  abbrev certs : List Cert
  certs = held m.session m.working

  -- nothing is held under a key with a part that is zero, or above the last key
  bad_none : (k : ℕ) → good_key k ≡ false → find k certs ≡ none
  unfolding held
  bad_none k g = go (find k (tree_of m.session.n m.working).certs) refl
    where
      go : (o : Option ℕ) → find k (tree_of m.session.n m.working).certs ≡ o → find k (tree_of m.session.n m.working).certs ≡ none
      go none h = h
      go (some y) h =
          absurd (not_both (all-find (λ z. good_key z.key) k (tree_of m.session.n m.working).certs y (all-good (passing p).good) h) g)

  beyond_none : (k : ℕ) → last_key < k → find k certs ≡ none
  unfolding held
  beyond_none k h =
      find_outside 0 last_key k (tree_of m.session.n m.working).certs (all_ordered (passing p).good).within (between-above 0 last_key k h)

-- a key that is no other's is held after as before
module _ (m r : State) (A : AgreeIn m) (B : AgreeIn r) (j : ℕ)
    (same : (model serial issue : ℕ) → model < 65536 → serial < 4294967296 → issue < 65536 → key_of model serial issue ≡ j
    → (lookup r.working r.stable r.session model serial issue).answer
    ≡ (lookup m.working m.stable m.session model serial issue).answer) where
  held_same : find j (held r.session r.working) ≡ find j (held m.session m.working)
  unfolding good_key
  held_same = go (leb j last_key) refl (good_key j) refl
    where
      go : (a : Bool) → leb j last_key ≡ a → (b : Bool) → good_key j ≡ b
          → find j (held r.session r.working) ≡ find j (held m.session m.working)
      go false l b g =
          let h = leb-false j last_key l in
          beyond_none r B.passes j h ∙ sym (beyond_none m A.passes j h)
      go true l false g = bad_none r B.passes j g ∙ sym (bad_none m A.passes j g)
      go true l true g =
          let h = leb-true j last_key l in
          let x = model_of-bound j (omega (arith, h)) in
          let y = serial_of-bound j in
          let z = issue_of-bound j in
          let e = key_of_parts j in
          answer-same (find j (held r.session r.working)) (find j (held m.session m.working))
          (ap (λ (i : ℕ). answer_for (find i (held r.session r.working))) (sym e)
          ∙ (sym (B.agree.lookup_agrees (model_of j) (serial_of j) (issue_of j) x y z g)
          ∙ (same (model_of j) (serial_of j) (issue_of j) (omega (arith, x)) (omega (arith, y)) (omega (arith, z)) e
          ∙ (A.agree.lookup_agrees (model_of j) (serial_of j) (issue_of j) x y z g
          ∙ ap (λ (i : ℕ). answer_for (find i (held m.session m.working))) e))))

-- ── The theorem ─────────────────────────────────────────────────────────────────────────────────────────────────

-- the tree holds a list that rises, if lookups after a call answer by it for one key and as before for the others
module _ (m r : State) (model serial issue : ℕ) (wide_model : model < 65536) (wide_serial : serial < 4294967296) (wide_issue : issue < 65536)
    (good : good_parts model serial issue ≡ true) (A : AgreeIn m) (B : AgreeIn r) (certs : List Cert) (rise : rising (keys certs) ≡ true)
    (own : (lookup r.working r.stable r.session model serial issue).answer ≡ answer_for (find (key_of model serial issue) certs))
    (others : (model' serial' issue' : ℕ) → model' < 65536 → serial' < 4294967296 → issue' < 65536
    → key_of model' serial' issue' ≢ key_of model serial issue
    → (lookup r.working r.stable r.session model' serial' issue').answer
    ≡ (lookup m.working m.stable m.session model' serial' issue').answer)
    (rest : (j : ℕ) → j ≢ key_of model serial issue → find j certs ≡ find j (held m.session m.working)) where
  abbrev k : ℕ
  k = key_of model serial issue

  abbrev after : List Cert
  after = held r.session r.working

  found-own : find k after ≡ find k certs
  found-own =
      answer-same (find k after) (find k certs)
      (sym (B.agree.lookup_agrees model serial issue (omega (arith, wide_model)) (omega (arith, wide_serial)) (omega (arith, wide_issue)) good) ∙ own)

  finds : Finds after certs
  finds j = go (eqb j k) refl
    where
      go : (b : Bool) → eqb j k ≡ b → find j after ≡ find j certs
      go true h =
          let e = eqb-true j k h in
          ap (λ (i : ℕ). find i after) e ∙ (found-own ∙ ap (λ (i : ℕ). find i certs) (sym e))
      go false h =
          let d : j ≢ k = eqb-false j k h in
          held_same m r A B j (λ a b c p q o e. others a b c p q o (λ z. d (sym e ∙ z))) ∙ sym (rest j d)

  pub held-is : after ≡ certs
  held-is = ext_find after certs B.agree.rises rise finds

pub insert-puts : InsertPuts
unfolding InsertPuts InsertAdds HistoriesAgree Proper step after_insert answer_for
insert-puts n w s l h t z model serial issue x a b c d done =
    let e = inserts model serial issue x in
    let m = run h (start w s) in
    let y = insert-adds n w s l h t z model serial issue x a b c d done in
    let A = histories_agree n w s l h t z in
    let B : AgreeIn (step e m) =
    subst AgreeIn (run-then h e (start w s))
    (histories_agree n w s l (h ++ (e ∷ [])) (proper_then n h e t (a, b, c, d)) (done-pages w s h model serial issue x done ∙ z)) in
    let new = cert_of (key_of model serial issue) x in
    let before = held m.session m.working in
    held-is m (step e m) model serial issue a b c (done-good m.working m.stable m.session model serial issue x done) A B
    (put new before) (put-rising new before A.agree.rises) (y.own ∙ ap answer_for (sym (find-put-same new before))) y.others
    (λ j q. find-put-other j new before q)
