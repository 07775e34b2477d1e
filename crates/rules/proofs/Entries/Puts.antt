-- An entry put among others in key order: what is found then, what stays in order, and how many there are. Assumes nothing.
use Rattle.std.proofs.Common.{◌≡◌, ℕ, suc, ◌<◌, ◌≤◌, Bool, true, false, eqb, ltb, ◌⊎◌, List, [], ◌∷◌, length, sym, refl, ap, ◌∙◌, inl, inr, arith, ltb-false, ltb-true, le-ltb, lt-ltb, eq-eqb, ne_eqb, eqb-true}
use mathlib.Core.Option.{some}
use borrow.Author.Tests.{eqb-false}
use Rattle.rules.specs.Test.{all, mem}
use Rattle.rules.specs.Entry.{Entry, keys, find, put, rises_from, rising}
use Rattle.rules.proofs.Entries.Tests.{fails, not_both, all_head, all_tail, all_cons, mem-nil, mem-head, mem_tail, mem_cases}
use Rattle.rules.proofs.Entries.Rises.{rises-nil, rises-head, rises_tail, rises-cons, rises-lower, rises-mem, rising-from, rising-of-from, rising_tail, all-keys}
use Rattle.rules.proofs.Entries.Entries.{find_head, find_tail, find-cons, find-mem, mem-find}

module _ {B : Type 0} where
  -- ── The three cases ───────────────────────────────────────────────────────────────────────────────────────────

  pub put-nil : (x : Entry B) → put x [] ≡ x ∷ []
  unfolding put
  put-nil x = refl

  -- before a higher key, over the same key, behind a lower one
  pub put-before : (x y : Entry B) (ys : List (Entry B)) → x.key < y.key → put x (y ∷ ys) ≡ x ∷ (y ∷ ys)
  unfolding put
  put-before x y ys h = rw (lt-ltb x.key y.key h, put)

  pub put-over : (x y : Entry B) (ys : List (Entry B)) → x.key ≡ y.key → put x (y ∷ ys) ≡ x ∷ ys
  unfolding put
  put-over x y ys h =
      rw (le-ltb x.key y.key (omega (arith, h)), put) (rw (eq-eqb x.key y.key h))

  pub put-behind : (x y : Entry B) (ys : List (Entry B)) → y.key < x.key → put x (y ∷ ys) ≡ y ∷ put x ys
  unfolding put
  put-behind x y ys h =
      rw (le-ltb x.key y.key (omega arith), put) (rw (ne_eqb x.key y.key (λ e. omega (arith, e))))

  -- a fact of a put, by induction
  put_ind : (x : Entry B) (P : List (Entry B) → List (Entry B) → Type 0) → P [] (x ∷ [])
      → ((y : Entry B) (ys : List (Entry B)) → x.key < y.key → P (y ∷ ys) (x ∷ (y ∷ ys)))
      → ((y : Entry B) (ys : List (Entry B)) → x.key ≡ y.key → P (y ∷ ys) (x ∷ ys))
      → ((y : Entry B) (ys : List (Entry B)) → y.key < x.key → P ys (put x ys) → P (y ∷ ys) (y ∷ put x ys))
      → (ys : List (Entry B)) → P ys (put x ys)
  put_ind x P last before over behind [] = rw put-nil last
  put_ind x P last before over behind (y ∷ ys) =
      go (ltb x.key y.key) refl (eqb x.key y.key) refl (put_ind x P last before over behind ys)
    where
      go : (b : Bool) → ltb x.key y.key ≡ b → (c : Bool) → eqb x.key y.key ≡ c → P ys (put x ys)
          → P (y ∷ ys) (put x (y ∷ ys))
      go true e c f ih = let h = ltb-true x.key y.key e in rw (put-before x y ys h) (before y ys h)
      go false e true f ih = let h = eqb-true x.key y.key f in rw (put-over x y ys h) (over y ys h)
      go false e false f ih =
          let h : y.key < x.key = lower (ltb-false x.key y.key e) (eqb-false x.key y.key f) in
          rw (put-behind x y ys h) (behind y ys h ih)
        where
          lower : y.key ≤ x.key → (x.key ≡ y.key → ⊥) → y.key < x.key
          lower p q = omega arith

  -- ── What is found ─────────────────────────────────────────────────────────────────────────────────────────────

  pub find-put-same : (x : Entry B) (ys : List (Entry B)) → find x.key (put x ys) ≡ some x.value
  find-put-same x ys =
      put_ind x (λ ys zs. find x.key zs ≡ some x.value) (find_head x.key x [] refl)
      (λ y ys h. find_head x.key x (y ∷ ys) refl)
      (λ y ys h. find_head x.key x ys refl)
      (λ y ys h ih. find_tail x.key y (put x ys) (λ e. omega (arith, e)) ∙ ih)
      ys

  pub find-put-other : (k : ℕ) (x : Entry B) (ys : List (Entry B)) → (k ≡ x.key → ⊥) → find k (put x ys) ≡ find k ys
  find-put-other k x ys n =
      put_ind x (λ ys zs. find k zs ≡ find k ys) (find_tail k x [] n)
      (λ y ys h. find_tail k x (y ∷ ys) n)
      (λ y ys h. find_tail k x ys n ∙ sym (find_tail k y ys (λ e. n (e ∙ sym h))))
      (λ y ys h ih. find-cons k y (put x ys) ys ih)
      ys

  pub mem-put-same : (x : Entry B) (ys : List (Entry B)) → mem x.key (keys (put x ys)) ≡ true
  mem-put-same x ys = mem-find x.key (put x ys) x.value (find-put-same x ys)

  pub mem-put : (k : ℕ) (x : Entry B) (ys : List (Entry B)) → mem k (keys ys) ≡ true → mem k (keys (put x ys)) ≡ true
  mem-put k x ys m = go (eqb k x.key) refl
    where
      go : (b : Bool) → eqb k x.key ≡ b → mem k (keys (put x ys)) ≡ true
      go true e = ap (λ (j : ℕ). mem j (keys (put x ys))) (eqb-true k x.key e) ∙ mem-put-same x ys
      go false e =
          let r = find-mem k ys m in
          mem-find k (put x ys) r.0 (find-put-other k x ys (eqb-false k x.key e) ∙ r.1)

  pub mem-put_cases : (k : ℕ) (x : Entry B) (ys : List (Entry B)) → mem k (keys (put x ys)) ≡ true
      → (k ≡ x.key) ⊎ (mem k (keys ys) ≡ true)
  mem-put_cases k x ys m = go (eqb k x.key) refl
    where
      go : (b : Bool) → eqb k x.key ≡ b → (k ≡ x.key) ⊎ (mem k (keys ys) ≡ true)
      go true e = inl (eqb-true k x.key e)
      go false e =
          let r = find-mem k (put x ys) m in
          inr (mem-find k ys r.0 (sym (find-put-other k x ys (eqb-false k x.key e)) ∙ r.1))

  -- ── What stays ────────────────────────────────────────────────────────────────────────────────────────────────

  pub all-put : (p : Entry B → Bool) (x : Entry B) (ys : List (Entry B)) → p x ≡ true → all p ys ≡ true → all p (put x ys) ≡ true
  all-put p x ys t =
      put_ind x (λ ys zs. all p ys ≡ true → all p zs ≡ true) (λ h. all_cons p x [] t h)
      (λ y ys e h. all_cons p x (y ∷ ys) t h)
      (λ y ys e h. all_cons p x ys t (all_tail p y ys h))
      (λ y ys e ih h. all_cons p y (put x ys) (all_head p y ys h) (ih (all_tail p y ys h)))
      ys

  pub put-within : (p : ℕ → Bool) (x : Entry B) (ys : List (Entry B)) → p x.key ≡ true → all p (keys ys) ≡ true
      → all p (keys (put x ys)) ≡ true
  put-within p x ys t h = rw all-keys (all-put (λ y. p y.key) x ys t (rw all-keys at h))

  pub put-rises : (k : ℕ) (x : Entry B) (ys : List (Entry B)) → k < x.key → rises_from k (keys ys) ≡ true
      → rises_from k (keys (put x ys)) ≡ true
  unfolding keys
  put-rises k x ys =
      put_ind x (λ ys zs. (k : ℕ) → k < x.key → rises_from k (keys ys) ≡ true → rises_from k (keys zs) ≡ true)
      (λ k p h. rises-cons k x.key [] p (rises-nil x.key))
      (λ y ys e k p h. rises-cons k x.key (y.key ∷ keys ys) p
      (rises-cons x.key y.key (keys ys) e (rises_tail k y.key (keys ys) h)))
      (λ y ys e k p h. rises-cons k x.key (keys ys) p
      (rises-lower x.key y.key (keys ys) (omega (arith, e)) (rises_tail k y.key (keys ys) h)))
      (λ y ys e ih k p h. rises-cons k y.key (keys (put x ys)) (rises-head k y.key (keys ys) h)
      (ih y.key e (rises_tail k y.key (keys ys) h)))
      ys k

  pub put-rising : (x : Entry B) (ys : List (Entry B)) → rising (keys ys) ≡ true → rising (keys (put x ys)) ≡ true
  unfolding keys
  put-rising x ys =
      put_ind x (λ ys zs. rising (keys ys) ≡ true → rising (keys zs) ≡ true)
      (λ h. rising-of-from x.key [] (rises-nil x.key))
      (λ y ys e h. rising-of-from x.key (y.key ∷ keys ys)
      (rises-cons x.key y.key (keys ys) e (rising-from y.key (keys ys) h)))
      (λ y ys e h. rising-of-from x.key (keys ys)
      (rises-lower x.key y.key (keys ys) (omega (arith, e)) (rising-from y.key (keys ys) h)))
      (λ y ys e ih h. rising-of-from y.key (keys (put x ys))
      (put-rises y.key x ys e (rising-from y.key (keys ys) h)))
      ys

  -- ── How many ──────────────────────────────────────────────────────────────────────────────────────────────────

  pub length-put-present : (x : Entry B) (ys : List (Entry B)) → rising (keys ys) ≡ true → mem x.key (keys ys) ≡ true
      → length (put x ys) ≡ length ys
  unfolding keys
  length-put-present x ys =
      put_ind x (λ ys zs. rising (keys ys) ≡ true → mem x.key (keys ys) ≡ true → length zs ≡ length ys)
      (λ h m. absurd (mem-nil x.key m))
      (λ y ys e h m. absurd (higher y ys e h (mem_cases x.key y.key (keys ys) m)))
      (λ y ys e h m. refl)
      (λ y ys e ih h m. ap suc (ih (rising_tail y.key (keys ys) h) (later y ys e (mem_cases x.key y.key (keys ys) m))))
      ys
    where
      higher : (y : Entry B) (ys : List (Entry B)) → x.key < y.key → rising (keys (y ∷ ys)) ≡ true
          → (x.key ≡ y.key) ⊎ (mem x.key (keys ys) ≡ true) → ⊥
      higher y ys e h (inl q) = omega (arith, q)
      higher y ys e h (inr m) = omega (arith, rises-mem y.key x.key (keys ys) (rising-from y.key (keys ys) h) m)

      later : (y : Entry B) (ys : List (Entry B)) → y.key < x.key
          → (x.key ≡ y.key) ⊎ (mem x.key (keys ys) ≡ true) → mem x.key (keys ys) ≡ true
      later y ys e (inl q) = absurd (omega (arith, q))
      later y ys e (inr m) = m

  pub length-put-absent : (x : Entry B) (ys : List (Entry B)) → mem x.key (keys ys) ≡ false → length (put x ys) ≡ suc (length ys)
  unfolding keys
  length-put-absent x ys =
      put_ind x (λ ys zs. mem x.key (keys ys) ≡ false → length zs ≡ suc (length ys))
      (λ m. refl)
      (λ y ys e m. refl)
      (λ y ys e m. absurd (not_both (ap (λ (k : ℕ). mem k (y.key ∷ keys ys)) e ∙ mem-head y.key (keys ys)) m))
      (λ y ys e ih m. ap suc (ih (fails _ (λ h. not_both (mem_tail x.key y.key (keys ys) h) m))))
      ys

  pub length-put-le : (x : Entry B) (ys : List (Entry B)) → length (put x ys) ≤ suc (length ys)
  length-put-le x ys =
      put_ind x (λ ys zs. length zs ≤ suc (length ys)) (omega arith)
      (λ y ys e. omega arith)
      (λ y ys e. omega arith)
      (λ y ys e ih. omega arith)
      ys
