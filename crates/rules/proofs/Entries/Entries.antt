-- Entries in key order, whatever stands under a key: what is found, and what a range cut keeps. Assumes nothing.
use Rattle.std.proofs.Common.{◌≡◌, ℕ, zero, suc, ◌-◌, ◌<◌, ◌≤◌, Bool, true, false, eqb, ◌⊎◌, List, [], ◌∷◌, ◌++◌, length, get_or, take, drop, sym, refl, ap, ◌∙◌, inl, inr, append-nil, arith, take-append-drop, eq-eqb, ne_eqb, eqb-true}
use mathlib.Core.Option.{Option, some, none, some-injective, none-ne-some}
use borrow.Author.Tests.{eqb-false}
use Rattle.rules.specs.Test.{between, all, mem}
use Rattle.rules.specs.Entry.{Entry, keys, find, cut, rises_from, rising}
use Rattle.rules.proofs.Entries.Tests.{all_take, all_drop, fails, not_both, between-low, between-high, between-of, between-below, between-above, between_wider, all_head, all_tail, all_nil, all_cons, all_imp, all-mem, all_of-mem, mem-nil, mem-head, mem_tail, mem_cases}
use Rattle.rules.proofs.Entries.Rises.{rises-head, rises_tail, rises-cons, rises-lower, rises-mem, rising-from, rising-of-from, rising_tail, rising-at, rising-before, rising-behind, length-keys, keys-take, keys-drop}

module _ {B : Type 0} where
  -- ── What stands under a key ───────────────────────────────────────────────────────────────────────────────────

  pub find_head : (k : ℕ) (x : Entry B) (xs : List (Entry B)) → k ≡ x.key → find k (x ∷ xs) ≡ some x.value
  unfolding find
  find_head k x xs e = rw (eq-eqb k x.key e, find)

  pub find_tail : (k : ℕ) (x : Entry B) (xs : List (Entry B)) → (k ≡ x.key → ⊥) → find k (x ∷ xs) ≡ find k xs
  unfolding find
  find_tail k x xs h = rw (ne_eqb k x.key h, find)

  -- the same entry in front
  pub find-cons : (k : ℕ) (x : Entry B) (xs ys : List (Entry B)) → find k xs ≡ find k ys → find k (x ∷ xs) ≡ find k (x ∷ ys)
  find-cons k x xs ys h = go (eqb k x.key) refl
    where
      go : (b : Bool) → eqb k x.key ≡ b → find k (x ∷ xs) ≡ find k (x ∷ ys)
      go true e = find_head k x xs (eqb-true k x.key e) ∙ sym (find_head k x ys (eqb-true k x.key e))
      go false e =
          find_tail k x xs (eqb-false k x.key e) ∙ (h ∙ sym (find_tail k x ys (eqb-false k x.key e)))

  -- a key is there where something stands under it
  pub find-mem : (k : ℕ) (xs : List (Entry B)) → mem k (keys xs) ≡ true → (v : B) × (find k xs ≡ some v)
  unfolding keys
  find-mem k [] m = absurd (mem-nil k m)
  find-mem k (x ∷ xs) m = go (eqb k x.key) refl (mem_cases k x.key (keys xs) m) (find-mem k xs)
    where
      go : (b : Bool) → eqb k x.key ≡ b → (k ≡ x.key) ⊎ (mem k (keys xs) ≡ true)
          → (mem k (keys xs) ≡ true → (v : B) × (find k xs ≡ some v)) → (v : B) × (find k (x ∷ xs) ≡ some v)
      go true e m ih = (x.value, find_head k x xs (eqb-true k x.key e))
      go false e (inl q) ih = absurd (eqb-false k x.key e q)
      go false e (inr m) ih = let r = ih m in (r.0, find_tail k x xs (eqb-false k x.key e) ∙ r.1)

  pub mem-find : (k : ℕ) (xs : List (Entry B)) (v : B) → find k xs ≡ some v → mem k (keys xs) ≡ true
  unfolding keys find
  mem-find k [] v h = absurd (none-ne-some v h)
  mem-find k (x ∷ xs) v h = go (eqb k x.key) refl (mem-find k xs v)
    where
      go : (b : Bool) → eqb k x.key ≡ b → (find k xs ≡ some v → mem k (keys xs) ≡ true) → mem k (x.key ∷ keys xs) ≡ true
      go true e ih = ap (λ (j : ℕ). mem j (x.key ∷ keys xs)) (eqb-true k x.key e) ∙ mem-head x.key (keys xs)
      go false e ih = mem_tail k x.key (keys xs) (ih (sym (find_tail k x xs (eqb-false k x.key e)) ∙ h))

  pub find_none : (k : ℕ) (xs : List (Entry B)) → (mem k (keys xs) ≡ true → ⊥) → find k xs ≡ none
  find_none k xs h = go (find k xs) refl
    where
      go : (o : Option B) → find k xs ≡ o → o ≡ none
      go none e = refl
      go (some v) e = absurd (h (mem-find k xs v e))

  pub absent : (k : ℕ) (xs : List (Entry B)) → find k xs ≡ none → mem k (keys xs) ≡ false
  absent k xs h = fails (mem k (keys xs)) (λ m. let r = find-mem k xs m in none-ne-some r.0 (sym h ∙ r.1))

  -- what each entry passes, what stands under a key passes
  pub all-find : (p : Entry B → Bool) (k : ℕ) (xs : List (Entry B)) (v : B) → all p xs ≡ true → find k xs ≡ some v
      → p (record { key = k; value = v }) ≡ true
  unfolding find
  all-find p k [] v h f = absurd (none-ne-some v f)
  all-find p k (x ∷ xs) v h f = go (eqb k x.key) refl (all-find p k xs v (all_tail p x xs h))
    where
      go : (b : Bool) → eqb k x.key ≡ b → (find k xs ≡ some v → p (record { key = k; value = v }) ≡ true)
          → p (record { key = k; value = v }) ≡ true
      go true e ih =
          let q = eqb-true k x.key e in
          let w = some-injective x.value v (sym (find_head k x xs q) ∙ f) in
          entry-is q w ∙ all_head p x xs h
        where
          entry-is : k ≡ x.key → x.value ≡ v → p (record { key = k; value = v }) ≡ p x
          entry-is q w =
              ap (λ (j : ℕ). p (record { key = j; value = v })) q
              ∙ ap (λ (y : B). p (record { key = x.key; value = y })) (sym w)
      go false e ih = ih (sym (find_tail k x xs (eqb-false k x.key e)) ∙ f)

  -- nothing outside the range of the keys, and nothing at or below what they rise from
  pub find_outside : (low high k : ℕ) (xs : List (Entry B)) → all (between low high) (keys xs) ≡ true
      → between low high k ≡ false → find k xs ≡ none
  find_outside low high k xs h o = find_none k xs (λ m. not_both (all-mem (between low high) k (keys xs) h m) o)

  pub find-below : (j k : ℕ) (xs : List (Entry B)) → rises_from j (keys xs) ≡ true → k ≤ j → find k xs ≡ none
  find-below j k xs h p = find_none k xs (λ m. omega (arith, rises-mem j k (keys xs) h m))

  -- in a join: in the first, or else in the second
  pub find-append-left : (k : ℕ) (xs ys : List (Entry B)) (v : B) → find k xs ≡ some v → find k (xs ++ ys) ≡ some v
  unfolding find
  find-append-left k [] ys v h = absurd (none-ne-some v h)
  find-append-left k (x ∷ xs) ys v h = go (eqb k x.key) refl (find-append-left k xs ys v)
    where
      go : (b : Bool) → eqb k x.key ≡ b → (find k xs ≡ some v → find k (xs ++ ys) ≡ some v)
          → find k (x ∷ (xs ++ ys)) ≡ some v
      go true e ih =
          find_head k x (xs ++ ys) (eqb-true k x.key e) ∙ (sym (find_head k x xs (eqb-true k x.key e)) ∙ h)
      go false e ih =
          let t = eqb-false k x.key e in
          find_tail k x (xs ++ ys) t ∙ ih (sym (find_tail k x xs t) ∙ h)

  pub find-append_right : (k : ℕ) (xs ys : List (Entry B)) → find k xs ≡ none → find k (xs ++ ys) ≡ find k ys
  find-append_right k [] ys h = refl
  find-append_right k (x ∷ xs) ys h = go (eqb k x.key) refl (find-append_right k xs ys)
    where
      go : (b : Bool) → eqb k x.key ≡ b → (find k xs ≡ none → find k (xs ++ ys) ≡ find k ys)
          → find k (x ∷ (xs ++ ys)) ≡ find k ys
      go true e ih = absurd (none-ne-some x.value (sym h ∙ find_head k x xs (eqb-true k x.key e)))
      go false e ih =
          let t = eqb-false k x.key e in
          find_tail k x (xs ++ ys) t ∙ ih (sym (find_tail k x xs t) ∙ h)

  -- the entry at a place is what is found under its key
  pub find_at : (xs : List (Entry B)) (i : ℕ) (d : Entry B) → rising (keys xs) ≡ true → i < length xs
      → find (get_or xs i d).key xs ≡ some (get_or xs i d).value
  unfolding keys
  find_at [] i d h p = absurd (omega arith)
  find_at (x ∷ xs) zero d h p = find_head x.key x xs refl
  find_at (x ∷ xs) (suc i) d h p =
      let ih = find_at xs i d (rising_tail x.key (keys xs) h) (omega arith) in
      let m = mem-find (get_or xs i d).key xs (get_or xs i d).value ih in
      let up = rises-mem x.key (get_or xs i d).key (keys xs) (rising-from x.key (keys xs) h) m in
      find_tail (get_or xs i d).key x xs (λ e. omega (arith, up, e)) ∙ ih

  -- ── A range cut ───────────────────────────────────────────────────────────────────────────────────────────────

  pub cut_in : (low high : ℕ) (x : Entry B) (xs : List (Entry B)) → between low high x.key ≡ true
      → cut low high (x ∷ xs) ≡ x ∷ cut low high xs
  unfolding cut
  cut_in low high x xs e = rw (e, cut)

  pub cut_out : (low high : ℕ) (x : Entry B) (xs : List (Entry B)) → between low high x.key ≡ false
      → cut low high (x ∷ xs) ≡ cut low high xs
  unfolding cut
  cut_out low high x xs e = rw (e, cut)

  pub cut-nil : (low high : ℕ) → cut {B = B} low high [] ≡ []
  unfolding cut
  cut-nil low high = refl

  -- a fact of a cut, by induction: nothing, an entry kept, an entry left out
  cut_ind : (low high : ℕ) (P : List (Entry B) → List (Entry B) → Type 0) → P [] []
      → ((x : Entry B) (xs : List (Entry B)) → between low high x.key ≡ true → P xs (cut low high xs) → P (x ∷ xs) (x ∷ cut low high xs))
      → ((x : Entry B) (xs : List (Entry B)) → between low high x.key ≡ false → P xs (cut low high xs) → P (x ∷ xs) (cut low high xs))
      → (xs : List (Entry B)) → P xs (cut low high xs)
  cut_ind low high P none' kept left [] = rw cut-nil none'
  cut_ind low high P none' kept left (x ∷ xs) = go (between low high x.key) refl (cut_ind low high P none' kept left xs)
    where
      go : (b : Bool) → between low high x.key ≡ b → P xs (cut low high xs) → P (x ∷ xs) (cut low high (x ∷ xs))
      go true e ih = rw (cut_in low high x xs e) (kept x xs e ih)
      go false e ih = rw (cut_out low high x xs e) (left x xs e ih)

  pub find-cut : (low high k : ℕ) (xs : List (Entry B)) → between low high k ≡ true → find k (cut low high xs) ≡ find k xs
  find-cut low high k xs h =
      cut_ind low high (λ xs ys. find k ys ≡ find k xs) refl
      (λ x xs e ih. find-cons k x (cut low high xs) xs ih)
      (λ x xs e ih. ih ∙ sym (find_tail k x xs (λ q. not_both h (ap (between low high) q ∙ e))))
      xs

  pub cut-within : (low high : ℕ) (xs : List (Entry B)) → all (between low high) (keys (cut low high xs)) ≡ true
  unfolding keys
  cut-within low high xs =
      cut_ind low high (λ xs ys. all (between low high) (keys ys) ≡ true) (all_nil (between low high))
      (λ x xs e ih. all_cons (between low high) x.key (keys (cut low high xs)) e ih)
      (λ x xs e ih. ih)
      xs

  -- what each entry passes, each entry of a cut passes
  pub all-cut : (p : Entry B → Bool) (low high : ℕ) (xs : List (Entry B)) → all p xs ≡ true → all p (cut low high xs) ≡ true
  all-cut p low high xs =
      cut_ind low high (λ xs ys. all p xs ≡ true → all p ys ≡ true) (λ h. all_nil p)
      (λ x xs e ih h. all_cons p x (cut low high xs) (all_head p x xs h) (ih (all_tail p x xs h)))
      (λ x xs e ih h. ih (all_tail p x xs h))
      xs

  pub length_cut : (low high : ℕ) (xs : List (Entry B)) → length (cut low high xs) ≤ length xs
  length_cut low high xs =
      cut_ind low high (λ xs ys. length ys ≤ length xs) (omega arith)
      (λ x xs e ih. omega arith)
      (λ x xs e ih. omega arith)
      xs

  pub cut-rises : (low high k : ℕ) (xs : List (Entry B)) → rises_from k (keys xs) ≡ true → rises_from k (keys (cut low high xs)) ≡ true
  unfolding keys
  cut-rises low high k xs =
      cut_ind low high (λ xs ys. (k : ℕ) → rises_from k (keys xs) ≡ true → rises_from k (keys ys) ≡ true) (λ k h. h)
      (λ x xs e ih k h. rises-cons k x.key (keys (cut low high xs)) (rises-head k x.key (keys xs) h)
      (ih x.key (rises_tail k x.key (keys xs) h)))
      (λ x xs e ih k h. rises-lower k x.key (keys (cut low high xs))
      (omega (arith, rises-head k x.key (keys xs) h))
      (ih x.key (rises_tail k x.key (keys xs) h)))
      xs k

  pub cut-rising : (low high : ℕ) (xs : List (Entry B)) → rising (keys xs) ≡ true → rising (keys (cut low high xs)) ≡ true
  unfolding keys
  cut-rising low high xs =
      cut_ind low high (λ xs ys. rising (keys xs) ≡ true → rising (keys ys) ≡ true) (λ h. h)
      (λ x xs e ih h. rising-of-from x.key (keys (cut low high xs)) (cut-rises low high x.key xs (rising-from x.key (keys xs) h)))
      (λ x xs e ih h. ih (rising_tail x.key (keys xs) h))
      xs

  pub mem-cut : (low high k : ℕ) (xs : List (Entry B)) → mem k (keys (cut low high xs)) ≡ true → mem k (keys xs) ≡ true
  mem-cut low high k xs m =
      let r = find-mem k (cut low high xs) m in
      let i = all-mem (between low high) k (keys (cut low high xs)) (cut-within low high xs) m in
      mem-find k xs r.0 (sym (find-cut low high k xs i) ∙ r.1)

  pub mem-cut_in : (low high k : ℕ) (xs : List (Entry B)) → between low high k ≡ true → mem k (keys xs) ≡ true
      → mem k (keys (cut low high xs)) ≡ true
  mem-cut_in low high k xs i m =
      let r = find-mem k xs m in
      mem-find k (cut low high xs) r.0 (find-cut low high k xs i ∙ r.1)

  -- all within: nothing is cut away; all outside: nothing is left
  pub cut_all : (low high : ℕ) (xs : List (Entry B)) → all (between low high) (keys xs) ≡ true → cut low high xs ≡ xs
  unfolding keys
  cut_all low high [] h = cut-nil low high
  cut_all low high (x ∷ xs) h =
      cut_in low high x xs (all_head (between low high) x.key (keys xs) h)
      ∙ ap (λ (ys : List (Entry B)). x ∷ ys) (cut_all low high xs (all_tail (between low high) x.key (keys xs) h))

  pub cut-none : (low high : ℕ) (xs : List (Entry B)) → ((k : ℕ) → mem k (keys xs) ≡ true → between low high k ≡ false)
      → cut low high xs ≡ []
  unfolding keys
  cut-none low high [] h = cut-nil low high
  cut-none low high (x ∷ xs) h =
      cut_out low high x xs (h x.key (mem-head x.key (keys xs)))
      ∙ cut-none low high xs (λ k m. h k (mem_tail k x.key (keys xs) m))

  -- the same entry in front
  pub cut-cons : (low high : ℕ) (x : Entry B) (xs ys : List (Entry B)) → cut low high xs ≡ cut low high ys
      → cut low high (x ∷ xs) ≡ cut low high (x ∷ ys)
  cut-cons low high x xs ys h = go (between low high x.key) refl
    where
      go : (b : Bool) → between low high x.key ≡ b → cut low high (x ∷ xs) ≡ cut low high (x ∷ ys)
      go true e =
          cut_in low high x xs e ∙ (ap (λ (zs : List (Entry B)). x ∷ zs) h ∙ sym (cut_in low high x ys e))
      go false e = cut_out low high x xs e ∙ (h ∙ sym (cut_out low high x ys e))

  -- a cut of a cut: the narrower range counts
  pub cut-cut : (low high l h : ℕ) (xs : List (Entry B)) → low ≤ l → h ≤ high → cut l h (cut low high xs) ≡ cut l h xs
  cut-cut low high l h xs p q =
      cut_ind low high (λ xs ys. cut l h ys ≡ cut l h xs) refl
      (λ x xs e ih. cut-cons l h x (cut low high xs) xs ih)
      (λ x xs e ih. ih
      ∙ sym (cut_out l h x xs (fails (between l h x.key) (λ b. not_both (between_wider l h low high x.key p q b) e))))
      xs

  pub cut_wider : (low high l h : ℕ) (xs : List (Entry B)) → l ≤ low → high ≤ h → cut l h (cut low high xs) ≡ cut low high xs
  cut_wider low high l h xs p q =
      cut_all l h (cut low high xs)
      (all_imp (between low high) (between l h) (λ k b. between_wider low high l h k p q b) (keys (cut low high xs)) (cut-within low high xs))

  pub cut-append : (low high : ℕ) (xs ys : List (Entry B)) → cut low high (xs ++ ys) ≡ cut low high xs ++ cut low high ys
  cut-append low high [] ys = rw cut-nil
  cut-append low high (x ∷ xs) ys = go (between low high x.key) refl (cut-append low high xs ys)
    where
      go : (b : Bool) → between low high x.key ≡ b → cut low high (xs ++ ys) ≡ cut low high xs ++ cut low high ys
          → cut low high (x ∷ (xs ++ ys)) ≡ cut low high (x ∷ xs) ++ cut low high ys
      go true e ih = rw (cut_in low high x (xs ++ ys) e, cut_in low high x xs e, ih)
      go false e ih = rw (cut_out low high x (xs ++ ys) e, cut_out low high x xs e, ih)

  -- a cut from a key on starts with that key's entry
  pub cut-first : (low high : ℕ) (xs : List (Entry B)) → low ≤ high → rising (keys xs) ≡ true → mem low (keys xs) ≡ true
      → (x : Entry B) × (ys : List (Entry B)) × (cut low high xs ≡ x ∷ ys) × (x.key ≡ low)
  unfolding keys
  cut-first low high [] p h m = absurd (mem-nil low m)
  cut-first low high (x ∷ xs) p h m =
      go (mem_cases low x.key (keys xs) m) (cut-first low high xs p (rising_tail x.key (keys xs) h))
    where
      go : (low ≡ x.key) ⊎ (mem low (keys xs) ≡ true)
          → (mem low (keys xs) ≡ true → (x : Entry B) × (ys : List (Entry B)) × (cut low high xs ≡ x ∷ ys) × (x.key ≡ low))
          → (y : Entry B) × (ys : List (Entry B)) × (cut low high (x ∷ xs) ≡ y ∷ ys) × (y.key ≡ low)
      go (inl e) ih =
          (x, cut low high xs, cut_in low high x xs (between-of low high x.key (omega arith) (omega arith)), sym e)
      go (inr k) ih =
          let r = ih k in
          let b = rises-mem x.key low (keys xs) (rising-from x.key (keys xs) h) k in
          (r.0, r.1, cut_out low high x xs (between-below low high x.key b) ∙ r.2, r.3)

  -- ── Parts by place are cuts ───────────────────────────────────────────────────────────────────────────────────

  -- the entries before a place, and those from it on
  pub cut-take : (low high i d : ℕ) (xs : List (Entry B)) → rising (keys xs) ≡ true → all (between low high) (keys xs) ≡ true
      → 0 < i → i < length xs → cut low (get_or (keys xs) i d - 1) xs ≡ take i xs
  cut-take low high i d xs h w p q =
      ap (cut low m) (sym (take-append-drop i xs))
      ∙ (cut-append low m (take i xs) (drop i xs) ∙ rw (kept, left, append-nil))
    where
      m : ℕ
      m = get_or (keys xs) i d - 1

      n : i < length (keys xs)
      n = rw length-keys q

      within : (k : ℕ) → mem k (keys (take i xs)) ≡ true → between low m k ≡ true
      within k e =
          let f : mem k (take i (keys xs)) ≡ true = rw keys-take at e in
          let b = all-mem (between low high) k (take i (keys xs)) (all_take (between low high) i (keys xs) w) f in
          let u = rising-before (keys xs) i k d h n f in
          between-of low m k (between-low low high k b) (omega arith)

      outside : (k : ℕ) → mem k (keys (drop i xs)) ≡ true → between low m k ≡ false
      outside k e =
          let u = rising-behind (keys xs) i k d h (rw keys-drop at e) in
          let v = rising-at (keys xs) 0 i d h p n in
          between-above low m k (omega arith)

      kept : cut low m (take i xs) ≡ take i xs
      kept = cut_all low m (take i xs) (all_of-mem (between low m) (keys (take i xs)) within)

      left : cut low m (drop i xs) ≡ []
      left = cut-none low m (drop i xs) outside

  pub cut-drop : (low high i d : ℕ) (xs : List (Entry B)) → rising (keys xs) ≡ true → all (between low high) (keys xs) ≡ true
      → i < length xs → cut (get_or (keys xs) i d) high xs ≡ drop i xs
  cut-drop low high i d xs h w q =
      ap (cut m high) (sym (take-append-drop i xs))
      ∙ (cut-append m high (take i xs) (drop i xs) ∙ rw (left, kept))
    where
      m : ℕ
      m = get_or (keys xs) i d

      n : i < length (keys xs)
      n = rw length-keys q

      within : (k : ℕ) → mem k (keys (drop i xs)) ≡ true → between m high k ≡ true
      within k e =
          let f : mem k (drop i (keys xs)) ≡ true = rw keys-drop at e in
          let b = all-mem (between low high) k (drop i (keys xs)) (all_drop (between low high) i (keys xs) w) f in
          between-of m high k (rising-behind (keys xs) i k d h f) (between-high low high k b)

      outside : (k : ℕ) → mem k (keys (take i xs)) ≡ true → between m high k ≡ false
      outside k e = between-below m high k (rising-before (keys xs) i k d h n (rw keys-take at e))

      kept : cut m high (drop i xs) ≡ drop i xs
      kept = cut_all m high (drop i xs) (all_of-mem (between m high) (keys (drop i xs)) within)

      left : cut m high (take i xs) ≡ []
      left = cut-none m high (take i xs) outside
