-- Entries but the one under a key: what is found then, what stays in order, and how many there are. Assumes nothing.
use Rattle.std.proofs.Common.{◌≡◌, ℕ, suc, ◌≤◌, Bool, true, false, eqb, List, [], ◌∷◌, length, sym, refl, ap, ◌∙◌, arith, eq-eqb, ne_eqb, eqb-true}
use mathlib.Core.Option.{some, none, none-ne-some}
use borrow.Author.Tests.{eqb-false}
use Rattle.rules.specs.Test.{all}
use Rattle.rules.specs.Entry.{Entry, keys, find, without, rises_from, rising}
use Rattle.rules.proofs.Entries.Tests.{all_head, all_tail, all_cons}
use Rattle.rules.proofs.Entries.Rises.{rises-nil, rises-head, rises_tail, rises-cons, rises-lower, rising-nil, rising-from, rising-of-from, rising_tail, all-keys}
use Rattle.rules.proofs.Entries.Entries.{find_tail, find-cons, find-below}

module _ {B : Type 0} where
  -- ── The two cases ─────────────────────────────────────────────────────────────────────────────────────────────

  pub without-nil : (k : ℕ) → without {B = B} k [] ≡ []
  unfolding without
  without-nil k = refl

  pub without-head : (k : ℕ) (x : Entry B) (xs : List (Entry B)) → k ≡ x.key → without k (x ∷ xs) ≡ xs
  unfolding without
  without-head k x xs h = rw (eq-eqb k x.key h, without)

  pub without_tail : (k : ℕ) (x : Entry B) (xs : List (Entry B)) → (k ≡ x.key → ⊥) → without k (x ∷ xs) ≡ x ∷ without k xs
  unfolding without
  without_tail k x xs h = rw (ne_eqb k x.key h, without)

  -- a fact of the entries but one, by induction
  without_ind : (k : ℕ) (P : List (Entry B) → List (Entry B) → Type 0) → P [] []
      → ((x : Entry B) (xs : List (Entry B)) → k ≡ x.key → P (x ∷ xs) xs)
      → ((x : Entry B) (xs : List (Entry B)) → (k ≡ x.key → ⊥) → P xs (without k xs) → P (x ∷ xs) (x ∷ without k xs))
      → (xs : List (Entry B)) → P xs (without k xs)
  without_ind k P last here behind [] = rw without-nil last
  without_ind k P last here behind (x ∷ xs) = go (eqb k x.key) refl (without_ind k P last here behind xs)
    where
      go : (b : Bool) → eqb k x.key ≡ b → P xs (without k xs) → P (x ∷ xs) (without k (x ∷ xs))
      go true e ih = let h = eqb-true k x.key e in rw (without-head k x xs h) (here x xs h)
      go false e ih = let h = eqb-false k x.key e in rw (without_tail k x xs h) (behind x xs h ih)

  -- ── What is found ─────────────────────────────────────────────────────────────────────────────────────────────

  pub find-without-same : (k : ℕ) (xs : List (Entry B)) → rising (keys xs) ≡ true → find k (without k xs) ≡ none
  unfolding keys find
  find-without-same k =
      without_ind k (λ xs ys. rising (keys xs) ≡ true → find k ys ≡ none) (λ r. refl)
      (λ x xs h r. find-below x.key k xs (rising-from x.key (keys xs) r) (omega (arith, h)))
      (λ x xs h ih r. find_tail k x (without k xs) h ∙ ih (rising_tail x.key (keys xs) r))

  pub find-without-other : (j k : ℕ) (xs : List (Entry B)) → (j ≡ k → ⊥) → find j (without k xs) ≡ find j xs
  find-without-other j k xs d =
      without_ind k (λ xs ys. find j ys ≡ find j xs) refl
      (λ x xs h. sym (find_tail j x xs (λ e. d (e ∙ sym h))))
      (λ x xs h ih. find-cons j x (without k xs) xs ih)
      xs

  -- ── What stays ────────────────────────────────────────────────────────────────────────────────────────────────

  pub all_without : (p : Entry B → Bool) (k : ℕ) (xs : List (Entry B)) → all p xs ≡ true → all p (without k xs) ≡ true
  all_without p k =
      without_ind k (λ xs ys. all p xs ≡ true → all p ys ≡ true) (λ h. h)
      (λ x xs e h. all_tail p x xs h)
      (λ x xs e ih h. all_cons p x (without k xs) (all_head p x xs h) (ih (all_tail p x xs h)))

  pub without-within : (p : ℕ → Bool) (k : ℕ) (xs : List (Entry B)) → all p (keys xs) ≡ true → all p (keys (without k xs)) ≡ true
  without-within p k xs h = rw all-keys (all_without (λ y. p y.key) k xs (rw all-keys at h))

  without-rises : (k j : ℕ) (xs : List (Entry B)) → rises_from j (keys xs) ≡ true → rises_from j (keys (without k xs)) ≡ true
  unfolding keys
  without-rises k j xs =
      without_ind k (λ xs ys. (j : ℕ) → rises_from j (keys xs) ≡ true → rises_from j (keys ys) ≡ true) (λ j h. rises-nil j)
      (λ x xs e j h. rises-lower j x.key (keys xs) (omega (arith, rises-head j x.key (keys xs) h)) (rises_tail j x.key (keys xs) h))
      (λ x xs e ih j h. rises-cons j x.key (keys (without k xs)) (rises-head j x.key (keys xs) h)
      (ih x.key (rises_tail j x.key (keys xs) h)))
      xs j

  pub without-rising : (k : ℕ) (xs : List (Entry B)) → rising (keys xs) ≡ true → rising (keys (without k xs)) ≡ true
  unfolding keys
  without-rising k =
      without_ind k (λ xs ys. rising (keys xs) ≡ true → rising (keys ys) ≡ true) (λ h. rising-nil)
      (λ x xs e h. rising_tail x.key (keys xs) h)
      (λ x xs e ih h. rising-of-from x.key (keys (without k xs))
      (without-rises k x.key xs (rising-from x.key (keys xs) h)))

  -- ── How many ──────────────────────────────────────────────────────────────────────────────────────────────────

  pub length-without-le : (k : ℕ) (xs : List (Entry B)) → length (without k xs) ≤ length xs
  length-without-le k =
      without_ind k (λ xs ys. length ys ≤ length xs) (omega arith) (λ x xs e. omega arith) (λ x xs e ih. omega arith)

  -- one less, where there is one
  pub length_without : (k : ℕ) (xs : List (Entry B)) (v : B) → find k xs ≡ some v → suc (length (without k xs)) ≡ length xs
  unfolding find
  length_without k xs v =
      without_ind k (λ xs ys. find k xs ≡ some v → suc (length ys) ≡ length xs) (λ f. absurd (none-ne-some v f))
      (λ x xs e f. refl)
      (λ x xs e ih f. ap suc (ih (sym (find_tail k x xs e) ∙ f)))
      xs
